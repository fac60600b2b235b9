-- Runs on a new table, by computation: the claims speak of something, and a wrong definition would break a row.
use Rattle.std.specs.Prelude.{ℕ, zero, suc, ◌≡◌, refl, true, false, List, [], ◌∷◌, ◌++◌, map}
use Prim.Native.String.{String}
use Rattle.std.proofs.Common.{arith}
use Rattle.ascii.specs.Literals.{text}
use Rattle.origins.specs.Origins.{origin_of}
use Rattle.items.specs.Items.Item.{token, string}
use Rattle.dictionaries.specs.OneItemMore.{OneItemMore}
use Rattle.pieces.specs.OneWordMore.{OneWordMore}
use Rattle.containers.specs.Attributes.{Attributes}
use Rattle.containers.specs.Policies.{is_semicolon}
use Rattle.containers.specs.Widening.{OneKeywordMore}
use Rattle.decisions.specs.Decisions.Decision.{disabled, enabled}
use Rattle.document_model.specs.Runs.{answers_by}
use Rattle.document_model.specs.Model.{Text, Table, values_from, top_identity, top_document, Call, top_load, framed_load, unload, question, enabled_features, listing, forecast_of, Answer, refused, loaded, removed, decision, features, serials, answer_to, table_left, answers}
use Rattle.document_model.specs.Computing.{computing}

abbrev pub camera : ℕ
camera = 0

-- a frame with src https://b.example and no sandbox attribute, by its allow attribute
abbrev pub allowing : String → Attributes
allowing allow = record { allow = text allow; allowfullscreen = false; has_sandbox = false; sandbox = []; src = text "https://b.example" }

-- the same with a sandbox attribute
abbrev pub with_sandbox : String → String → Attributes
with_sandbox sandbox allow = record { allow = text allow; allowfullscreen = false; has_sandbox = true; sandbox = text sandbox; src = text "https://b.example" }

-- one with the same src that allows usb everywhere and has allowfullscreen
abbrev wide : Attributes
wide = record { allow = text "usb *"; allowfullscreen = true; has_sandbox = false; sandbox = []; src = text "https://b.example" }

-- a run, and the answers that it must give
record Run : Type 0 where
  calls : List Call
  expected : List Answer

-- ---- claim 1: a document that is Disabled for camera with two levels beneath it, and two documents that aren't beneath

abbrev pub loads : List Call
loads =
    top_load (text "camera=()") (text "https://a.example")
    ∷ framed_load 1 [] (text "https://b.example") (allowing "camera")
    ∷ framed_load 2 (text "camera=*") (text "https://c.example") (allowing "camera *")
    ∷ top_load [] (text "https://d.example")
    ∷ framed_load 4 [] (text "null") (allowing "")
    ∷ []

-- an unload and a refusal in between
abbrev pub between : List Call
between = unload 5 ∷ question 5 camera [] ∷ []

abbrev flows : Run
flows = record {
  calls =
      loads ++ (question 1 camera [] ∷ between)
      ++ (question 1 camera [] ∷ question 2 camera (text "https://b.example") ∷ question 3 camera [] ∷ question 3 camera (text "https://a.example") ∷ question 4 camera [] ∷ listing 1 (7 ∷ 7 ∷ 7 ∷ []) ∷ []);
  expected =
      loaded 1 false ∷ loaded 2 false ∷ loaded 3 false ∷ loaded 4 false ∷ loaded 5 false ∷ decision disabled ∷ removed 1 ∷ refused 1
      ∷ decision disabled ∷ decision disabled ∷ decision disabled ∷ decision disabled ∷ decision enabled ∷ serials 2 (2 ∷ 3 ∷ 7 ∷ []) ∷ [];
}

-- ---- claim 2: one item more, and one word more, each adds an Enabled in a grandchild

abbrev pub fewer_items : Text
fewer_items = text "camera=(self)"

abbrev pub more_items : Text
more_items = text "camera=(self \"https://b.example\")"

pub item_added : OneItemMore fewer_items more_items
unfolding computing
item_added = record { before = []; behind = []; key = text "camera"; front = token (text "self") ∷ []; back = []; item = string (text "https://b.example"); first = refl; second = refl }

abbrev pub fewer_words : String
fewer_words = "camera https://c.example"

abbrev pub more_words : String
more_words = "camera https://c.example https://b.example"

pub word_added : OneWordMore is_semicolon (text fewer_words) (text more_words)
unfolding computing
word_added = record { earlier = []; later = []; feature = text "camera"; front = text "https://c.example" ∷ []; back = []; one = omega arith; word = text "https://b.example"; first = refl; second = refl }

-- the grandchild's load, and what is asked then
abbrev pub grandchild : List Call
grandchild = framed_load 2 [] [] (allowing "") ∷ question 3 camera [] ∷ enabled_features 3 ∷ forecast_of 1 (allowing "camera") ∷ []

abbrev pub framed : String → Call
framed allow = framed_load 1 [] (text "https://b.example") (allowing allow)

abbrev pub top : Text → Call
top header = top_load header (text "https://a.example")

abbrev pub family : Text → String → List Call
family header allow = top header ∷ framed allow ∷ grandchild

-- ---- 02, R-1: one keyword more adds an Enabled in a grandchild; `allow-same-origin` is no keyword, and takes one away

abbrev pub scripts : ℕ
scripts = 14

abbrev pub fewer_keywords : String
fewer_keywords = "allow-forms"

abbrev pub more_keywords : String
more_keywords = "Allow-SCRIPTS\tallow-forms"

pub keyword_added : OneKeywordMore (text fewer_keywords) (text more_keywords)
unfolding computing
keyword_added = record { front = []; back = text "allow-forms" ∷ []; word = text "Allow-SCRIPTS"; feature = scripts; keyword = text "allow-scripts"; is_keyword = refl; any_case = refl; first = refl; second = refl }

abbrev nine : String
nine = "allow-downloads-without-user-activation allow-forms allow-modals allow-orientation-lock allow-pointer-lock allow-popups allow-presentation allow-scripts allow-top-navigation"

-- a frame with a sandbox attribute, then one in it and what is asked then
abbrev pub sandbox_frame : String → Call
sandbox_frame sandbox = framed_load 1 [] (text "null") (with_sandbox sandbox "")

abbrev pub within : List Call
within = framed_load 2 [] (text "null") (allowing "") ∷ question 3 scripts [] ∷ enabled_features 3 ∷ forecast_of 2 (allowing "") ∷ []

abbrev pub sandbox_family : String → List Call
sandbox_family sandbox = top [] ∷ sandbox_frame sandbox ∷ within

-- the load at https://x.example gets 5 or a serial, and so the next load another one
abbrev pub same_origin_run : String → List Call
same_origin_run sandbox = top [] ∷ sandbox_frame sandbox ∷ framed_load 2 [] (text "https://x.example") (allowing "") ∷ top_load [] (text "https://c.example") ∷ question 3 camera [] ∷ []

-- ---- all runs

abbrev long : ℕ → Text
long zero = []
long (suc n) = 32 ∷ long n

rows : List Run
rows =
    flows
    ∷ record { calls = family fewer_items "camera"; expected = loaded 1 false ∷ loaded 2 false ∷ loaded 3 false ∷ decision disabled ∷ features 64908 ∷ features 64908 ∷ [] }
    ∷ record { calls = family more_items "camera"; expected = loaded 1 false ∷ loaded 2 false ∷ loaded 3 false ∷ decision enabled ∷ features 64909 ∷ features 64909 ∷ [] }
    ∷ record { calls = family [] fewer_words; expected = loaded 1 false ∷ loaded 2 false ∷ loaded 3 false ∷ decision disabled ∷ features 64908 ∷ features 64909 ∷ [] }
    ∷ record { calls = family [] more_words; expected = loaded 1 false ∷ loaded 2 false ∷ loaded 3 false ∷ decision enabled ∷ features 64909 ∷ features 64909 ∷ [] }
    ∷ record { calls = top [] ∷ forecast_of 1 (allowing fewer_words) ∷ forecast_of 1 (allowing more_words) ∷ []; expected = loaded 1 false ∷ features 64908 ∷ features 64909 ∷ [] }
    -- claim 4: a load that arrives at the declared origin inherits what was forecast, and one that arrives elsewhere something else
    ∷ record {
      calls = top [] ∷ forecast_of 1 (allowing "camera") ∷ framed_load 1 [] (text "https://c.example") (allowing "camera") ∷ enabled_features 2 ∷ framed "camera" ∷ enabled_features 3 ∷ [];
      expected = loaded 1 false ∷ features 64909 ∷ loaded 2 false ∷ features 64908 ∷ loaded 3 false ∷ features 64909 ∷ [];
    }
    ∷ record {
      calls = top [] ∷ forecast_of 1 (with_sandbox "" "camera *") ∷ framed_load 1 [] (text "null") (with_sandbox "" "camera *") ∷ enabled_features 2 ∷ [];
      expected = loaded 1 false ∷ features 1 ∷ loaded 2 false ∷ features 1 ∷ [];
    }
    -- 02, R-1: forms alone, worth 8; and scripts too, worth 16,384
    ∷ record { calls = sandbox_family fewer_keywords; expected = loaded 1 false ∷ loaded 2 false ∷ loaded 3 false ∷ decision disabled ∷ features 8 ∷ features 8 ∷ [] }
    ∷ record { calls = sandbox_family more_keywords; expected = loaded 1 false ∷ loaded 2 false ∷ loaded 3 false ∷ decision enabled ∷ features 16392 ∷ features 16392 ∷ [] }
    ∷ record { calls = top [] ∷ forecast_of 1 (with_sandbox fewer_keywords "") ∷ forecast_of 1 (with_sandbox more_keywords "") ∷ []; expected = loaded 1 false ∷ features 8 ∷ features 16392 ∷ [] }
    -- all nine keywords: the ten without plugins, worth 1,024; `allow-same-origin` alone opens none of the ten
    ∷ record {
      calls = top [] ∷ forecast_of 1 (with_sandbox nine "") ∷ sandbox_frame nine ∷ enabled_features 2 ∷ framed_load 1 [] (text "https://b.example") (with_sandbox "allow-same-origin" "") ∷ enabled_features 3 ∷ [];
      expected = loaded 1 false ∷ features 63884 ∷ loaded 2 false ∷ features 63884 ∷ loaded 3 false ∷ features 0 ∷ [];
    }
    -- in a sandboxed document, a frame with a sandbox attribute of its own: forms needs its keyword or an entry again, and scripts stays closed
    ∷ record {
      calls = top [] ∷ sandbox_frame fewer_keywords ∷ forecast_of 2 (with_sandbox "" "") ∷ forecast_of 2 (with_sandbox "allow-forms" "") ∷ forecast_of 2 (with_sandbox "allow-scripts" "") ∷ forecast_of 2 (with_sandbox "allow-same-origin" "forms *; scripts *") ∷ [];
      expected = loaded 1 false ∷ loaded 2 false ∷ features 0 ∷ features 8 ∷ features 0 ∷ features 8 ∷ [];
    }
    ∷ record { calls = same_origin_run ""; expected = loaded 1 false ∷ loaded 2 false ∷ refused 5 ∷ loaded 3 false ∷ decision enabled ∷ [] }
    ∷ record { calls = same_origin_run "allow-same-origin"; expected = loaded 1 false ∷ loaded 2 false ∷ loaded 3 false ∷ loaded 4 false ∷ decision disabled ∷ [] }
    -- a bare `scripts` stays Disabled, since the declared origin is fresh, and with `allow-same-origin` it is Enabled; `scripts *` is Enabled, and `plugins *` isn't: worth 16,384 and 1,024
    ∷ record {
      calls = top [] ∷ framed_load 1 [] (text "null") (with_sandbox "" "scripts") ∷ question 2 scripts [] ∷ forecast_of 1 (with_sandbox "" "scripts") ∷ framed_load 1 [] (text "https://b.example") (with_sandbox "allow-same-origin" "scripts") ∷ question 3 scripts [] ∷ forecast_of 1 (with_sandbox "" "scripts *; plugins *") ∷ [];
      expected = loaded 1 false ∷ loaded 2 false ∷ decision disabled ∷ features 0 ∷ loaded 3 false ∷ decision enabled ∷ features 16384 ∷ [];
    }
    -- a frame without a sandbox attribute in a sandboxed document: no step of its own, but nothing that was Disabled comes back
    ∷ record {
      calls = top [] ∷ sandbox_frame "allow-popups" ∷ framed_load 2 (text "scripts=*") (text "null") (allowing "scripts *") ∷ enabled_features 3 ∷ [];
      expected = loaded 1 false ∷ loaded 2 false ∷ loaded 3 false ∷ features 4096 ∷ [];
    }
    -- unloading removes all beneath
    ∷ record {
      calls = top [] ∷ framed_load 1 [] [] (allowing "") ∷ framed_load 2 [] [] (allowing "") ∷ unload 1 ∷ enabled_features 3 ∷ [];
      expected = loaded 1 false ∷ loaded 2 false ∷ loaded 3 false ∷ removed 3 ∷ refused 1 ∷ [];
    }
    -- serials are never used again
    ∷ record {
      calls = top_load [] (text "null") ∷ unload 1 ∷ top_load [] (text "null") ∷ unload 1 ∷ [];
      expected = loaded 1 false ∷ removed 1 ∷ loaded 2 false ∷ refused 1 ∷ [];
    }
    -- a document loaded with `null` isn't at its container's origin, one loaded with the empty text is, at an opaque one too
    ∷ record {
      calls = top_load [] (text "null") ∷ framed_load 1 [] (text "null") (allowing "") ∷ question 2 camera [] ∷ framed_load 1 [] [] (allowing "") ∷ question 3 camera [] ∷ question 3 camera (text "null") ∷ [];
      expected = loaded 1 false ∷ loaded 2 false ∷ decision disabled ∷ loaded 3 false ∷ decision enabled ∷ decision disabled ∷ [];
    }
    -- the order of the refusals
    ∷ record {
      calls =
          question 9 17 (text "https://a.example:443")
          ∷ question 9 17 []
          ∷ question 9 16 []
          ∷ top_load (long 4097) []
          ∷ top_load (long 4096) []
          ∷ framed_load 9 [] (text "null") (record { allow = []; allowfullscreen = false; has_sandbox = false; sandbox = long 4097; src = text "x" })
          ∷ framed_load 9 [] (text "null") (record { allow = []; allowfullscreen = false; has_sandbox = false; sandbox = []; src = text "x" })
          ∷ framed_load 9 [] (text "https://b.example") (with_sandbox "" "")
          ∷ [];
      expected = refused 3 ∷ refused 2 ∷ refused 1 ∷ refused 4 ∷ refused 3 ∷ refused 4 ∷ refused 3 ∷ refused 1 ∷ [];
    }
    -- sandboxed documents, and runs that are too short
    ∷ record {
      calls =
          top_load (text "camera") (text "https://a.example")
          ∷ framed_load 1 [] (text "https://b.example") (with_sandbox "" "")
          ∷ framed_load 1 (text "camera=(") (text "null") (with_sandbox "" "")
          ∷ framed_load 2 [] [] (allowing "")
          ∷ listing 1 []
          ∷ listing 2 []
          ∷ [];
      expected = loaded 1 false ∷ refused 5 ∷ loaded 2 true ∷ refused 5 ∷ refused 9 ∷ serials 0 [] ∷ [];
    }
    -- a question is about the origin of its text, and by the declared list: https://b.example alone
    ∷ record {
      calls = top_load (text "camera=(\"https://b.example\")") (text "https://a.example") ∷ question 1 camera (text "https://b.example") ∷ question 1 camera [] ∷ question 1 camera (text "https://a.example") ∷ [];
      expected = loaded 1 false ∷ decision enabled ∷ decision disabled ∷ decision disabled ∷ [];
    }
    -- a malformed header declares nothing, and the load says so
    ∷ record {
      calls = top_load (text "camera=(self") (text "https://a.example") ∷ question 1 camera [] ∷ [];
      expected = loaded 1 true ∷ decision enabled ∷ [];
    }
    -- forecast: the ten with default *, worth 64,908, fullscreen, 16, and usb, 65,536; enabled: without usb and forms, 8, which the frame's header declares
    ∷ record {
      calls = top [] ∷ forecast_of 1 wide ∷ framed_load 1 (text "forms=(), usb=()") (text "https://b.example") wide ∷ enabled_features 2 ∷ [];
      expected = loaded 1 false ∷ features 130460 ∷ loaded 2 false ∷ features 64916 ∷ [];
    }
    ∷ []

rows_right : map (λ r. answers r.calls) rows ≡ map (λ r. r.expected) rows
unfolding computing rows
rows_right = refl

-- ---- the sixty-fifth load, and refusal 7, which no list of calls that can be written out gets: from a table with sixty-three documents whose next serial is 4,294,967,295

abbrev late : Table
late = record { docs = values_from (λ n. top_document [] (top_identity (origin_of (text "null")) n)) 1 63; next = 4294967295 }

-- that serial is given, the next load gets 6 on the full table and else 7, and questions still answer; a forecast is no load, and answers on a full table too
late_right : answers_by answer_to table_left (top_load [] (text "null") ∷ top_load [] (text "null") ∷ forecast_of 1 (allowing "") ∷ unload 1 ∷ top_load [] (text "null") ∷ question 4294967295 camera [] ∷ []) late
    ≡ loaded 4294967295 false ∷ refused 6 ∷ features 64908 ∷ removed 1 ∷ refused 7 ∷ decision enabled ∷ []
unfolding computing
late_right = refl
