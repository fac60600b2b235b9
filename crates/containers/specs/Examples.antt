-- Document 01's and 02's rows about a frame's attributes, and the slips, by computation.
use Rattle.std.specs.Prelude.{ℕ, ◌≡◌, refl, List, [], ◌∷◌, map, Bool, true, false}
use Prim.Native.String.{String}
use Rattle.std.specs.Prelude.{Option, Some, None}
use Rattle.ascii.specs.Literals.{text}
use Rattle.ascii.specs.Texts.{every}
use Rattle.origins.specs.Origins.{Origin}
use Rattle.origins.specs.Origins.Origin.{fresh}
use Rattle.allowlists.specs.Allowlists.{Allowlist, allows}
use Rattle.allowlists.specs.Rows.{same_bool, is_absent, is_everything, is_list}
use Rattle.containers.specs.Attributes.{Attributes}
use Rattle.containers.specs.Policies.{keyword_of, container_policy}
use Rattle.containers.specs.Sandboxes.{is_sandboxed, declared_origin}
use Rattle.containers.specs.Computing.{computing}

-- a frame with an allow attribute and allowfullscreen or without, and one with a sandbox attribute or without and a src
abbrev allowing : String → Bool → Attributes
allowing allow mark = record { allow = text allow; allowfullscreen = mark; has_sandbox = false; sandbox = []; src = [] }

abbrev sandboxing : Bool → String → String → Attributes
sandboxing stands sandbox src = record { allow = []; allowfullscreen = false; has_sandbox = stands; sandbox = text sandbox; src = text src }

-- one with an allow attribute, allowfullscreen or without, and a sandbox attribute
abbrev with_sandbox : String → String → Bool → Attributes
with_sandbox sandbox allow mark = record { allow = text allow; allowfullscreen = mark; has_sandbox = true; sandbox = text sandbox; src = [] }

-- a frame, a feature, and what the frame's attributes give it: no list, `*`, or a list with the container's origin or without, the declared origin or without, and the texts of its expressions
pub data Row : Type 0 where
  absent : Attributes → ℕ → Row
  everything : Attributes → ℕ → Row
  list : Attributes → ℕ → Bool → Bool → List String → Row

abbrev right : Row → Bool
right (absent a n) = is_absent (container_policy a n)
right (everything a n) = is_everything (container_policy a n)
right (list a n c d ts) = is_list c d ts (container_policy a n)

-- camera is 0, forms 3, fullscreen 4, plugins 10, usb 16
rows : List Row
rows =
    absent (allowing "" false) 0
    ∷ list (allowing "camera" false) 0 false true []
    ∷ list (allowing "camera; camera 'none'" false) 0 false false []
    ∷ list (allowing "camera 'none'; camera" false) 0 false true []
    ∷ everything (allowing "camera *" false) 0
    ∷ everything (allowing "camera *; Camera; usb 'self'" false) 0
    ∷ list (allowing "camera *; Camera; usb 'self'" false) 16 true false []
    ∷ everything (allowing "" true) 4
    ∷ list (allowing "fullscreen 'none'" true) 4 false false []
    ∷ list (allowing "fullscreen" true) 4 false true []
    ∷ everything (allowing "Fullscreen 'none'" true) 4
    ∷ absent (allowing "" true) 0
    ∷ absent (allowing "" false) 4
    ∷ absent (allowing "camera\u{b}usb" false) 0
    ∷ list (allowing "camera 'self'\u{b}" false) 0 false false []
    ∷ list (allowing "\tcamera\n\u{c}\r'self' 'src'" false) 0 true true []
    ∷ absent (allowing "Camera" false) 0
    ∷ absent (allowing "camera,usb" false) 0
    ∷ absent (allowing "camera,usb" false) 16
    ∷ absent (allowing "* camera" false) 0
    ∷ absent (allowing ";;" false) 0
    ∷ list (allowing "camera 'SELF'" false) 0 true false []
    ∷ list (allowing "camera 'None'" false) 0 false false []
    ∷ list (allowing "camera self 'sel' http://" false) 0 false false []
    ∷ list (allowing "forms" false) 3 false true []
    ∷ list (allowing "camera https://B.example:443 'Src' junk http:" false) 0 false true ("https://b.example:443" ∷ "http:" ∷ [])
    ∷ everything (allowing "camera 'none' * https://b.example" false) 0
    ∷ absent (allowing "camera *" false) 17
    ∷ list (allowing "plugins" false) 10 false true []
    ∷ everything (allowing "plugins *" false) 10
    ∷ []

rows_right : every right rows ≡ true
unfolding computing rows
rows_right = refl

-- ---- 02, R-1: sandbox as a policy

-- the nine keywords, by feature
keywords_right : map keyword_of (0 ∷ 1 ∷ 2 ∷ 3 ∷ 4 ∷ 5 ∷ 6 ∷ 7 ∷ 8 ∷ 9 ∷ 10 ∷ 11 ∷ 12 ∷ 13 ∷ 14 ∷ 15 ∷ 16 ∷ 17 ∷ [])
    ≡ None ∷ None ∷ Some (text "allow-downloads-without-user-activation") ∷ Some (text "allow-forms") ∷ None ∷ None ∷ None ∷ Some (text "allow-modals") ∷ Some (text "allow-orientation-lock") ∷ None ∷ None
    ∷ Some (text "allow-pointer-lock") ∷ Some (text "allow-popups") ∷ Some (text "allow-presentation") ∷ Some (text "allow-scripts") ∷ Some (text "allow-top-navigation") ∷ None ∷ None ∷ []
unfolding computing
keywords_right = refl

-- forms is 3, plugins 10, popups 12, scripts 14, downloads-without-user-activation 2
sandbox_rows : List Row
sandbox_rows =
    list (with_sandbox "" "" false) 14 false false []
    ∷ absent (with_sandbox "allow-scripts" "" false) 14
    ∷ absent (with_sandbox "x\tALLOW-Scripts\u{c}allow-scripts" "" false) 14
    ∷ list (with_sandbox "allow-scripts\u{b}" "" false) 14 false false []
    ∷ list (with_sandbox "allow-scripts;" "" false) 14 false false []
    ∷ list (with_sandbox "allow-scripts2 allow-script scripts" "" false) 14 false false []
    ∷ list (with_sandbox "allow-forms allow-same-origin" "" false) 14 false false []
    ∷ absent (with_sandbox "allow-forms allow-same-origin" "" false) 3
    ∷ list (with_sandbox "allow-popups-to-escape-sandbox" "" false) 12 false false []
    ∷ list (with_sandbox "allow-downloads" "" false) 2 false false []
    ∷ absent (with_sandbox "allow-downloads-without-user-activation" "" false) 2
    -- an entry decides, beside its keyword and without
    ∷ list (with_sandbox "" "scripts" false) 14 false true []
    ∷ everything (with_sandbox "" "scripts *" false) 14
    ∷ list (with_sandbox "allow-scripts" "scripts" false) 14 false true []
    ∷ list (with_sandbox "allow-scripts" "scripts 'none'" false) 14 false false []
    ∷ list (with_sandbox "allow-scripts" "scripts https://example.com" false) 14 false false ("https://example.com" ∷ [])
    ∷ list (with_sandbox "" "Scripts *" false) 14 false false []
    -- plugins, whatever allow says
    ∷ list (with_sandbox "" "" false) 10 false false []
    ∷ list (with_sandbox "allow-plugins" "plugins *" false) 10 false false []
    ∷ list (with_sandbox "allow-same-origin" "plugins" false) 10 false false []
    -- features with default self: as without the attribute
    ∷ absent (with_sandbox "" "" false) 0
    ∷ absent (with_sandbox "allow-camera" "" false) 0
    ∷ everything (with_sandbox "" "camera *" false) 0
    ∷ everything (with_sandbox "" "" true) 4
    ∷ list (with_sandbox "" "fullscreen" true) 4 false true []
    ∷ absent (with_sandbox "" "" false) 17
    ∷ []

sandbox_rows_right : every right sandbox_rows ≡ true
unfolding computing sandbox_rows
sandbox_rows_right = refl

-- with no sandbox attribute its text isn't read
unread_right : every right (absent (sandboxing false "allow-forms" "") 14 ∷ absent (sandboxing false "allow-forms" "") 10 ∷ []) ≡ true
unfolding computing
unread_right = refl

-- ---- sandboxed documents and the declared origin

-- whether the container document is sandboxed, whether a sandbox attribute stands, its text, and whether the frame's document is sandboxed
pub data Frame : Type 0 where
  frame : Bool → Bool → String → Bool → Frame

abbrev sandbox_right : Frame → Bool
sandbox_right (frame container stands s expected) = same_bool expected (is_sandboxed container (sandboxing stands s ""))

frames : List Frame
frames =
    frame false false "" false
    ∷ frame false true "" true
    ∷ frame false true "allow-scripts" true
    ∷ frame false true "allow-scripts\u{c}Allow-Same-Origin" false
    ∷ frame false true "allow-same-origin\u{b}" true
    ∷ frame false true "allow-same-origin;" true
    ∷ frame false false "x" false
    ∷ frame true false "" true
    ∷ frame true true "allow-same-origin" true
    ∷ []

frames_right : every sandbox_right frames ≡ true
unfolding computing frames
frames_right = refl

-- a frame of a document at https://a.example: allow, whether its document is sandboxed, src, the origin asked about, and whether camera's list admits it
pub data Asked : Type 0 where
  asked : String → Bool → String → String → Bool → Asked

abbrev or_fresh : Option Origin → Origin
or_fresh (Some o) = o
or_fresh None = fresh

abbrev origin_at : Bool → String → Origin
origin_at sandboxed s = or_fresh (declared_origin sandboxed (sandboxing false "" s) (or_fresh (declared_origin false (sandboxing false "" "https://a.example") fresh)))

abbrev some_allows : Option Allowlist → Origin → Origin → Origin → Bool
some_allows (Some l) container declared o = allows l container declared o
some_allows None container declared o = false

abbrev asked_right : Asked → Bool
asked_right (asked allow sandboxed src arriving expected) =
    same_bool expected (some_allows (container_policy (allowing allow false) 0) (origin_at false "") (origin_at sandboxed src) (origin_at false arriving))

asks : List Asked
asks =
    asked "camera" false "https://b.example" "https://b.example" true
    ∷ asked "camera" false "https://b.example" "https://c.example" false
    ∷ asked "camera; camera 'none'" false "https://b.example" "https://b.example" false
    ∷ asked "camera 'src'" false "https://b.example" "https://b.example" true
    ∷ asked "camera 'src'" false "https://b.example" "https://c.example" false
    ∷ asked "camera 'self'" false "https://b.example" "https://b.example" false
    ∷ asked "camera 'self'" false "https://b.example" "https://a.example" true
    ∷ asked "camera https://b.example" false "" "https://a.example" false
    ∷ asked "camera" false "" "https://a.example" true
    ∷ asked "camera" true "https://b.example" "null" false
    ∷ asked "camera" true "https://b.example" "https://b.example" false
    ∷ asked "camera" false "null" "null" false
    ∷ asked "camera *" true "https://b.example" "null" true
    ∷ asked "camera https://*.b.example:*" false "" "https://x.b.example:444" true
    ∷ []

asks_right : every asked_right asks ≡ true
unfolding computing asks
asks_right = refl
