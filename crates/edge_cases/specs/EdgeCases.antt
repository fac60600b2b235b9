-- Document 01, "Cases at the edges": the rows marked #, over the definitions that contracts cite.
use Rattle.std.specs.Prelude.{ℕ, ◌≡◌, List, [], ◌∷◌, map, Bool, true, false, not, ◌&&◌, drop}
use Prim.Native.String.{String}
use Rattle.std.specs.Prelude.{Option, Some, None}
use Rattle.ascii.specs.Literals.{text}
use Rattle.ascii.specs.Texts.{every}
use Rattle.origins.specs.Origins.{OriginSaid, origin_of}
use Rattle.origins.specs.Origins.Origin.{tuple}
use Rattle.origins.specs.Origins.OriginSaid.{says_empty, says_null, says_tuple, no_origin}
use Rattle.origins.specs.Expressions.{SourceExpression, expression_of}
use Rattle.origins.specs.Matching.{admits}
use Rattle.allowlists.specs.Allowlists.{Allowlist}
use Rattle.allowlists.specs.Allowlists.Allowlist.{all, listed}
use Rattle.declarations.specs.Declarations.{declares}
use Rattle.containers.specs.Attributes.{Attributes}
use Rattle.decisions.specs.Decisions.{Decision}
use Rattle.decisions.specs.Decisions.Decision.{disabled, enabled}
use Rattle.document_model.specs.Model.{Call, top_load, framed_load, question, Answer, refused, loaded, removed, decision, features, serials, answers}

-- the numbers of the features `camera` and `forms`
abbrev pub camera : ℕ
camera = 0

abbrev pub forms : ℕ
forms = 3

-- a document, by its serial, a feature, and the decision for the document's own origin
pub record Asked : Type 0 where
  pub document : ℕ
  pub feature : ℕ
  pub expected : Decision

pub data Row : Type 0 where
  -- an expression, and an origin text that it admits, or doesn't
  admitted : String → String → Row
  not_admitted : String → String → Row
  -- a header that leaves a feature undeclared; one that declares it and admits none
  undeclared : String → ℕ → Row
  admits_none : String → ℕ → Row
  -- "Container at https://a.example, frame document at https://b.example with that src, unless said": the container's header, the allow attribute, the arriving origin text, and what is asked then.
  -- On a new table the container is document 1 and the frame's 2
  framed : String → String → String → List Asked → Row

-- ---- when a row is right

-- whether an expression admits an origin, as read; no answer where the one is no expression or the other no tuple origin
abbrev pub verdict : Option SourceExpression → OriginSaid → Option Bool
verdict (Some e) (says_tuple o) = Some (admits e (tuple o))
verdict (Some e) says_empty = None
verdict (Some e) says_null = None
verdict (Some e) no_origin = None
verdict None o = None

abbrev pub is_yes : Option Bool → Bool
is_yes (Some b) = b
is_yes None = false

abbrev pub is_no : Option Bool → Bool
is_no (Some b) = not b
is_no None = false

abbrev pub is_undeclared : Option Allowlist → Bool
is_undeclared (Some l) = false
is_undeclared None = true

-- a list without `*`, without the document's own origin and without an expression; a header has no src-origin
abbrev pub is_empty_list : Option Allowlist → Bool
is_empty_list (Some (listed false b [])) = true
is_empty_list (Some (listed false b (e ∷ es))) = false
is_empty_list (Some (listed true b es)) = false
is_empty_list (Some all) = false
is_empty_list None = false

abbrev pub is_decision : Decision → Answer → Bool
is_decision disabled (decision disabled) = true
is_decision disabled (decision enabled) = false
is_decision enabled (decision disabled) = false
is_decision enabled (decision enabled) = true
is_decision d (refused n) = false
is_decision d (loaded s m) = false
is_decision d (removed n) = false
is_decision d (features m) = false
is_decision d (serials n run) = false

unfoldable pub are_decisions : List Asked → List Answer → Bool
are_decisions [] [] = true
are_decisions [] (a ∷ l) = false
are_decisions (q ∷ qs) [] = false
are_decisions (q ∷ qs) (a ∷ l) = is_decision q.expected a && are_decisions qs l

abbrev pub frame : String → Attributes
frame allow = record { allow = text allow; allowfullscreen = false; has_sandbox = false; sandbox = []; src = text "https://b.example" }

-- the container's load, the frame's, and the questions, with the empty text: at the document's own origin
abbrev pub calls : String → String → String → List Asked → List Call
calls header allow arriving asked =
    top_load (text header) (text "https://a.example") ∷ framed_load 1 [] (text arriving) (frame allow) ∷ map (λ q. question q.document q.feature []) asked

abbrev pub right : Row → Bool
right (admitted e o) = is_yes (verdict (expression_of (text e)) (origin_of (text o)))
right (not_admitted e o) = is_no (verdict (expression_of (text e)) (origin_of (text o)))
right (undeclared h n) = is_undeclared (declares (text h) n)
right (admits_none h n) = is_empty_list (declares (text h) n)
right (framed header allow arriving asked) = are_decisions asked (drop 2 (answers (calls header allow arriving asked)))

-- ---- the rows

abbrev asks : ℕ → ℕ → Decision → Asked
asks d f e = record { document = d; feature = f; expected = e }

abbrev pub rows : List Row
rows =
    -- "`https://*.example.com`: https://geo.example.com yes; https://example.com no."
    admitted "https://*.example.com" "https://geo.example.com"
    ∷ not_admitted "https://*.example.com" "https://example.com"
    -- "`https://example.com:*` admits port 444; `https://example.com` doesn't."
    ∷ admitted "https://example.com:*" "https://example.com:444"
    ∷ not_admitted "https://example.com" "https://example.com:444"
    -- "`HTTPS://Example.COM:0443` admits https://example.com."
    ∷ admitted "HTTPS://Example.COM:0443" "https://example.com"
    -- "`http://example.com` against https://example.com: no."; R-3 of 02: "The marked http case turns to yes."
    ∷ admitted "http://example.com" "https://example.com"
    -- "`camera=(), camera=1`: camera undeclared. `camera=("junk")`: declared, admits none."
    ∷ undeclared "camera=(), camera=1" camera
    ∷ admits_none "camera=(\"junk\")" camera
    -- "no texts: camera Disabled, forms Enabled."
    ∷ framed "" "" "https://b.example" (asks 2 camera disabled ∷ asks 2 forms enabled ∷ [])
    -- "allow `camera`: Enabled; but Disabled if https://c.example arrives."
    ∷ framed "" "camera" "https://b.example" (asks 2 camera enabled ∷ [])
    ∷ framed "" "camera" "https://c.example" (asks 2 camera disabled ∷ [])
    -- "container header `camera=("https://b.example")`, allow `camera`: Disabled in both"
    ∷ framed "camera=(\"https://b.example\")" "camera" "https://b.example" (asks 1 camera disabled ∷ asks 2 camera disabled ∷ [])
    ∷ []

-- "proved, as rows of a single table under one theorem"
abbrev pub EdgeCasesHold : Type 0
EdgeCasesHold = every right rows ≡ true
