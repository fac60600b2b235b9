-- Document 01's rows about what a header declares, and the slips, by computation.
use Prim.Native.String.{String}
use Rattle.std.specs.Prelude.{◌≡◌, refl, List, [], ◌∷◌, Bool, true, false}
use Rattle.ascii.specs.Bytes.{pick}
use Rattle.ascii.specs.Literals.{text}
use Rattle.ascii.specs.Texts.{every}
use Rattle.allowlists.specs.Rows.{is_absent, is_everything, is_list}
use Rattle.declarations.specs.Declarations.{declares, is_malformed}
use Rattle.declarations.specs.Computing.{computing}

-- a header, and what it declares for camera, feature 0: nothing, `*`, or a list with `self` or without and the texts of its expressions
pub data Row : Type 0 where
  undeclared : String → Row
  everything : String → Row
  list : String → Bool → List String → Row
  malformed : String → Row

abbrev right : Row → Bool
right (undeclared s) = pick (is_malformed (text s)) false (is_absent (declares (text s) 0))
right (everything s) = is_everything (declares (text s) 0)
right (list s own ts) = is_list own false ts (declares (text s) 0)
right (malformed s) = pick (is_malformed (text s)) (is_absent (declares (text s) 0)) false

rows : List Row
rows =
    undeclared ""
    ∷ undeclared "camera=(), camera=1"
    ∷ list "camera=(\"junk\")" false []
    ∷ undeclared "camera=1, usb=()"
    ∷ undeclared "camera"
    ∷ undeclared "camera=https://b.example"
    ∷ undeclared "camera=\"*\""
    ∷ undeclared "camera=\"junk\""
    ∷ undeclared "camera=Self"
    ∷ everything "camera=*"
    ∷ everything "camera=(self *)"
    ∷ everything "camera=*;x=1"
    ∷ list "camera=()" false []
    ∷ list "camera=self" true []
    ∷ list "camera=(\"*\" 7 :YQ==: \"self\" self;x)" true []
    ∷ list "camera=\"https://b.example\"" false ("https://b.example" ∷ [])
    ∷ list "camera=*, camera=(\"https://B.example:443\" self \"http://*.c\")" true ("https://b.example:443" ∷ "http://*.c" ∷ [])
    ∷ malformed "camera=(self), "
    ∷ malformed "Camera=()"
    ∷ malformed "camera=(self"
    ∷ malformed "camera=(self\tself)"
    ∷ malformed "camera=self, foo=\"\\n\""
    ∷ []

rows_right : every right rows ≡ true
unfolding computing rows
rows_right = refl
