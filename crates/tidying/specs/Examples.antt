-- Document 01's example of a tidied header, whole, and the edges, by computation.
use Prim.Native.String.{String}
use Rattle.std.specs.Prelude.{◌≡◌, refl, List, [], ◌∷◌, Bool, true}
use Rattle.ascii.specs.Literals.{text}
use Rattle.ascii.specs.Texts.{every, same_bytes}
use Rattle.tidying.specs.Tidied.{tidied}
use Rattle.tidying.specs.Computing.{computing}

-- a header and its tidied form
pub data Row : Type 0 where
  tidies : String → String → Row

abbrev right : Row → Bool
right (tidies s t) = same_bytes (tidied (text s)) (text t)

rows : List Row
rows =
    tidies "usb=self,camera=(\"https://B.example:443\" self \"https://b.example\"),foo=1,forms=(self *)" "camera=(self \"https://b.example\"), forms=*, usb=(self)"
    ∷ tidies "" ""
    ∷ tidies "camera=1" ""
    ∷ tidies "camera=(\"junk\")" "camera=()"
    ∷ tidies "camera=(\"https:\" \"https://*:*\" \"HTTPS:\");x, usb=\"http://x:0443\"" "camera=(\"https:\" \"https://*:*\"), usb=(\"http://x:443\")"
    -- R-3 of 02: `http://a` and `http://a:80` are two, `https://a` and `https://a:443` one
    ∷ tidies "camera=(\"http://A:0080\" \"http://a\" \"http://a:80\" \"https://a:443\" \"https://a\")" "camera=(\"http://a:80\" \"http://a\" \"https://a\")"
    ∷ []

rows_right : every right rows ≡ true
unfolding computing rows
rows_right = refl
