-- Names looked up, and names left to compare, by computation.
use Rattle.std.specs.Prelude.{ℕ, ◌≡◌, refl, List, [], ◌∷◌, Bool, true, false, eqb}
use Prim.Native.String.{String}
use Rattle.std.specs.Prelude.{Option, Some, None}
use Rattle.ascii.specs.Literals.{text}
use Rattle.ascii.specs.Texts.{every, same_bytes}
use Rattle.features.specs.Features.{feature_of}
use Rattle.features.specs.Discarding.{left_to_compare}
use Rattle.features.specs.Computing.{computing}

-- a word that is a feature's name, with its number, and one that is none
pub data Row : Type 0 where
  is : String → ℕ → Row
  unknown : String → Row

abbrev same_number : ℕ → Option ℕ → Bool
same_number n (Some m) = eqb m n
same_number n None = false

abbrev is_none : Option ℕ → Bool
is_none (Some m) = false
is_none None = true

abbrev right : Row → Bool
right (is s n) = same_number n (feature_of (text s))
right (unknown s) = is_none (feature_of (text s))

rows_right : every right (is "camera" 0 ∷ is "usb" 16 ∷ unknown "Camera" ∷ unknown "" ∷ unknown "camera " ∷ unknown "camerb" ∷ unknown "usc" ∷ []) ≡ true
unfolding computing
rows_right = refl

-- a word, and the numbers of the names that are left to compare with it
pub data LeftRow : Type 0 where
  leaves : String → List ℕ → LeftRow

abbrev left_right : LeftRow → Bool
left_right (leaves s ns) = same_bytes (left_to_compare (text s)) ns

-- "camera", and another word of its length and third byte; "modals" and "popups" have its length; "forms" and "scripts" have one third byte; seventeen bytes with the third byte of a name of thirty-three, one length modulo 16
left-right :
    every left_right
    (leaves "camera" (0 ∷ [])
    ∷ leaves "xxmxxx" (0 ∷ [])
    ∷ leaves "modals" (7 ∷ [])
    ∷ leaves "popups" (12 ∷ [])
    ∷ leaves "forms" (3 ∷ [])
    ∷ leaves "scripts" (14 ∷ [])
    ∷ leaves "usb" (16 ∷ [])
    ∷ leaves "caxera" []
    ∷ leaves "cameras" []
    ∷ leaves "xxwxxxxxxxxxxxxxx" []
    ∷ leaves "ca" []
    ∷ leaves "" []
    ∷ [])
    ≡ true
unfolding computing
left-right = refl
