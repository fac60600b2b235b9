-- The features: document 01, "The features".
use Rattle.std.specs.Prelude.{ℕ, suc, List, [], ◌∷◌, map, Bool, true, false, ◌&&◌, ltb, eqb, get_or}
use Rattle.std.specs.Prelude.{Option, Some, None}
use Rattle.std.specs.Prelude.{slice_get}
use Rattle.ascii.specs.Bytes.{pick, is_key_start, is_key_byte}
use Rattle.ascii.specs.Literals.{text}
use Rattle.ascii.specs.Reading.{head_is}
use Rattle.ascii.specs.Texts.{every, same_bytes}

-- a default list is `*` or `self`
pub data Default : Type 0 where
  star : Default
  self : Default

-- a feature's name and its default list
pub data Row : Type 0 where
  feature : List ℕ → Default → Row

-- "Numbered in this order, with default list."
unfoldable pub features : List Row
features =
    feature (text "camera") self
    ∷ feature (text "display-capture") self
    ∷ feature (text "downloads-without-user-activation") star
    ∷ feature (text "forms") star
    ∷ feature (text "fullscreen") self
    ∷ feature (text "geolocation") self
    ∷ feature (text "microphone") self
    ∷ feature (text "modals") star
    ∷ feature (text "orientation-lock") star
    ∷ feature (text "payment") self
    ∷ feature (text "plugins") star
    ∷ feature (text "pointer-lock") star
    ∷ feature (text "popups") star
    ∷ feature (text "presentation") star
    ∷ feature (text "scripts") star
    ∷ feature (text "top-navigation") star
    ∷ feature (text "usb") self
    ∷ []

-- seventeen: refusal 2 is for a "number over 16"
abbrev pub feature_count : ℕ
feature_count = 17

abbrev pub row_name : Row → List ℕ
row_name (feature name d) = name

abbrev pub row_default : Row → Default
row_default (feature name d) = d

-- the names, in this order
unfoldable pub names : List (List ℕ)
names = map row_name features

-- the name of a number; empty for a number over 16
unfoldable pub name_of : ℕ → List ℕ
name_of n = get_or names n []

-- the default list of a number; none for a number over 16
unfoldable pub default_of : ℕ → Option Default
default_of n = slice_get (map row_default features) n

-- the place of a word in a list of names, counted from a number
unfoldable pub place_from : ℕ → List ℕ → List (List ℕ) → Option ℕ
place_from n word [] = None
place_from n word (name ∷ rest) = pick (same_bytes word name) (Some n) (place_from (suc n) word rest)

-- "Names are compared byte for byte": the number of a name, if it is a feature's
unfoldable pub feature_of : List ℕ → Option ℕ
feature_of word = place_from 0 word names

-- the order of texts, byte by byte; a text precedes each longer one that it begins
unfoldable pub precedes : List ℕ → List ℕ → Bool
precedes [] [] = false
precedes [] (y ∷ ys) = true
precedes (x ∷ xs) [] = false
precedes (x ∷ xs) (y ∷ ys) = pick (eqb x y) (precedes xs ys) (ltb x y)

-- each precedes all that follow it
unfoldable pub ascending : List (List ℕ) → Bool
ascending [] = true
ascending (x ∷ xs) = every (precedes x) xs && ascending xs

-- RFC 8941 section 3.1.2: a key is a key start and then key bytes
unfoldable pub is_key : List ℕ → Bool
is_key name = head_is is_key_start name && every is_key_byte name
