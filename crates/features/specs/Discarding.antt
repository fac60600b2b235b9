-- Which names are left to compare with a word: document 02, R-2, "first discard most names by length and one byte alone".
use Rattle.std.specs.Prelude.{ℕ, suc, List, [], ◌∷◌, Bool, false, ◌&&◌, ◌||◌, eqb, length, get_or}
use Rattle.ascii.specs.Bytes.{pick}
use Rattle.features.specs.Features.{names}

-- the third byte of a text; 0 if it has none
abbrev pub third_of : List ℕ → ℕ
third_of s = get_or s 2 0

-- two texts have one length and one third byte
unfoldable pub agree : List ℕ → List ℕ → Bool
agree word name = eqb (length word) (length name) && eqb (third_of word) (third_of name)

-- the places of the names of a list that agree with a word, counted from a number
unfoldable pub left_from : ℕ → List ℕ → List (List ℕ) → List ℕ
left_from n word [] = []
left_from n word (name ∷ rest) = pick (agree word name) (n ∷ left_from (suc n) word rest) (left_from (suc n) word rest)

-- the numbers of the names that are left to compare with a word; every other name is discarded
unfoldable pub left_to_compare : List ℕ → List ℕ
left_to_compare word = left_from 0 word names

-- whether a number is one of a list's
unfoldable pub is_among : ℕ → List ℕ → Bool
is_among n [] = false
is_among n (m ∷ rest) = eqb n m || is_among n rest
