-- 01, "Header and attribute": a text of pieces, each a feature and words.
use Rattle.std.specs.Prelude.{ℕ, List, [], ◌∷◌, map, Bool, false, ◌||◌, eqb}
use Rattle.std.specs.Prelude.{Option, Some, None}
use Rattle.ascii.specs.Bytes.{pick, is_white}
use Rattle.ascii.specs.Reading.{is_empty}
use Rattle.ascii.specs.Texts.{cut_at, same_lowered}
use Rattle.features.specs.Features.{feature_of}

-- those of several texts that have a byte
unfoldable pub non_empty : List (List ℕ) → List (List ℕ)
non_empty [] = []
non_empty (t ∷ ts) = pick (is_empty t) (non_empty ts) (t ∷ non_empty ts)

-- "each piece at tabs, line feeds, form feeds, returns and spaces": the words of a text
unfoldable pub words : List ℕ → List (List ℕ)
words s = non_empty (cut_at is_white s)

-- the words of each piece of a text; which bytes end a piece is left open
unfoldable pub pieces_of : (ℕ → Bool) → List ℕ → List (List (List ℕ))
pieces_of ends s = map words (cut_at ends s)

-- "First word the feature; unknown ones are skipped": the feature that a piece is for
unfoldable pub feature_in : List (List ℕ) → Option ℕ
feature_in [] = None
feature_in (w ∷ ws) = feature_of w

abbrev pub is_the : ℕ → Option ℕ → Bool
is_the n (Some m) = eqb m n
is_the n None = false

unfoldable pub is_for : ℕ → List (List ℕ) → Bool
is_for n ws = is_the n (feature_in ws)

-- the words after the first
unfoldable pub further_words : List (List ℕ) → List (List ℕ)
further_words [] = []
further_words (w ∷ ws) = ws

-- "the last piece for a feature stands": the further words of the last of several pieces that is for it, or what stood before
unfoldable pub last_for : ℕ → List (List (List ℕ)) → Option (List (List ℕ)) → Option (List (List ℕ))
last_for n [] found = found
last_for n (ws ∷ rest) found = last_for n rest (pick (is_for n ws) (Some (further_words ws)) found)

-- the entry of a feature in a text: the words after its name
unfoldable pub entry_of : (ℕ → Bool) → List ℕ → ℕ → Option (List (List ℕ))
entry_of ends s n = last_for n (pieces_of ends s) None

-- whether a keyword is among words, "case ignored"
unfoldable pub has_keyword : List ℕ → List (List ℕ) → Bool
has_keyword k [] = false
has_keyword k (w ∷ ws) = same_lowered w k || has_keyword k ws
