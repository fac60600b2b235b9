-- What the code's answers mean beside the text that they are about.
use Rattle.pieces.specs.declared.PieceFor.{PieceFor}
use Rattle.std.specs.Prelude.{◌≡◌, ℕ, ◌+◌, ◌-◌, ◌^◌, ◌≤◌, ◌<◌, List, [], ◌∷◌, Bool, not, length, get_or, drop}
use Rattle.std.specs.Prelude.{Option, Some, None}
use Rattle.ascii.specs.Bytes.{pick, is_white}
use Rattle.ascii.specs.Reading.{is_empty, past}
use Rattle.ascii.specs.Texts.{part_in, cut_at}
use Rattle.ascii.specs.declared.TextRange.{TextRange}
use Rattle.features.specs.Features.{feature_count}
use Rattle.allowlists.specs.Allowlists.{Meaning}
use Rattle.allowlists.specs.Allowlists.Meaning.{self, src}
use Rattle.pieces.specs.Pieces.{words, feature_in, is_for, entry_of}
use Rattle.pieces.specs.declared.Bare.{Bare}
use Rattle.pieces.specs.declared.Bare.TheVariants as bare

-- what no further words mean
abbrev pub bare_in : Bare → Meaning
bare_in bare.SelfOrigin = self
bare_in bare.SrcOrigin = src

abbrev pub is_word_byte : ℕ → Bool
is_word_byte b = not (is_white b)

-- the words from what is answered on: the word and those past it, or none
abbrev pub words_found : List ℕ → Option TextRange → List (List ℕ)
words_found s (Some r) = part_in s r ∷ words (drop r.to s)
words_found s None = []

-- the range of the first word of what is left of a text, by how much is left
unfoldable pub word_at : List ℕ → List ℕ → Option TextRange
word_at s l = pick (is_empty l) None (Some (record { from = length s - length l; to = length s - length (past is_word_byte l) }))

-- the end of a word that is answered, as a bound from below and from above
abbrev pub low_end : Option TextRange → ℕ
low_end (Some r) = r.to
low_end None = 2 ^ 64

abbrev pub high_end : Option TextRange → ℕ
high_end (Some r) = r.to
high_end None = 0

-- the answer is the first word at or past a place, or there is none; it ends past that place, and within the text
pub record IsNextWord (s : List ℕ) (at : ℕ) (r : Option TextRange) : Type 0 where
  pub says : words (drop at s) ≡ words_found s r
  pub range : r ≡ word_at s (past is_white (drop at s))
  pub past_it : at < low_end r
  pub upto : high_end r ≤ length s

-- the words that a range of a text holds
abbrev pub words_in : List ℕ → TextRange → List (List ℕ)
words_in s r = words (part_in s r)

-- what an answer says of an entry: none, or the words after the feature
abbrev pub entry_in : List ℕ → Option TextRange → Option (List (List ℕ))
entry_in s None = None
entry_in s (Some r) = Some (words_in s r)

-- what follows the first word of a piece
unfoldable pub past_first : List ℕ → List ℕ
past_first p = past is_word_byte (past is_white p)

-- the range of the words after the first of a piece that starts at a place: up to the piece's end
unfoldable pub range_at : ℕ → List ℕ → TextRange
range_at at p = record { from = at + (length p - length (past_first p)); to = at + length p }

-- the answer for a piece that starts at a place, by the feature that it is for
abbrev pub piece_as : ℕ → List ℕ → Option ℕ → Option PieceFor
piece_as at p (Some m) = Some (record { feature = m; words = range_at at p })
piece_as at p None = None

-- the feature that is answered, as a bound
abbrev pub feature_bound : Option PieceFor → ℕ
feature_bound (Some f) = f.feature
feature_bound None = 0

pub record IsPiece (at : ℕ) (p : List ℕ) (r : Option PieceFor) : Type 0 where
  pub is : r ≡ piece_as at p (feature_in (words p))
  pub below : feature_bound r < feature_count

-- what a piece that starts at a place makes of the entry found before it
unfoldable pub piece_entry : ℕ → ℕ → List ℕ → Option TextRange → Option TextRange
piece_entry n at p found = pick (is_for n (words p)) (Some (range_at at p)) found

-- the last of several pieces for a feature; the first starts at a place, each other past the end of the one before and one byte
unfoldable pub last_at : ℕ → ℕ → List (List ℕ) → Option TextRange → Option TextRange
last_at n at [] found = found
last_at n at (p ∷ ps) found = last_at n (at + length p + 1) ps (piece_entry n at p found)

-- the range of a feature's entry
unfoldable pub entry_at : (ℕ → Bool) → List ℕ → ℕ → Option TextRange
entry_at ends s n = last_at n 0 (cut_at ends s) None

-- what `entries` promises of each feature: its entry, and where the words stand; each byte that passes a test ends a piece
pub record IsEntries (ends : ℕ → Bool) (s : List ℕ) (r : List (Option TextRange)) : Type 0 where
  pub says : (n : ℕ) → n < feature_count → entry_in s (get_or r n None) ≡ entry_of ends s n
  pub range : (n : ℕ) → n < feature_count → get_or r n None ≡ entry_at ends s n
