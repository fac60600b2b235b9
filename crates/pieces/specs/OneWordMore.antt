-- 01, "What demand 3 speaks of": the added word.
use Rattle.std.specs.Prelude.{ℕ, ◌<◌, ◌≡◌, List, ◌∷◌, ◌++◌, Bool, length}
use Rattle.pieces.specs.Pieces.{pieces_of}

-- "both attributes have the same pieces with the same words, but one piece, with a feature and at least one word after it, has one word more, anywhere after the feature":
-- the piece may be of any feature, an unknown one too, and one that a later piece replaces
pub record OneWordMore (ends : ℕ → Bool) (s t : List ℕ) : Type 0 where
  -- the pieces before and past the one that has the word more, as words
  pub earlier : List (List (List ℕ))
  pub later : List (List (List ℕ))
  pub feature : List ℕ
  -- the words after the feature, before and past the added one: at least one
  pub front : List (List ℕ)
  pub back : List (List ℕ)
  pub one : 0 < length (front ++ back)
  pub word : List ℕ
  pub first : pieces_of ends s ≡ earlier ++ ((feature ∷ (front ++ back)) ∷ later)
  pub second : pieces_of ends t ≡ earlier ++ ((feature ∷ (front ++ (word ∷ back))) ∷ later)
