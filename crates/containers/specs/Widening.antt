-- 01, "What demand 3 speaks of": the added word, of a frame's attributes. 02, R-1: the added keyword.
use Rattle.std.specs.Prelude.{◌≡◌, Bool, true, List, ◌∷◌, ◌++◌, ℕ}
use Rattle.std.specs.Prelude.{Some}
use Rattle.ascii.specs.Texts.{same_lowered}
use Rattle.pieces.specs.Pieces.{words}
use Rattle.pieces.specs.OneWordMore.{OneWordMore}
use Rattle.containers.specs.Attributes.{Attributes}
use Rattle.containers.specs.Policies.{is_semicolon, keyword_of}

-- the second frame's allow attribute has one word more, and all else is the same
pub data WordMore : Attributes → Attributes → Type 0 where
  word_more : {x y sandbox src : List ℕ} {stands fullscreen : Bool} → OneWordMore is_semicolon x y
      → WordMore (record { allow = x; allowfullscreen = fullscreen; has_sandbox = stands; sandbox = sandbox; src = src }) (record { allow = y; allowfullscreen = fullscreen; has_sandbox = stands; sandbox = sandbox; src = src })

-- two sandbox texts: the second has the same words but one more, anywhere, which is "one of these keywords", case ignored
pub record OneKeywordMore (s t : List ℕ) : Type 0 where
  pub front : List (List ℕ)
  pub back : List (List ℕ)
  pub word : List ℕ
  -- whose keyword it is
  pub feature : ℕ
  pub keyword : List ℕ
  pub is_keyword : keyword_of feature ≡ Some keyword
  pub any_case : same_lowered word keyword ≡ true
  pub first : words s ≡ front ++ back
  pub second : words t ≡ front ++ (word ∷ back)

-- "adding one of these keywords to a sandbox attribute": both frames have one, the second's has one keyword more, and all else is the same
pub data KeywordMore : Attributes → Attributes → Type 0 where
  keyword_more : {allow x y src : List ℕ} {fullscreen : Bool} → OneKeywordMore x y
      → KeywordMore (record { allow = allow; allowfullscreen = fullscreen; has_sandbox = true; sandbox = x; src = src }) (record { allow = allow; allowfullscreen = fullscreen; has_sandbox = true; sandbox = y; src = src })
