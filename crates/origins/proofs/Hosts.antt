-- Labels, scanned byte by byte: what the code's loop knows at a place. Assumes nothing.
use mathlib.Core.Path.{◌≡◌, refl, ap, ◌∙◌, sym}
use Prim.Native.Nat.{ℕ, ◌+◌, ◌≤◌, ◌<◌}
use mathlib.Core.List.{List, [], ◌∷◌}
use mathlib.Core.Bool.{Bool, true, false, not, ◌&&◌, ◌||◌}
use native.Mathlib.Numerals.{add-one}
use lib.ListN.{length, get_or, drop, drop_of_length-le}
use lib.Seq.{drop-cons}
use lib.Dec.{eqb}
use borrow.Author.Tests.{eq-eqb, ne_eqb}
use Rattle.ascii.specs.Bytes.{pick, is_label_byte}
use Rattle.ascii.specs.Texts.{every, each, prepended, cut_at}
use Rattle.ascii.specs.Reading.{is_empty}
use Rattle.origins.specs.Hosts.{labels, is_label}

-- the labels of a text are good; `fresh`: the first has no byte yet
unfoldable pub scan : Bool → List ℕ → Bool
scan fresh [] = not fresh
scan fresh (x ∷ xs) = pick (eqb x 46) (pick fresh false (scan true xs)) (pick (is_label_byte x) (scan false xs) false)

-- the same, over the labels
good_from : Bool → List (List ℕ) → Bool
good_from fresh [] = true
good_from fresh (l ∷ ls) = (not fresh || not (is_empty l)) && every is_label_byte l && every is_label ls

from-fresh : (ls : List (List ℕ)) → every is_label ls ≡ good_from true ls
unfolding good_from every is_label
from-fresh [] = refl
from-fresh (l ∷ ls) = refl

from_byte : (fresh b : Bool) (x : ℕ) (ls : List (List ℕ)) → is_label_byte x ≡ b → good_from fresh (prepended x ls) ≡ pick b (good_from false ls) false
unfolding good_from prepended every is_empty pick
from_byte true true x [] e = rw e
from_byte true false x [] e = rw e
from_byte false true x [] e = rw e
from_byte false false x [] e = rw e
from_byte true true x (l ∷ ls) e = rw e
from_byte true false x (l ∷ ls) e = rw e
from_byte false true x (l ∷ ls) e = rw e
from_byte false false x (l ∷ ls) e = rw e

scan_step : (dot fresh : Bool) (x : ℕ) (xs : List ℕ) (r : Bool) → every is_label (labels xs) ≡ scan true xs → good_from fresh (prepended x (labels xs)) ≡ r → good_from fresh (pick dot ([] ∷ labels xs) (prepended x (labels xs))) ≡ pick dot (pick fresh false (scan true xs)) r
unfolding good_from every is_empty pick
scan_step true true x xs r a b = refl
scan_step true false x xs r a b = a
scan_step false fresh x xs r a b = b

scan-from : (fresh : Bool) (h : List ℕ) → good_from fresh (labels h) ≡ scan fresh h
unfolding good_from cut_at scan every is_empty
scan-from true [] = refl
scan-from false [] = refl
scan-from fresh (x ∷ xs) =
    scan_step (eqb x 46) fresh x xs (pick (is_label_byte x) (scan false xs) false) (from-fresh (labels xs) ∙ scan-from true xs)
    (from_byte fresh (is_label_byte x) x (labels xs) refl ∙ ap (λ (b : Bool). pick (is_label_byte x) b false) (scan-from false xs))

pub scan-labels : (h : List ℕ) → every is_label (labels h) ≡ scan true h
scan-labels h = from-fresh (labels h) ∙ scan-from true h

-- one turn of the loop, over a text whose every byte is changed
module _ (f : ℕ → ℕ) (h : List ℕ) (i : ℕ) (fresh r : Bool) where
  pub scan-end : length h ≤ i → scan fresh (each f (drop i h)) ≡ r → not fresh ≡ r
  unfolding scan each
  scan-end g e = rw (drop_of_length-le h g) at e

  module _ (x : ℕ) (is : x ≡ f (get_or h i 0)) (inside : i < length h) (e : scan fresh (each f (drop i h)) ≡ r) where
    at_byte : pick (eqb x 46) (pick fresh false (scan true (each f (drop (i + 1) h)))) (pick (is_label_byte x) (scan false (each f (drop (i + 1) h))) false) ≡ r
    unfolding scan each
    at_byte = rw (is, add-one) (rw (drop-cons h i 0 inside) at e)

    pub scan-empty : x ≡ 46 → fresh ≡ true → false ≡ r
    unfolding pick
    scan-empty d t = rw (eq-eqb x 46 d, t) at at_byte

    pub scan-dot : x ≡ 46 → fresh ≡ false → scan true (each f (drop (i + 1) h)) ≡ r
    unfolding pick
    scan-dot d t = rw (eq-eqb x 46 d, t) at at_byte

    pub scan-other : (x ≡ 46 → ⊥) → (b : Bool) → b ≡ is_label_byte x → b ≡ false → false ≡ r
    unfolding pick
    scan-other d b u t = let v : is_label_byte x ≡ false = sym u ∙ t in rw (ne_eqb x 46 d, v) at at_byte

    pub scan-byte : (x ≡ 46 → ⊥) → (b : Bool) → b ≡ is_label_byte x → b ≡ true → scan false (each f (drop (i + 1) h)) ≡ r
    unfolding pick
    scan-byte d b u t = let v : is_label_byte x ≡ true = sym u ∙ t in rw (ne_eqb x 46 d, v) at at_byte
