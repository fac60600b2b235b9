-- Comparing texts four bytes at a time. Assumes nothing.
use mathlib.Core.Path.{◌≡◌, refl, ap, ◌∙◌, sym}
use Prim.Native.Nat.{ℕ, suc, ◌+◌, ◌-◌, ◌≤◌, ◌<◌}
use mathlib.Core.List.{List}
use mathlib.Core.Bool.{Bool, true, false, not, ◌&&◌}
use native.Mathlib.Omega.{arith}
use native.Mathlib.Numerals.{add-one}
use lib.ListN.{length, get_or, drop}
use lib.Seq.{drop-cons}
use lib.Dec.{eqb}
use borrow.Author.Tests.{not-true, not-false}
use Rattle.ascii.specs.Bytes.{pick}
use Rattle.ascii.specs.Texts.{same_by, same_bytes, four_same}
use Rattle.ascii.proofs.Texts.{bytes_same, same_end, byte_more, byte-ne}

-- texts of two lengths are not the same
pub lengths_differ : (a b : List ℕ) → (length a ≡ length b → ⊥) → false ≡ same_bytes a b
lengths_differ a b d = go (same_bytes a b) refl
  where
    go : (t : Bool) → same_bytes a b ≡ t → false ≡ t
    go true e = absurd (d (ap length (bytes_same a b e)))
    go false e = refl

pick-and : (t x : Bool) → pick t x false ≡ t && x
unfolding pick
pick-and true x = refl
pick-and false x = refl

and_assoc : (a b c : Bool) → a && (b && c) ≡ a && b && c
and_assoc true b c = refl
and_assoc false b c = refl

-- one byte, and four
byte_step : (a b : List ℕ) (i : ℕ) → i < length a → i < length b → same_bytes (drop i a) (drop i b) ≡ eqb (get_or a i 0) (get_or b i 0) && same_bytes (drop (i + 1) a) (drop (i + 1) b)
unfolding same_by
byte_step a b i h g = rw (add-one, drop-cons a i 0 h, drop-cons b i 0 g) (pick-and (eqb (get_or a i 0) (get_or b i 0)) (same_bytes (drop (suc i) a) (drop (suc i) b)))

four-step : (a b : List ℕ) (i : ℕ) → i + 4 ≤ length a → i + 4 ≤ length b → same_bytes (drop i a) (drop i b) ≡ four_same a b i && same_bytes (drop (i + 4) a) (drop (i + 4) b)
four-step a b i h g =
    let e0 = eqb (get_or a i 0) (get_or b i 0) in
    let e1 = eqb (get_or a (i + 1) 0) (get_or b (i + 1) 0) in
    let e2 = eqb (get_or a (i + 2) 0) (get_or b (i + 2) 0) in
    let e3 = eqb (get_or a (i + 3) 0) (get_or b (i + 3) 0) in
    let S = same_bytes (drop (i + 4) a) (drop (i + 4) b) in
    let z2 : i + 1 + 1 ≡ i + 2 = omega arith in
    let z3 : i + 2 + 1 ≡ i + 3 = omega arith in
    let z4 : i + 3 + 1 ≡ i + 4 = omega arith in
    let s3 : same_bytes (drop (i + 3) a) (drop (i + 3) b) ≡ e3 && S = rw z4 at (byte_step a b (i + 3) (omega arith) (omega arith)) in
    let s2 : same_bytes (drop (i + 2) a) (drop (i + 2) b) ≡ e2 && (e3 && S) = (rw z3 at (byte_step a b (i + 2) (omega arith) (omega arith))) ∙ ap (λ (t : Bool). e2 && t) s3 in
    let s1 : same_bytes (drop (i + 1) a) (drop (i + 1) b) ≡ e1 && (e2 && (e3 && S)) = (rw z2 at (byte_step a b (i + 1) (omega arith) (omega arith))) ∙ ap (λ (t : Bool). e1 && t) s2 in
    byte_step a b i (omega arith) (omega arith)
    ∙ (ap (λ (t : Bool). e0 && t) s1 ∙ (and_assoc e0 e1 (e2 && (e3 && S)) ∙ (and_assoc (e0 && e1) e2 (e3 && S) ∙ and_assoc (e0 && e1 && e2) e3 S)))

-- how a comparison goes by four
module _ (a b : List ℕ) (i : ℕ) (R : Bool) (so_far : same_bytes (drop i a) (drop i b) ≡ R) (e : length a ≡ length b) (h : 4 ≤ length a - i) (c : Bool) (is : c ≡ four_same a b i) where
  four-at : c && same_bytes (drop (i + 4) a) (drop (i + 4) b) ≡ R
  four-at = rw is (sym (four-step a b i (omega arith) (omega arith)) ∙ so_far)

  pub four-hit : not c ≡ false → same_bytes (drop (i + 4) a) (drop (i + 4) b) ≡ R
  four-hit t = rw (not-false c t) at four-at

  pub four-miss : not c ≡ true → false ≡ R
  four-miss t = rw (not-true c t) at four-at

-- and by one
module _ (a b : List ℕ) (i : ℕ) (R : Bool) (so_far : same_bytes (drop i a) (drop i b) ≡ R) (e : length a ≡ length b) where
  pub from_end : length a ≤ i → true ≡ R
  from_end h = same_end (λ x. x) a b i R h (omega arith) so_far

  pub from_more : i < length a → get_or a i 0 ≡ get_or b i 0 → same_bytes (drop (i + 1) a) (drop (i + 1) b) ≡ R
  from_more h q = byte_more a b i R h (omega arith) q so_far

  pub from-miss : i < length a → (get_or a i 0 ≡ get_or b i 0 → ⊥) → false ≡ R
  from-miss h q = byte-ne a b i R h (omega arith) q so_far

pub from_all : (a b : List ℕ) (i : ℕ) (R r : Bool) → same_bytes (drop i a) (drop i b) ≡ R → r ≡ same_bytes (drop i a) (drop i b) → r ≡ R
from_all a b i R r e f = f ∙ e
