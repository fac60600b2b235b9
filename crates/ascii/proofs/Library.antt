-- What the library's functions answer, in the words of this crate's definitions. Assumes nothing.
use mathlib.Core.Path.{◌≡◌, refl, ap, ◌∙◌}
use Prim.Native.Nat.{ℕ, suc, ◌+◌, ◌≤◌, ◌<◌}
use mathlib.Core.List.{List, [], ◌∷◌}
use mathlib.Core.Bool.{Bool, true, false, ◌&&◌}
use mathlib.Core.Logic.{◌⊎◌, inl, inr}
use native.Mathlib.Omega.{arith}
use lib.ListN.{length, get_or, get_or-eq_default}
use Rattle.std.proofs.Common.{Bor}
use lib.Dec.{eqb, leb}
use borrow.Author.Tests.{le-leb, lt-leb, leb-true, leb-false}
use Rattle.std.specs.Prelude.{Option, Some, None, MatchOption, zip, slice_range, unwrap_or}
use Rattle.std.specs.Char.{LowercasesTo}
use Rattle.std.specs.List.{list_all}
use Rattle.ascii.specs.Bytes.{pick, lower}
use Rattle.ascii.specs.Texts.{same_by, part_of}
use Rattle.ascii.specs.Places.{IsByte}
use Rattle.ascii.proofs.Reading.{byte-in, byte-out}
use Rattle.ascii.proofs.Texts.{part-in, part_turned, part-over}

pub lower-is : (b r : ℕ) → LowercasesTo b r → r ≡ lower b
unfolding lower pick
lower-is b r (inl h) = rw (le-leb 65 b (omega arith), le-leb b 90 (omega arith)) h.1
lower-is b r (inr h) = go (leb 65 b) refl
  where
    go : (t : Bool) → leb 65 b ≡ t → r ≡ lower b
    go false e = rw e h.1
    go true e = rw (e, lt-leb b 90 (omega (arith, leb-true 65 b e))) h.1

-- two texts compared
pub pairs-same : (f : ℕ → ℕ) (a b : List ℕ) → length a ≡ length b → list_all (λ p. eqb (f p.0) p.1) (zip a b) ≡ same_by f a b
unfolding same_by pick
pairs-same f [] [] e = refl
pairs-same f [] (y ∷ ys) e = absurd (omega arith)
pairs-same f (x ∷ xs) [] e = absurd (omega arith)
pairs-same f (x ∷ xs) (y ∷ ys) e = go (eqb (f x) y) (pairs-same f xs ys (omega (arith, e)))
  where
    go : (t : Bool) → list_all (λ p. eqb (f p.0) p.1) (zip xs ys) ≡ same_by f xs ys → t && list_all (λ p. eqb (f p.0) p.1) (zip xs ys) ≡ pick t (same_by f xs ys) false
    go true h = h
    go false h = refl

pub lengths-differ : (f : ℕ → ℕ) (a b : List ℕ) → (length a ≡ length b → ⊥) → false ≡ same_by f a b
unfolding same_by pick
lengths-differ f [] [] d = absurd (d refl)
lengths-differ f [] (y ∷ ys) d = refl
lengths-differ f (x ∷ xs) [] d = refl
lengths-differ f (x ∷ xs) (y ∷ ys) d = go (eqb (f x) y) (lengths-differ f xs ys (λ e. d (ap suc e)))
  where
    go : (t : Bool) → false ≡ same_by f xs ys → false ≡ pick t (same_by f xs ys) false
    go true h = h
    go false h = refl

-- what stands at a place, and 0 past the end
pub byte-found : (s : List ℕ) (at r : ℕ) → r < 256 → r ≡ get_or s at 0 → IsByte s at r
byte-found s at r h e = go (leb (suc at) (length s)) refl
  where
    go : (t : Bool) → leb (suc at) (length s) ≡ t → IsByte s at r
    go true u = let k : at < length s = leb-true (suc at) (length s) u in record { is = e ∙ byte-in s at k; there = omega arith }
    go false u = let k : length s ≤ at = omega (arith, leb-false (suc at) (length s) u) in let z : r ≡ 0 = e ∙ get_or-eq_default s 0 k in record { is = z ∙ byte-out s at k; there = omega arith }

-- a part, as a range gives it or not
pub part-found : (s : List ℕ) (from to : ℕ) (o : Option (Bor (List ℕ))) (e r : Bor (List ℕ)) → MatchOption o ((to < from) ⊎ (length s < to)) (λ x. (from ≤ to) × (to ≤ length s) × (x.now ≡ slice_range s from to) × (length x.now + from ≡ to)) → e.now ≡ [] → r ≡ unwrap_or o e → r.now ≡ part_of s from to
part-found s from to None e r (inl h) n q = ap (λ (b : Bor (List ℕ)). b.now) q ∙ (n ∙ part_turned s from to h)
part-found s from to None e r (inr h) n q = go (leb from to) refl
  where
    go : (t : Bool) → leb from to ≡ t → r.now ≡ part_of s from to
    go true u = ap (λ (b : Bor (List ℕ)). b.now) q ∙ (n ∙ part-over s from to (leb-true from to u) h)
    go false u = ap (λ (b : Bor (List ℕ)). b.now) q ∙ (n ∙ part_turned s from to (leb-false from to u))
part-found s from to (Some x) e r h n q = ap (λ (b : Bor (List ℕ)). b.now) q ∙ (h.2 ∙ part-in s from to h.0 h.1)
