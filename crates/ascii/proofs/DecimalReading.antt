-- Numbers in decimal, read digit by digit. Assumes nothing.
use mathlib.Core.Path.{◌≡◌, refl, ◌∙◌, sym}
use Prim.Native.Nat.{ℕ, ◌+◌, ◌-◌, ◌*◌, ◌≤◌, ◌<◌}
use mathlib.Core.List.{List, [], ◌∷◌}
use mathlib.Core.Bool.{Bool, true, false, not, ◌&&◌}
use Rattle.std.specs.Prelude.{Option, Some, None}
use native.Mathlib.Omega.{arith}
use native.Mathlib.Numerals.{add-one}
use lib.ListN.{length, get_or, drop, drop_of_length-le}
use lib.Seq.{drop-cons}
use lib.Dec.{leb}
use borrow.Author.Tests.{le-leb, lt-leb, leb-true, leb-false, not-true, not-false}
use Rattle.ascii.specs.Texts.{every}
use Rattle.ascii.specs.Bytes.{pick, is_digit}
use Rattle.ascii.specs.Reading.{is_empty}
use Rattle.ascii.proofs.Bytes.{and-false, within-high}
use Rattle.ascii.specs.Decimals.{decimal_from, decimal_upto}
use Rattle.ascii.proofs.Decimals.{decimal-grows}

-- the reading of digits that stops where the number is over a limit
unfoldable pub read_from : ℕ → ℕ → List ℕ → Option ℕ
read_from most n [] = Some n
read_from most n (d ∷ ds) = pick (is_digit d) (pick (leb (n * 10 + (d - 48)) most) (read_from most (n * 10 + (d - 48)) ds) None) None

pub read_is : (most n : ℕ) (ds : List ℕ) → n ≤ most → read_from most n ds ≡ pick (every is_digit ds && leb (decimal_from n ds) most) (Some (decimal_from n ds)) None
unfolding read_from decimal_from every pick
read_is most n [] h = rw (le-leb n most h)
read_is most n (d ∷ ds) h = go (is_digit d) (leb (n * 10 + (d - 48)) most) refl (λ k. read_is most (n * 10 + (d - 48)) ds k)
  where
    go : (a b : Bool) → leb (n * 10 + (d - 48)) most ≡ b → (n * 10 + (d - 48) ≤ most → read_from most (n * 10 + (d - 48)) ds ≡ pick (every is_digit ds && leb (decimal_from (n * 10 + (d - 48)) ds) most) (Some (decimal_from (n * 10 + (d - 48)) ds)) None) → pick a (pick b (read_from most (n * 10 + (d - 48)) ds) None) None ≡ pick (a && every is_digit ds && leb (decimal_from (n * 10 + (d - 48)) ds) most) (Some (decimal_from (n * 10 + (d - 48)) ds)) None
    go true true e ih = ih (leb-true (n * 10 + (d - 48)) most e)
    go true false e ih =
        let g : most < decimal_from (n * 10 + (d - 48)) ds = omega (arith, decimal-grows (n * 10 + (d - 48)) ds, leb-false (n * 10 + (d - 48)) most e) in
        rw (lt-leb (decimal_from (n * 10 + (d - 48)) ds) most g, and-false (every is_digit ds))
    go false b e ih = refl

-- one turn of the reading
module _ (most n i : ℕ) (ds : List ℕ) (r : Option ℕ) where
  pub read-end : length ds ≤ i → read_from most n (drop i ds) ≡ r → Some n ≡ r
  unfolding read_from
  read-end h e = rw (drop_of_length-le ds h) at e

  pub read-other : (b : Bool) → b ≡ is_digit (get_or ds i 0) → not b ≡ true → i < length ds → read_from most n (drop i ds) ≡ r → None ≡ r
  unfolding read_from pick
  read-other b u t h e = let v : is_digit (get_or ds i 0) ≡ false = sym u ∙ not-true b t in rw (drop-cons ds i 0 h, v) at e

  module _ (q : ℕ) (is : q ≡ get_or ds i 0 - 48) (b : Bool) (u : b ≡ is_digit (get_or ds i 0)) (t : not b ≡ false) (h : i < length ds) (e : read_from most n (drop i ds) ≡ r) where
    at-digit : pick (leb (n * 10 + q) most) (read_from most (n * 10 + q) (drop (i + 1) ds)) None ≡ r
    unfolding read_from pick
    at-digit = let v : is_digit (get_or ds i 0) ≡ true = sym u ∙ not-false b t in rw (is, add-one) (rw (drop-cons ds i 0 h, v) at e)

    pub read-great : most < n * 10 + q → None ≡ r
    unfolding pick
    read-great g = rw (lt-leb (n * 10 + q) most g) at at-digit

    pub read_more : n * 10 + q ≤ most → read_from most (n * 10 + q) (drop (i + 1) ds) ≡ r
    unfolding pick
    read_more g = rw (le-leb (n * 10 + q) most g) at at-digit

-- a digit's bound, by the test that the code makes
module _ (x : ℕ) (b : Bool) (u : b ≡ is_digit x) (t : not b ≡ false) where
  pub digit-high : x ≤ 57
  digit-high = within-high 48 57 x (sym u ∙ not-false b t)

-- where the reading starts
module _ (most : ℕ) (ds : List ℕ) where
  pub upto-empty : length ds ≡ 0 → None ≡ decimal_upto most ds
  unfolding decimal_upto is_empty pick
  upto-empty = elim ds as (λ ys. length ys ≡ 0 → None ≡ decimal_upto most ys) [ [] ↦ λ h. refl | x ∷ xs ↦ λ h. absurd (omega arith) ]

  pub upto-start : (length ds ≡ 0 → ⊥) → read_from most 0 ds ≡ decimal_upto most ds
  unfolding decimal_upto is_empty
  upto-start = elim ds as (λ ys. (length ys ≡ 0 → ⊥) → read_from most 0 ys ≡ decimal_upto most ys) [ [] ↦ λ g. absurd (g refl) | x ∷ xs ↦ λ g. read_is most 0 (x ∷ xs) (omega arith) ]
