-- The names and defaults in the code's numbers: computed over the seventeen features. Assumes nothing.
use mathlib.Core.Path.{◌≡◌, refl}
use mathlib.Core.Bool.{Bool, true}
use mathlib.Core.List.{List, [], ◌∷◌, map}
use Rattle.std.specs.Prelude.{slice_get, Some}
use native.Mathlib.Nat.{zero-add, add-zero, add-suc, suc-add, le_of_suc-le-suc, not-suc-le-zero}
use Prim.Native.Nat.{ℕ, zero, suc, ◌+◌, ◌*◌, ◌^◌, ◌/◌, ◌%◌, ◌<◌, ◌≤◌}
use native.Mathlib.Omega.{arith}
use lib.Dec.{eqb, leb}
use lib.ListN.{length, get_or}
use borrow.Author.Tests.{eq-eqb, ne_eqb, le-leb, lt-leb}
use Rattle.ascii.specs.Bytes.{pick}
use Rattle.ascii.specs.Texts.{every, same_bytes}
use Rattle.ascii.proofs.Texts.{every-at, bytes_same}
use Rattle.features.specs.Features.{Default, features, feature_count, row_default, names, name_of, default_of}
use Rattle.features.specs.Features.Default.{star, self}
use Rattle.features.specs.Discarding.{third_of}
use Rattle.features.specs.Packing.{front_of, back_of}
use Rattle.features.specs.Answers.{IsPacked, OnlyNumber}
use Rattle.features.specs.declared.Packed.{Packed}
use Rattle.features.proofs.Rules.{map_at}
use Rattle.features.proofs.Laws.{count, distinct, name-three, named-below}

-- the number of a short name in a number of eight bytes, and of a long one in a number of sixteen half bytes
abbrev pub short_in : ℕ → ℕ → ℕ → ℕ
short_in packed len third = packed / 2 ^ (8 * ((len % 16 + third) % 8)) % 256

abbrev pub long_in : ℕ → ℕ → ℕ → ℕ
long_in packed len third = packed / 2 ^ (4 * ((len % 16 + third) % 16)) % 16

-- whether a name has the number that its length and third byte give
unfoldable pub short_right : ℕ → List ℕ → Bool
short_right packed name = pick (leb (length name) 8) (same_bytes name (name_of (short_in packed (length name) (third_of name)))) true

unfoldable pub long_right : ℕ → List ℕ → Bool
long_right packed name = pick (leb (length name) 8) true (same_bytes name (name_of (long_in packed (length name) (third_of name))))

-- two numbers of one name are the same
one_number : (n k : ℕ) → n < feature_count → same_bytes (name_of n) (name_of k) ≡ true → n ≡ k
one_number n k l e =
    let u : name_of n ≡ name_of k = bytes_same (name_of n) (name_of k) e in
    let h : 3 ≤ length (name_of k) = rw u at (name-three n l) in
    distinct n k l (named-below k (omega arith)) u

-- then no other name has that length and third byte
module _ (packed len third : ℕ) where
  pub short-only : every (short_right packed) names ≡ true → len ≤ 8 → OnlyNumber len third (short_in packed len third)
  unfolding short_right name_of pick
  short-only e h =
      record {
        only =
            λ n l u v.
            let a : short_right packed (name_of n) ≡ true = every-at (short_right packed) [] names n e (omega (arith, count)) in
            one_number n (short_in packed len third) l (rw (u, v, le-leb len 8 h) at a);
      }

  pub long-only : every (long_right packed) names ≡ true → 8 < len → OnlyNumber len third (long_in packed len third)
  unfolding long_right name_of pick
  long-only e h =
      record {
        only =
            λ n l u v.
            let a : long_right packed (name_of n) ≡ true = every-at (long_right packed) [] names n e (omega (arith, count)) in
            one_number n (long_in packed len third) l (rw (u, v, lt-leb len 8 h) at a);
      }

-- a text in numbers
abbrev pub packed_of : List ℕ → Packed
packed_of s = record { len = length s; third = third_of s; front = front_of s; back = back_of s }

-- an entry of a table of the names in numbers
pub packed-at : (t : List Packed) (d : Packed) (n : ℕ) → t ≡ map packed_of names → n < feature_count → IsPacked n (get_or t n d)
unfolding name_of
packed-at t d n e h =
    let g : n < length names = omega (arith, count) in
    rw (e, map_at packed_of [] d names n g) (record { len = refl; third = refl; front = refl; back = refl })

-- ---- the defaults as bits of one number

-- the default that bit n of a number gives: `*` where it is set
abbrev pub default_by : ℕ → ℕ → Default
default_by stars n = pick (eqb (stars / 2 ^ n % 2) 1) star self

-- the defaults of k features, from n on
unfoldable pub defaults_by : ℕ → ℕ → ℕ → List Default
defaults_by stars n zero = []
defaults_by stars n (suc k) = default_by stars n ∷ defaults_by stars (suc n) k

defaults-at : (stars n k i : ℕ) → i < k → slice_get (defaults_by stars n k) i ≡ Some (default_by stars (n + i))
unfolding defaults_by
defaults-at stars n zero i h = absurd (not-suc-le-zero h)
defaults-at stars n (suc k) zero h = rw (add-zero n)
defaults-at stars n (suc k) (suc i) h = rw (add-suc n i, ← suc-add n i) (defaults-at stars (suc n) k i (le_of_suc-le-suc h))

-- where they are the seventeen of document 01, each feature has its bit's
module _ (stars n : ℕ) (e : defaults_by stars 0 feature_count ≡ map row_default features) (h : n < feature_count) where
  default-by : Some (default_by stars n) ≡ default_of n
  unfolding default_of
  default-by = rw (← e, defaults-at stars 0 feature_count n h, zero-add n)

  pub default-star : stars / 2 ^ n % 2 ≡ 1 → Some star ≡ default_of n
  unfolding pick
  default-star t = rw (eq-eqb (stars / 2 ^ n % 2) 1 t) at default-by

  pub default-self : (stars / 2 ^ n % 2 ≡ 1 → ⊥) → Some self ≡ default_of n
  unfolding pick
  default-self t = rw (ne_eqb (stars / 2 ^ n % 2) 1 t) at default-by
