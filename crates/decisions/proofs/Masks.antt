-- The decisions as one number: a bit set or left clear at each turn. Assumes nothing.
use mathlib.Core.Path.{◌≡◌, refl, ap, ◌∙◌, sym}
use mathlib.Core.Logic.{⊎_elim}
use Prim.Native.Nat.{ℕ, zero, suc, ◌+◌, ◌-◌, ◌*◌, ◌^◌, ◌/◌, ◌%◌, ◌<◌, ◌≤◌}
use native.Mathlib.Nat.{pow-suc, add_comm, mul_assoc, add-mul-mod_self_right, eq-or-lt_of_le, div-eq_of_lt, lt_of_lt_of_le}
use native.Mathlib.Numerals.{add-one}
use native.Mathlib.Omega.{arith}
use lib.Bits.{bit_or, or_shifted_r}
use lib.Pow.{shl_exact, pow_mono, pow-add, high, field}
use Rattle.features.specs.Features.{feature_count}
use Rattle.decisions.specs.Decisions.{Decision, decided}
use Rattle.decisions.specs.Decisions.Decision.{disabled, enabled}
use Rattle.decisions.specs.Masks.{bit_of, mask_below, decision_at}
use Rattle.decisions.specs.Answers.{decision_in}
use Rattle.decisions.specs.declared.Decision.TheVariants as answer

mask_next : (d : Decision) (m n : ℕ) → m < 2 ^ n → m + bit_of d * 2 ^ n < 2 ^ suc n
mask_next disabled m n h = rw (pow-suc 2 n) (omega arith)
mask_next enabled m n h = rw (pow-suc 2 n) (omega arith)

-- the bits of the features below a number lie below that bit
pub mask_lt : (p : ℕ → Decision) (n : ℕ) → mask_below p n < 2 ^ n
unfolding mask_below
mask_lt p zero = omega arith
mask_lt p (suc n) = mask_next (p n) (mask_below p n) n (mask_lt p n)

-- `r | (1 << i)`, where r has no bit from i on
or-bit : (r i : ℕ) → r < 2 ^ i → i < 32 → bit_or r ((1 * 2 ^ i) % 4294967296) ≡ r + 1 * 2 ^ i
or-bit r i h lt = rw (shl_exact {a = 1} 1 i 32 (omega arith) (omega arith), or_shifted_r 1 i r h) (omega arith)

mask-set : (p : ℕ → Decision) (i : ℕ) → i < 32 → p i ≡ enabled → bit_or (mask_below p i) ((1 * 2 ^ i) % 4294967296) ≡ mask_below p (i + 1)
unfolding mask_below
mask-set p i lt e = rw (add-one, e) (or-bit (mask_below p i) i (mask_lt p i) lt)

mask-left : (p : ℕ → Decision) (i : ℕ) → p i ≡ disabled → mask_below p i ≡ mask_below p (i + 1)
unfolding mask_below
mask-left p i e = rw (add-one, e) (omega arith)

-- one turn of the loop: no bit from the next one on, and the bits of the features so far
pub bit-set : (r i q : ℕ) → r < 2 ^ i → i < feature_count → q ≡ bit_or r ((1 * 2 ^ i) % 4294967296) → q < 2 ^ (i + 1)
bit-set r i q h lt is = rw (is, or-bit r i h (omega arith), add-one, pow-suc 2 i) (omega arith)

pub bit-left : (r i q : ℕ) → r < 2 ^ i → q ≡ r → q < 2 ^ (i + 1)
bit-left r i q h is = rw (is, add-one, pow-suc 2 i) (omega arith)

module _ (p : ℕ → Decision) (r i q : ℕ) (so : r ≡ mask_below p i) where
  pub turn-enabled : i < feature_count → decision_in answer.Enabled ≡ p i → q ≡ bit_or r ((1 * 2 ^ i) % 4294967296) → q ≡ mask_below p (i + 1)
  turn-enabled lt e is = is ∙ rw so (mask-set p i (omega arith) (sym e))

  pub turn-disabled : decision_in answer.Disabled ≡ p i → q ≡ r → q ≡ mask_below p (i + 1)
  turn-disabled e is = is ∙ (so ∙ mask-left p i (sym e))

bit-mod : (d : Decision) → bit_of d % 2 ≡ bit_of d
bit-mod disabled = refl
bit-mod enabled = refl

low_bit : (b m n j : ℕ) → j < n → (m + b * 2 ^ n) / 2 ^ j % 2 ≡ m / 2 ^ j % 2
low_bit b m n j l =
    let e : n ≡ (n - (1 + j)) + (1 + j) = omega arith in
    let q : 2 ^ n ≡ 2 ^ (n - (1 + j)) * 2 ^ (1 + j) = ap (λ (k : ℕ). 2 ^ k) e ∙ pow-add 2 (n - (1 + j)) (1 + j) in
    sym (field (m + b * 2 ^ n) 1 j)
    ∙ rw (q, ← mul_assoc b (2 ^ (n - (1 + j))) (2 ^ (1 + j)), add-mul-mod_self_right) refl
    ∙ field m 1 j

-- bit j is decision j
pub mask-bit : (p : ℕ → Decision) (n j : ℕ) → j < n → mask_below p n / 2 ^ j % 2 ≡ bit_of (p j)
unfolding mask_below
mask-bit p zero j lt = absurd (let h : ⊥ = omega arith in h)
mask-bit p (suc n) j lt =
    ⊎_elim
    (λ (q : j ≡ n). rw (q, add_comm, high (bit_of (p n)) n (mask_lt p n)) (bit-mod (p n)))
    (λ (l : j < n). low_bit (bit_of (p n)) (mask_below p n) n j l ∙ mask-bit p n j l)
    (eq-or-lt_of_le (let h : j ≤ n = omega arith in h))

-- a number has no bit from one on that it lies below
pub bits-past : (m n k : ℕ) → m < 2 ^ k → k ≤ n → decision_at m n ≡ disabled
unfolding decision_at decided
bits-past m n k h le = rw (div-eq_of_lt (lt_of_lt_of_le h (pow_mono le)))

-- a bit that no number has
pub bit-none : (m n : ℕ) → m < 2 ^ 32 → 32 ≤ n → disabled ≡ decision_at m n
bit-none m n h le = sym (bits-past m n 32 h le)

pub ruleset bits = (bit-none, bits-past)
