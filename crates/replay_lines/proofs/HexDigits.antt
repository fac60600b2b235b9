-- Hex digits: their values, by the tests that the code makes. Assumes nothing.
use mathlib.Core.Path.{◌≡◌, ◌∙◌, sym}
use Prim.Native.Nat.{ℕ, ◌-◌, ◌≤◌}
use mathlib.Core.Bool.{Bool, true, false}
use native.Mathlib.Omega.{arith}
use Rattle.ascii.specs.Bytes.{pick, within, is_digit}
use Rattle.ascii.proofs.Bytes.{within_low, within-high}
use Rattle.replay_lines.specs.Format.{hex_value}

module _ (b : ℕ) (t : Bool) (u : t ≡ is_digit b) where
  pub digit-from : t ≡ true → 48 ≤ b
  digit-from e = within_low 48 57 b (sym u ∙ e)

  pub value-digit : t ≡ true → (b - 48 ≡ hex_value b) × (b - 48 ≤ 15)
  unfolding hex_value pick
  value-digit e = let x : is_digit b ≡ true = sym u ∙ e in (rw x, omega (arith, within-high 48 57 b x))

  module _ (e : t ≡ false) where
    pub value-upper : within 65 70 b ≡ true → (b - 55 ≡ hex_value b) × (b - 55 ≤ 15)
    unfolding hex_value pick
    value-upper f = let x : is_digit b ≡ false = sym u ∙ e in (rw (x, f), omega (arith, within-high 65 70 b f))

    pub value-lower : within 65 70 b ≡ false → within 97 102 b ≡ true → (b - 87 ≡ hex_value b) × (b - 87 ≤ 15)
    unfolding hex_value pick
    value-lower f g = let x : is_digit b ≡ false = sym u ∙ e in (rw (x, f, g), omega (arith, within-high 97 102 b g))

    pub value_none : within 65 70 b ≡ false → within 97 102 b ≡ false → (0 ≡ hex_value b) × (0 ≤ 15)
    unfolding hex_value pick
    value_none f g = let x : is_digit b ≡ false = sym u ∙ e in (rw (x, f, g), omega arith)

pub upper-from : (b : ℕ) → within 65 70 b ≡ true → 55 ≤ b
upper-from b e = omega (arith, within_low 65 70 b e)

pub lower-from : (b : ℕ) → within 97 102 b ≡ true → 87 ≤ b
lower-from b e = omega (arith, within_low 97 102 b e)
