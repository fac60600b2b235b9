-- 01: "as a number with bit n for feature n"; "as one 32-bit number, bit n for feature n and no other bit".
use Rattle.std.specs.Prelude.{ℕ, zero, suc, ◌+◌, ◌*◌, ◌^◌, ◌/◌, ◌%◌, eqb}
use Rattle.features.specs.Features.{feature_count}
use Rattle.decisions.specs.Decisions.{Decision, decided}
use Rattle.decisions.specs.Decisions.Decision.{disabled, enabled}

abbrev pub bit_of : Decision → ℕ
bit_of disabled = 0
bit_of enabled = 1

-- the bits of the features below a number
unfoldable pub mask_below : (ℕ → Decision) → ℕ → ℕ
mask_below decisions zero = 0
mask_below decisions (suc n) = mask_below decisions n + bit_of (decisions n) * 2 ^ n

-- the decisions of the seventeen features as one number
abbrev pub mask_of : (ℕ → Decision) → ℕ
mask_of decisions = mask_below decisions feature_count

-- bit n of a number: Enabled where it is set
unfoldable pub decision_at : ℕ → ℕ → Decision
decision_at m n = decided (eqb (m / 2 ^ n % 2) 1)
