-- Numbers in decimal: read, and written.
use Rattle.std.specs.Prelude.{ℕ, zero, suc, ◌+◌, ◌-◌, ◌*◌, ◌/◌, ◌%◌, List, [], ◌∷◌, ◌++◌, Bool, true, false, not, ◌&&◌, length, leb, ltb, eqb}
use Rattle.std.specs.Prelude.{Option, Some, None}
use Rattle.ascii.specs.Bytes.{pick, is_digit}
use Rattle.ascii.specs.Texts.{every}
use Rattle.ascii.specs.Reading.{head_of, is_empty}

-- digits read in decimal, after a number that stands before them
unfoldable pub decimal_from : ℕ → List ℕ → ℕ
decimal_from n [] = n
decimal_from n (d ∷ ds) = decimal_from (n * 10 + (d - 48)) ds

abbrev pub decimal : List ℕ → ℕ
decimal ds = decimal_from 0 ds

-- the number that one digit or more say, worth at most so much
unfoldable pub decimal_upto : ℕ → List ℕ → Option ℕ
decimal_upto most ds = pick (not (is_empty ds) && every is_digit ds && leb (decimal ds) most) (Some (decimal ds)) None

-- a zero before another digit
unfoldable pub leads_zero : List ℕ → Bool
leads_zero ds = ltb 1 (length ds) && eqb (head_of ds) 48

-- a number below ten is one digit; another is what is written of its tenth, and its last digit
unfoldable pub digits_by : Bool → (ℕ → List ℕ) → ℕ → List ℕ
digits_by true f n = (48 + n) ∷ []
digits_by false f n = f (n / 10) ++ ((48 + n % 10) ∷ [])

-- a number in decimal without leading zeros, its last so many digits
unfoldable pub last_digits : ℕ → ℕ → List ℕ
last_digits zero n = []
last_digits (suc k) n = digits_by (ltb n 10) (last_digits k) n

-- all of them: a number n has at most n + 1 digits
unfoldable pub decimal_text : ℕ → List ℕ
decimal_text n = last_digits (suc n) n
