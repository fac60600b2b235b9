-- The numbers that the exported functions answer with, for C and Rust.
use Rattle.limits.specs.declared.Refusal.{Refusal}
use Rattle.std.specs.Prelude.{Result, Ok, Err}
use Rattle.std.specs.Prelude.{Option, Some, None, true, false}
use Rattle.std.specs.Prelude.{ℕ, ◌+◌, ◌*◌, ◌/◌, ◌%◌, ◌≡◌, List, Bool, eqb}
use Rattle.ascii.specs.Bytes.{pick}
use Rattle.limits.specs.Refusals.{refusal_number}
use Rattle.origins.specs.Origins.{TupleOrigin}
use Rattle.origins.specs.declared.Scheme.{Scheme}
use Rattle.origins.specs.declared.Scheme.TheVariants.{Http, Https}
use Rattle.settling.specs.declared.SettledHeader.{SettledHeader}
use Rattle.settling.specs.declared.SettleError.{SettleError}
use Rattle.settling.specs.declared.SettleError.TheVariants as error
use Rattle.settling.specs.Promises.{IsSettled}
use Rattle.tidying.specs.Answers.{IsTidied}

-- 2^32: numbers from here on are no lengths
abbrev pub beyond : ℕ
beyond = 4294967296

-- a length, or 2^32 and the refusal's number
abbrev pub tidy_code : Result ℕ Refusal → ℕ
tidy_code (Ok n) = n
tidy_code (Err r) = beyond + refusal_number r

-- the bytes taken; 2^32 for a malformed header, 2^33 for one that is too long, 2^34 for a run that is too short
abbrev pub settled_code : Result SettledHeader SettleError → ℕ
settled_code (Ok f) = pick f.malformed beyond f.to
settled_code (Err error.TooLong) = 2 * beyond
settled_code (Err error.NoRoom) = 4 * beyond

abbrev pub admission_code : Option Bool → ℕ
admission_code None = 0
admission_code (Some true) = 1
admission_code (Some false) = 2

-- the answer of the library behind a number, and what it promises of the lent run
pub record TidiedBy (s before after : List ℕ) (n : ℕ) : Type 0 where
  pub answer : Result ℕ Refusal
  pub tidied : IsTidied s before after answer
  pub code : n ≡ tidy_code answer

pub record SettledBy (s before after : List ℕ) (n : ℕ) : Type 0 where
  pub answer : Result SettledHeader SettleError
  pub settled : IsSettled s before after answer
  pub code : n ≡ settled_code answer

-- what is asked, in one number: bit 0 whether the origin is the document's own, bit 1 whether its scheme is https, from bit 16 on its port
abbrev pub is_own : ℕ → Bool
is_own asked = eqb (asked % 2) 1

abbrev pub asked_scheme : ℕ → Scheme
asked_scheme asked = pick (eqb (asked / 2 % 2) 1) Https Http

abbrev pub asked_origin : ℕ → List ℕ → TupleOrigin
asked_origin asked host = record { scheme = asked_scheme asked; host = host; port = asked / 65536 }
