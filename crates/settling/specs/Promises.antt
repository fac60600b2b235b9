-- What settling a header promises.
use Rattle.std.specs.Prelude.{ℕ, ◌+◌, ◌≤◌, ◌≡◌, List, ◌++◌, length, take, drop, ltb, Result, Ok, Err}
use Rattle.ascii.specs.Bytes.{pick}
use Rattle.limits.specs.Limits.{text_bytes}
use Rattle.declarations.specs.Declarations.{declares, is_malformed}
use Rattle.settled.specs.Settled.{head_bytes, declared_in}
use Rattle.settling.specs.Writing.{settled_bytes}
use Rattle.settling.specs.declared.SettledHeader.{SettledHeader}
use Rattle.settling.specs.declared.SettleError.{SettleError}
use Rattle.settling.specs.declared.SettleError.TheVariants as error

-- a header was settled into the first bytes of a run: which bytes these are; whatever follows them, they say what it declares for every number; they
-- are at most as many as the head and the header have; the others stayed
pub record IsSettledIn (s before after : List ℕ) (f : SettledHeader) : Type 0 where
  pub is : after ≡ settled_bytes s ++ drop f.to before
  pub to : f.to ≡ length (settled_bytes s)
  pub says : (y : List ℕ) (n : ℕ) → declared_in (take f.to after ++ y) n ≡ declares s n
  pub malformed : f.malformed ≡ is_malformed s
  pub upto : f.to ≤ head_bytes + length s
  pub rest : drop f.to after ≡ drop f.to before
  pub long : length after ≡ length before

-- which answer is given: 01, "A header is an RFC 8941 dictionary of at most" so many bytes as the limit says; and the run must have room for the head and the header
pub data Answer : Type 0 where
  too_long : Answer
  small : Answer
  header : Answer

abbrev pub answer_of : Result SettledHeader SettleError → Answer
answer_of (Err error.TooLong) = Answer.too_long
answer_of (Err error.NoRoom) = Answer.small
answer_of (Ok f) = Answer.header

abbrev pub settled_answer : List ℕ → ℕ → Answer
settled_answer s n =
    pick (ltb text_bytes (length s)) Answer.too_long (pick (ltb n (head_bytes + length s)) Answer.small Answer.header)

-- which answer is given, and what the run is then: an error changes nothing
pub record IsSettled (s before after : List ℕ) (r : Result SettledHeader SettleError) : Type 0 where
  pub which : answer_of r ≡ settled_answer s (length before)
  pub refused : (e : SettleError) → r ≡ Err e → after ≡ before
  pub header : (f : SettledHeader) → r ≡ Ok f → IsSettledIn s before after f
