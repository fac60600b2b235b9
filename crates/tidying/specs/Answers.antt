-- 01, "Tidied headers" and the refusals of tidying: 4 for the input, 8, 4 for the output, 9, in this order.
use Rattle.limits.specs.declared.Refusal.{Refusal}
use Rattle.std.specs.Prelude.{Result, Ok, Err}
use Rattle.std.specs.Prelude.{ℕ, ◌≡◌, List, ◌++◌, length, drop, ltb}
use Rattle.limits.specs.Limits.{text_bytes}
use Rattle.limits.specs.Refusals.{refusal_number}
use Rattle.ascii.specs.Bytes.{pick}
use Rattle.declarations.specs.Declarations.{is_malformed}
use Rattle.tidying.specs.Tidied.{tidied}

-- "The answer is the length"; "A refusal returns only its number"
pub data Answer : Type 0 where
  length_is : ℕ → Answer
  refusal : ℕ → Answer

-- the number and values of the code's answer
abbrev pub answer_in : Result ℕ Refusal → Answer
answer_in (Ok n) = length_is n
answer_in (Err r) = refusal (refusal_number r)

-- the answer for a header and a lent run of so many bytes
unfoldable pub tidy_answer : List ℕ → ℕ → Answer
tidy_answer s room =
    pick (ltb text_bytes (length s)) (refusal 4)
    (pick (is_malformed s) (refusal 8)
    (pick (ltb text_bytes (length (tidied s))) (refusal 4)
    (pick (ltb room (length (tidied s))) (refusal 9)
    (length_is (length (tidied s))))))

-- the lent run afterwards: the text and "lent bytes after it are unchanged"; a refusal changes nothing
unfoldable pub run_after : Answer → List ℕ → List ℕ → List ℕ
run_after (length_is n) t run = t ++ drop n run
run_after (refusal k) t run = run

-- what a call of tidying promises: its answer, and every lent byte
pub record IsTidied (s run after : List ℕ) (r : Result ℕ Refusal) : Type 0 where
  pub answer : answer_in r ≡ tidy_answer s (length run)
  pub bytes : after ≡ run_after (answer_in r) (tidied s) run
