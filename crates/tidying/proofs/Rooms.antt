-- The answer of tidying and the lent run's length, for the crates above. Assumes nothing.
use mathlib.Core.Path.{◌≡◌, refl, ap}
use Prim.Native.Nat.{ℕ, min, ◌<◌}
use mathlib.Core.List.{List, ◌++◌}
use mathlib.Core.Bool.{Bool, true, false}
use native.Mathlib.Omega.{arith}
use lib.ListN.{length, drop}
use lib.Dec.{ltb}
use borrow.Author.Tests.{ltb-true, ltb-false, lt-ltb, le-ltb}
use Rattle.limits.specs.Limits.{text_bytes}
use Rattle.ascii.specs.Bytes.{pick}
use Rattle.ascii.proofs.Clash.{clash}
use Rattle.declarations.specs.Declarations.{is_malformed}
use Rattle.tidying.specs.Tidied.{tidied}
use Rattle.tidying.specs.Answers.{Answer, length_is, refusal, tidy_answer, run_after}

-- no form is longer than the limit, so a longer run is as good as one of the limit's length
same-room : (n room : ℕ) (b : Bool) → ltb text_bytes n ≡ b → pick b (refusal 4) (pick (ltb (min room text_bytes) n) (refusal 9) (length_is n)) ≡ pick b (refusal 4) (pick (ltb room n) (refusal 9) (length_is n))
unfolding pick
same-room n room true e = refl
same-room n room false e = go (ltb room n) refl
  where
    go : (c : Bool) → ltb room n ≡ c → pick (ltb (min room text_bytes) n) (refusal 9) (length_is n) ≡ pick c (refusal 9) (length_is n)
    go true k = rw (lt-ltb (min room text_bytes) n (omega (arith, ltb-true room n k))) refl
    go false k = rw (le-ltb (min room text_bytes) n (omega (arith, ltb-false room n k, ltb-false text_bytes n e))) refl

pub answer-room : (s : List ℕ) (room : ℕ) → tidy_answer s (min room text_bytes) ≡ tidy_answer s room
unfolding tidy_answer
answer-room s room = ap (λ (x : Answer). pick (ltb text_bytes (length s)) (refusal 4) (pick (is_malformed s) (refusal 8) x)) (same-room (length (tidied s)) room (ltb text_bytes (length (tidied s))) refl)

-- 4 for the input, for a run of any length
pub answer-long : (s : List ℕ) (room : ℕ) → text_bytes < length s → tidy_answer s room ≡ refusal 4
unfolding tidy_answer pick
answer-long s room h = rw (lt-ltb text_bytes (length s) h)

-- an accepted form's length is the answer
is-length : (a b c d : Bool) (m n : ℕ) → length_is n ≡ pick a (refusal 4) (pick b (refusal 8) (pick c (refusal 4) (pick d (refusal 9) (length_is m)))) → n ≡ m
unfolding pick
is-length true b c d m n e = clash cc
is-length false true c d m n e = clash cc
is-length false false true d m n e = clash cc
is-length false false false true m n e = clash cc
is-length false false false false m n e = cc

pub answer-length : (s : List ℕ) (room n : ℕ) → length_is n ≡ tidy_answer s room → n ≡ length (tidied s)
unfolding tidy_answer
answer-length s room n e = is-length (ltb text_bytes (length s)) (is_malformed s) (ltb text_bytes (length (tidied s))) (ltb room (length (tidied s))) (length (tidied s)) n e

pub run-accepted : (n : ℕ) (t run : List ℕ) → run_after (length_is n) t run ≡ t ++ drop n run
unfolding run_after
run-accepted n t run = refl
