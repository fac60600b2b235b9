-- The answer of tidying, test by test. Assumes nothing.
use Rattle.limits.specs.declared.Refusal.{Refusal}
use Rattle.std.specs.Prelude.{Result, Ok, Err}
use mathlib.Core.Path.{◌≡◌, refl, ap, ◌∙◌, sym}
use Prim.Native.Nat.{ℕ, zero, suc, ◌+◌, ◌≤◌, ◌<◌}
use mathlib.Core.List.{List, []}
use mathlib.Core.Bool.{Bool, true, false}
use Rattle.std.specs.Prelude.{Option}
use native.Mathlib.Omega.{arith}
use lib.ListN.{length, take, drop, take-append-drop}
use lib.Dec.{ltb}
use borrow.Author.Tests.{ltb-true, ltb-false, lt-ltb, le-ltb}
use Rattle.limits.specs.Limits.{text_bytes}
use Rattle.limits.specs.declared.Refusal.TheVariants.{TooLong, NotADictionary, Small}
use Rattle.ascii.specs.Bytes.{pick}
use Rattle.ascii.proofs.Clash.{clash}
use Rattle.features.specs.Features.{feature_count}
use Rattle.dictionaries.specs.Written.{written}
use Rattle.allowlists.specs.Allowlists.{Allowlist}
use Rattle.declarations.specs.Declarations.{declares}
use Rattle.settled.specs.Settled.{head_bytes, declared_in}
use Rattle.settling.specs.Promises.{Answer, IsSettledIn, IsSettled}
use Rattle.settling.specs.declared.SettledHeader.{SettledHeader}
use Rattle.settling.specs.declared.SettleError.{SettleError}
use Rattle.settling.specs.declared.SettleError.TheVariants as error
use Rattle.tidying.specs.Tidied.{tidy_from, tidy_members, tidied}
use Rattle.tidying.specs.Writing.{Holds, Adding}
use Rattle.tidying.specs.declared.Text.{Text}
use Rattle.tidying.specs.Answers.{tidy_answer, run_after, IsTidied}
use Rattle.writing.specs.Writing.{Puts}
use Rattle.writing.proofs.Laws.{puts_whole, puts-after}

-- an empty text is held at first
holds-none : (l : Text) → l.len ≡ 0 → Holds l []
holds-none l z = record { fits = λ h. (z, rw z refl); over = λ h. absurd (omega arith) }

-- what declares the same is written the same
from-same : (c d : ℕ → Option Allowlist) → ((n : ℕ) → c n ≡ d n) → (n k : ℕ) → tidy_from c n k ≡ tidy_from d n k
unfolding tidy_from
from-same c d h n zero = refl
from-same c d h n (suc k) = rw (h n, from-same c d h (suc n) k)

-- the answer of settling, by its two tests
long-test : (b c : Bool) → Answer.too_long ≡ pick b Answer.too_long (pick c Answer.small Answer.header) → b ≡ true
unfolding pick
long-test true c e = refl
long-test false true e = clash cc
long-test false false e = clash cc

small-tests : (b c : Bool) → Answer.small ≡ pick b Answer.too_long (pick c Answer.small Answer.header) → (b ≡ false) × (c ≡ true)
unfolding pick
small-tests true c e = clash cc
small-tests false true e = (refl, refl)
small-tests false false e = clash cc

header-test : (b c : Bool) → Answer.header ≡ pick b Answer.too_long (pick c Answer.small Answer.header) → b ≡ false
unfolding pick
header-test true c e = clash cc
header-test false c e = refl

module _ (s run before after : List ℕ) (r : Result SettledHeader SettleError) (g : IsSettled s before after r) where
  -- 4 for the input
  pub input-long : r ≡ Err error.TooLong → IsTidied s run run (Err TooLong)
  unfolding tidy_answer run_after pick
  input-long k =
      let t : ltb text_bytes (length s) ≡ true = long-test (ltb text_bytes (length s)) (ltb (length before) (head_bytes + length s)) (rw k at g.which) in
      record { answer = rw t; bytes = refl }

  -- there is room for every header
  pub never-small : length before ≡ head_bytes + text_bytes → (z : List ℕ) (x : Result ℕ Refusal) → r ≡ Err error.NoRoom → IsTidied s run z x
  never-small h z x k =
      let t = small-tests (ltb text_bytes (length s)) (ltb (length before) (head_bytes + length s)) (rw k at g.which) in
      absurd (omega (arith, ltb-false text_bytes (length s) t.0, ltb-true (length before) (head_bytes + length s) t.1))

  module _ (f : SettledHeader) (k : r ≡ Ok f) where
    short : ltb text_bytes (length s) ≡ false
    short = header-test (ltb text_bytes (length s)) (ltb (length before) (head_bytes + length s)) (rw k at g.which)

    i : IsSettledIn s before after f
    i = g.header f k

    -- 8
    pub malformed : f.malformed ≡ true → IsTidied s run run (Err NotADictionary)
    unfolding tidy_answer run_after pick
    malformed m = record { answer = rw (short, ← i.malformed, m); bytes = refl }

    -- the bytes say what the header declares
    says : (n : ℕ) → declared_in after n ≡ declares s n
    says n = ap (λ (d : List ℕ). declared_in d n) (sym (take-append-drop f.to after)) ∙ i.says (drop f.to after) n

    written_same : written (tidy_members (declared_in after)) ≡ tidied s
    unfolding tidied
    written_same = ap written (from-same (declared_in after) (declares s) says 0 feature_count)

    module _ (m : f.malformed ≡ false) (l z : Text) (start : l.len ≡ 0) (a : Adding l (written (tidy_members (declared_in after))) z) where
      held : Holds z (tidied s)
      held = rw written_same at (a.holds [] (holds-none l start))

      -- 4 for the output
      pub output-long : text_bytes < z.len → IsTidied s run run (Err TooLong)
      unfolding tidy_answer run_after pick
      output-long u =
          record { answer = rw (short, ← i.malformed, m, lt-ltb text_bytes (length (tidied s)) (held.over u)); bytes = refl }

      module _ (t : List ℕ) (w : (z.len ≤ text_bytes) × (t ≡ take z.len z.bytes)) where
        whole_is : t ≡ tidied s
        whole_is = w.1 ∙ (held.fits w.0).1

        whole-fits : length t ≤ text_bytes
        whole-fits = omega (arith, w.0, ap length whole_is, (held.fits w.0).0)

        -- 9
        pub run_short : length run < length t → IsTidied s run run (Err Small)
        unfolding tidy_answer run_after pick
        run_short v = record { answer = rw (short, ← i.malformed, m, ← whole_is, le-ltb text_bytes (length t) whole-fits, lt-ltb (length run) (length t) v); bytes = refl }

        -- the text, copied
        pub written_out : (o : List ℕ) (q : ℕ) → length t ≤ length run → Puts run 0 t o q → IsTidied s run o (Ok q)
        unfolding tidy_answer run_after pick
        written_out o q v p =
            let h : 0 + length t ≤ length run = omega arith in
            let j : q ≡ length t = omega (arith, puts-after run o 0 q t p h) in
            let k : 0 + length t ≡ q = omega arith in
            record {
              answer = rw (short, ← i.malformed, m, ← whole_is, le-ltb text_bytes (length t) whole-fits, le-ltb (length run) (length t) v, j);
              bytes = rw (← whole_is) (puts_whole run o 0 q t p h ∙ rw k);
            }
