-- What a reading leaves is the end of the text that it read. Assumes nothing.
use mathlib.Core.Path.{◌≡◌, refl, ap, ◌∙◌, sym}
use Prim.Native.Nat.{ℕ, zero, suc, ◌-◌, ◌≤◌}
use mathlib.Core.List.{List, [], ◌∷◌, ◌++◌, append_assoc}
use mathlib.Core.Bool.{Bool, true, false}
use native.Mathlib.Omega.{arith}
use lib.ListN.{length, drop, length-append}
use lib.Seq.{drop_at}
use Rattle.ascii.proofs.Clash.{clash}
use Rattle.ascii.specs.Bytes.{pick}
use Rattle.ascii.specs.Reading.{Parsed, Step, next, skip, let_len, run_of, past, after, mapped, going, adding, on_step, turns}
use Rattle.ascii.specs.Reading.Parsed.{parsed, malformed}
use Rattle.ascii.specs.Reading.Step.{more, done, fail}
use Rattle.ascii.proofs.Reading.{run-cut}

-- m is the end of l
pub record Suffix (m l : List ℕ) : Type 0 where
  pub before : List ℕ
  pub is : l ≡ before ++ m

pub suffix-all : (l : List ℕ) → Suffix l l
suffix-all l = record { before = []; is = refl }

pub suffix_trans : {l m n : List ℕ} → Suffix m l → Suffix n m → Suffix n l
suffix_trans {l} {m} {n} a b = record { before = a.before ++ b.before; is = a.is ∙ (ap (λ (z : List ℕ). a.before ++ z) b.is ∙ sym (append_assoc a.before b.before n)) }

pub suffix-past : (p : ℕ → Bool) (l : List ℕ) → Suffix (past p l) l
suffix-past p l = record { before = run_of p l; is = run-cut p l }

pub suffix-drop : (n : ℕ) (l : List ℕ) → Suffix (drop n l) l
suffix-drop zero l = suffix-all l
suffix-drop (suc n) [] = suffix-all []
suffix-drop (suc n) (x ∷ xs) = let r : Suffix (drop n xs) xs = suffix-drop n xs in record { before = x ∷ r.before; is = ap (λ (z : List ℕ). x ∷ z) r.is }

pub suffix-length : {m l : List ℕ} → Suffix m l → length m ≤ length l
suffix-length {m} {l} a = omega (arith, ap length a.is, length-append a.before m)

-- the place of an end of a text
pub suffix-place : {m l : List ℕ} → Suffix m l → drop (length l - length m) l ≡ m
suffix-place {m} {l} a =
    let n : length l - length m ≡ length a.before = omega (arith, ap length a.is, length-append a.before m) in
    rw n (rw a.is (drop_at a.before m (length a.before) refl))

-- a reading that was given l leaves an end of it
pub record Ends {A : Type 0} (l : List ℕ) (g : Parsed A) : Type 0 where
  pub ends : (a : A) (m : List ℕ) → g ≡ parsed a m → Suffix m l

pub record StepEnds {A : Type 0} (l : List ℕ) (g : Step A) : Type 0 where
  pub goes_on : (a : List A) (m : List ℕ) → g ≡ more a m → Suffix m l
  pub stops : (a : List A) (m : List ℕ) → g ≡ done a m → Suffix m l

module _ {A : Type 0} (l : List ℕ) where
  pub ends-parsed : (x : A) (m : List ℕ) → Suffix m l → Ends l (parsed x m)
  ends-parsed x m h = record { ends = λ a n e. let w : m ≡ n = cc in rw w at h }

  pub ends-malformed : Ends {A = A} l malformed
  ends-malformed = record { ends = λ a n e. clash cc }

  pub ends-pick : (b : Bool) (x y : Parsed A) → Ends l x → Ends l y → Ends l (pick b x y)
  unfolding pick
  ends-pick true x y h k = h
  ends-pick false x y h k = k

  pub ends_next : (k : List ℕ) (f : List ℕ → Parsed A) → Suffix k l → ((m : List ℕ) → Suffix m l → Ends l (f m)) → Ends l (next k f)
  unfolding next
  ends_next k f h g = g (drop 1 k) (suffix_trans h (suffix-drop 1 k))

  pub ends-skip : (p : ℕ → Bool) (k : List ℕ) (f : List ℕ → Parsed A) → Suffix k l → ((m : List ℕ) → Suffix m l → Ends l (f m)) → Ends l (skip p k f)
  unfolding skip
  ends-skip p k f h g = g (past p k) (suffix_trans h (suffix-past p k))

  pub ends-past : (x : A) (p : ℕ → Bool) (k : List ℕ) → Suffix k l → Ends l (parsed x (past p k))
  ends-past x p k h = ends-parsed x (past p k) (suffix_trans h (suffix-past p k))

  pub ends-len : (k : List ℕ) (f : ℕ → Parsed A) → ((n : ℕ) → Ends l (f n)) → Ends l (let_len k f)
  unfolding let_len
  ends-len k f g = g (length k)

  pub ends-after : {B : Type 0} (g : Parsed B) (f : B → List ℕ → Parsed A) → Ends l g → ((x : B) (m : List ℕ) → Suffix m l → Ends l (f x m)) → Ends l (after g f)
  unfolding after
  ends-after (parsed x m) f h k = k x m (h.ends x m refl)
  ends-after malformed f h k = ends-malformed

  pub ends-mapped : {B : Type 0} (h : B → A) (g : Parsed B) → Ends l g → Ends l (mapped h g)
  unfolding mapped
  ends-mapped h (parsed x m) e = ends-parsed (h x) m (e.ends x m refl)
  ends-mapped h malformed e = ends-malformed

  pub ends-wide : (k : List ℕ) (g : Parsed A) → Suffix k l → Ends k g → Ends l g
  ends-wide k g h e = record { ends = λ a m u. suffix_trans h (e.ends a m u) }

  -- the same of a turn
  pub step-more : (x : List A) (m : List ℕ) → Suffix m l → StepEnds l (more x m)
  step-more x m h = record { goes_on = λ a n e. (let w : m ≡ n = cc in rw w at h); stops = λ a n e. clash cc }

  pub step-done : (x : List A) (m : List ℕ) → Suffix m l → StepEnds l (done x m)
  step-done x m h = record { goes_on = λ a n e. clash cc; stops = λ a n e. (let w : m ≡ n = cc in rw w at h) }

  pub step-fail : StepEnds {A = A} l fail
  step-fail = record { goes_on = λ a n e. clash cc; stops = λ a n e. clash cc }

  pub step-pick : (b : Bool) (x y : Step A) → StepEnds l x → StepEnds l y → StepEnds l (pick b x y)
  unfolding pick
  step-pick true x y h k = h
  step-pick false x y h k = k

  pub step-next : (k : List ℕ) (f : List ℕ → Step A) → Suffix k l → ((m : List ℕ) → Suffix m l → StepEnds l (f m)) → StepEnds l (next k f)
  unfolding next
  step-next k f h g = g (drop 1 k) (suffix_trans h (suffix-drop 1 k))

  pub step_skip : (p : ℕ → Bool) (k : List ℕ) (f : List ℕ → Step A) → Suffix k l → ((m : List ℕ) → Suffix m l → StepEnds l (f m)) → StepEnds l (skip p k f)
  unfolding skip
  step_skip p k f h g = g (past p k) (suffix_trans h (suffix-past p k))

  pub step-going : {B : Type 0} (g : Parsed B) (f : B → List ℕ → Step A) → Ends l g → ((x : B) (m : List ℕ) → Suffix m l → StepEnds l (f x m)) → StepEnds l (going g f)
  unfolding going
  step-going (parsed x m) f h k = k x m (h.ends x m refl)
  step-going malformed f h k = step-fail

-- turns leave an end of the text where each turn does
module _ {A : Type 0} (f : List ℕ → Step A) (each : (l : List ℕ) → StepEnds l (f l)) where
  ends-adding : (l : List ℕ) (a : List A) (g : Parsed (List A)) → Ends l g → Ends l (adding a g)
  unfolding adding
  ends-adding l a (parsed b m) e = ends-parsed l (a ++ b) m (e.ends b m refl)
  ends-adding l a malformed e = ends-malformed l

  pub ends-turns : (n : ℕ) (l : List ℕ) → Ends l (turns f n l)
  unfolding turns
  ends-turns zero l = ends-malformed l
  ends-turns (suc n) l = go (f l) (each l) (λ m. ends-turns n m)
    where
      go : (st : Step A) → StepEnds l st → ((m : List ℕ) → Ends m (turns f n m)) → Ends l (on_step st (λ m. turns f n m))
      go = unfold on_step in (elim [ more a m ↦ λ e h. ends-adding l a (turns f n m) (ends-wide l m (turns f n m) (e.goes_on a m refl) (h m)) | done a m ↦ λ e h. ends-parsed l a m (e.stops a m refl) | fail ↦ λ e h. ends-malformed l ])

pub ruleset suffixes = (suffix-all, ends-parsed, ends-malformed, ends-pick, ends_next, ends-skip, ends-past, ends-len, ends-after, ends-mapped, step-more, step-done, step-fail, step-pick, step-next, step_skip, step-going)
