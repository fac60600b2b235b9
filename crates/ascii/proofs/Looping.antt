-- A repeated part, turn by turn. Assumes nothing.
use mathlib.Core.Path.{◌≡◌, refl, ap, ◌∙◌, sym}
use Prim.Native.Nat.{ℕ, zero, suc, ◌+◌, ◌≤◌, ◌<◌, min}
use mathlib.Core.List.{List}
use Rattle.std.specs.Prelude.{Option, Some, None}
use native.Mathlib.Omega.{arith}
use borrow.Author.Rules.{rules}
use lib.ListN.{length, drop, length-drop}
use Rattle.ascii.specs.Reading.{Parsed, Step, adding, on_step, turns, turns_of}
use Rattle.ascii.specs.Reading.Parsed.{parsed, malformed}
use Rattle.ascii.specs.Reading.Step.{more, done, fail}
use Rattle.ascii.specs.Places.{rest_of, left_at, went_of, went_at, Went, low_more}
use Rattle.ascii.specs.Places.Went.{goes, ends, fails}
use Rattle.ascii.proofs.Reading.{place-drop}
use Rattle.ascii.specs.declared.Turn.{Turn}
use Rattle.ascii.specs.declared.Turn.TheVariants as turn

rest-adding : {A : Type 0} (a : List A) (g : Parsed (List A)) → rest_of (adding a g) ≡ rest_of g
unfolding rest_of adding
rest-adding a (parsed b l) = refl
rest-adding a malformed = refl

-- what follows a turn, without what it adds
unfoldable on_went : Went → (List ℕ → Option (List ℕ)) → Option (List ℕ)
on_went (goes l) f = f l
on_went (ends l) f = Some l
on_went fails f = None

rest-step : {A : Type 0} (t : Step A) (f : List ℕ → Parsed (List A)) → rest_of (on_step t f) ≡ on_went (went_of t) (λ l. rest_of (f l))
unfolding on_step on_went went_of rest_of
rest-step (more a l) f = rest-adding a (f l)
rest-step (done a l) f = refl
rest-step fail f = refl

-- what is left from i on is R, with turns enough
pub record Left {A : Type 0} (f : List ℕ → Step A) (s : List ℕ) (i : ℕ) (R : Option (List ℕ)) : Type 0 where
  pub fuel : ℕ
  pub enough : length s < fuel + i
  pub same : rest_of (turns f fuel (drop i s)) ≡ R

pub left-start : {A : Type 0} (f : List ℕ → Step A) (s : List ℕ) (i : ℕ) → Left f s i (rest_of (turns_of f (drop i s)))
left-start f s i = record { fuel = suc (length (drop i s)); enough = omega (arith, length-drop i s); same = refl }

-- the same, from a place that may lie past the end
pub left-place : {A : Type 0} (f : List ℕ → Step A) (s : List ℕ) (at i : ℕ) → i ≡ min at (length s) → Left f s i (rest_of (turns_of f (drop at s)))
left-place f s at i e = rw (← place-drop s at i e) (left-start f s i)

module _ {A : Type 0} (f : List ℕ → Step A) (s : List ℕ) (i : ℕ) (R : Option (List ℕ)) (t : Option Turn) (is : went_at s t ≡ went_of (f (drop i s))) where
  one-turn : (n : ℕ) → rest_of (turns f (suc n) (drop i s)) ≡ on_went (went_at s t) (λ l. rest_of (turns f n l))
  unfolding turns
  one-turn n = rest-step (f (drop i s)) (λ m. turns f n m) ∙ rw is

  pub left-go : (q : ℕ) → t ≡ Some (turn.More q) → i ≤ length s → i < low_more t → Left f s i R → Left f s q R
  left-go q e h g l = go l.fuel l.enough l.same
    where
      go : (n : ℕ) → length s < n + i → rest_of (turns f n (drop i s)) ≡ R → Left f s q R
      go zero k m = absurd (omega arith)
      go (suc n) k m = record { fuel = n; enough = omega (arith, ap low_more e); same = unfold on_went went_at in (rw e at (sym (one-turn n) ∙ m)) }

  pub left-done : (q : ℕ) → t ≡ Some (turn.Done q) → i ≤ length s → Left f s i R → left_at s (Some q) ≡ R
  left-done q e h l = go l.fuel l.enough l.same
    where
      go : (n : ℕ) → length s < n + i → rest_of (turns f n (drop i s)) ≡ R → left_at s (Some q) ≡ R
      go zero k m = absurd (omega arith)
      go (suc n) k m = unfold on_went went_at left_at in (rw e at (sym (one-turn n) ∙ m))

  pub left-fail : t ≡ None → i ≤ length s → Left f s i R → left_at s None ≡ R
  left-fail e h l = go l.fuel l.enough l.same
    where
      go : (n : ℕ) → length s < n + i → rest_of (turns f n (drop i s)) ≡ R → left_at s None ≡ R
      go zero k m = absurd (omega arith)
      go (suc n) k m = unfold on_went went_at left_at in (rw e at (sym (one-turn n) ∙ m))

pub ruleset loops = (left-start, left-place, left-go, left-done, left-fail, rules)
