-- The numbers of answers, in the terms of the code. Assumes nothing.
use Rattle.std.specs.Prelude.{Result, Ok, Err}
use Rattle.std.specs.Prelude.{Option, Bool}
use mathlib.Core.Path.{◌≡◌, ◌∙◌, sym}
use Prim.Native.Nat.{ℕ, ◌+◌, ◌-◌, ◌/◌, ◌%◌}
use mathlib.Core.List.{List}
use mathlib.Core.Bool.{true, false}
use lib.ListN.{length}
use lib.Seq.{take-length}
use native.Mathlib.Omega.{arith}
use borrow.Author.Tests.{eq-eqb, ne_eqb}
use Rattle.ascii.specs.Bytes.{pick}
use Rattle.ascii.specs.Texts.{part_of}
use Rattle.ascii.proofs.Texts.{part-in}
use Rattle.limits.specs.Refusals.{refusal_number}
use Rattle.limits.specs.declared.Refusal.{Refusal}
use Rattle.origins.specs.Origins.Origin.{tuple}
use Rattle.origins.specs.Answers.{origin_in}
use Rattle.origins.specs.declared.Scheme.{Scheme}
use Rattle.origins.specs.declared.Scheme.TheVariants.{Http, Https}
use Rattle.origins.specs.declared.OriginRange.TheVariants as range
use Rattle.allowlists.specs.Allowlists.{some_admits}
use Rattle.settled.specs.Settled.{declared_in}
use Rattle.settling.specs.declared.SettleError.{SettleError}
use Rattle.settling.specs.declared.SettledHeader.{SettledHeader}
use Rattle.speed_exports.specs.Codes.{beyond, tidy_code, settled_code, admission_code, is_own, asked_scheme, asked_origin}

pub tidy-refused : (a : Result ℕ Refusal) (r : Refusal) (n : ℕ) → a ≡ Err r → n ≡ refusal_number r → beyond + n ≡ tidy_code a
tidy-refused a r n k e = rw (k, e)

module _ (a : Result SettledHeader SettleError) (f : SettledHeader) (k : a ≡ Ok f) where
  pub settled-malformed : f.malformed ≡ true → beyond ≡ settled_code a
  unfolding pick
  settled-malformed e = rw (k, e)

  pub settled-taken : f.malformed ≡ false → f.to ≡ settled_code a
  unfolding pick
  settled-taken e = rw (k, e)

module _ (asked : ℕ) where
  pub scheme-https : asked / 2 % 2 ≡ 1 → Https ≡ asked_scheme asked
  unfolding pick
  scheme-https e = rw (eq-eqb (asked / 2 % 2) 1 e)

  pub scheme-http : (asked / 2 % 2 ≡ 1 → ⊥) → Http ≡ asked_scheme asked
  unfolding pick
  scheme-http e = rw (ne_eqb (asked / 2 % 2) 1 e)

whole_part : (h : List ℕ) → part_of h 0 (length h) ≡ h
whole_part h = let z : length h - 0 ≡ length h = omega arith in sym (part-in h 0 (length h) (omega arith) (omega arith)) ∙ (rw z (take-length h))

pub admits-code : (d : List ℕ) (n asked : ℕ) (h : List ℕ) (s : Scheme) (a : Option Bool) (r : ℕ) → s ≡ asked_scheme asked → a ≡ some_admits (declared_in d n) (is_own asked) false (origin_in h (range.Tuple (record { parts = record { scheme = s; port = asked / 65536 }; host = record { from = 0; to = length h } }))) → r ≡ admission_code a → r ≡ admission_code (some_admits (declared_in d n) (is_own asked) false (tuple (asked_origin asked h)))
admits-code d n asked h s a r e f g = rw (g, f, whole_part h, e)
