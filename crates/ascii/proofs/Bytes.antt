-- Laws of bytes: what a test on a class says, and lower case. Assumes nothing.
use mathlib.Core.Path.{◌≡◌, refl, ◌∙◌, sym}
use Prim.Native.Nat.{ℕ, ◌+◌, ◌≤◌}
use mathlib.Core.Bool.{Bool, true, false, ◌&&◌, ◌||◌}
use mathlib.Core.Logic.{◌⊎◌, inl, inr}
use lib.Dec.{leb}
use borrow.Author.Tests.{leb-true}
use Rattle.ascii.proofs.Clash.{clash}
use Rattle.ascii.specs.Bytes.{pick, within, is_upper, lower}

pub and_left : (a b : Bool) → a && b ≡ true → a ≡ true
and_left true b e = refl
and_left false b e = e

pub and_right : (a b : Bool) → a && b ≡ true → b ≡ true
and_right true b e = e
and_right false b e = clash cc

pub and-false : (a : Bool) → a && false ≡ false
and-false true = refl
and-false false = refl

pub or-false : (b : Bool) → b || false ≡ b
or-false true = refl
or-false false = refl

pub or-true : (b : Bool) → b || true ≡ true
or-true true = refl
or-true false = refl

pub or-on : (a b : Bool) → b ≡ true → a || b ≡ true
or-on true b e = refl
or-on false b e = e

pub or-more : (a b c : Bool) → (b ≡ true → c ≡ true) → a || b ≡ true → a || c ≡ true
or-more true b c f e = refl
or-more false b c f e = f e

pub or_cases : (a b : Bool) → a || b ≡ true → (a ≡ true) ⊎ (b ≡ true)
or_cases true b e = inl refl
or_cases false b e = inr e

module _ (low high b : ℕ) where
  pub within_low : within low high b ≡ true → low ≤ b
  within_low e = leb-true low b (and_left (leb low b) (leb b high) e)

  pub within-high : within low high b ≡ true → b ≤ high
  within-high e = leb-true b high (and_right (leb low b) (leb b high) e)

-- lower case, by the test that the code makes
pub lower-upper : (b : ℕ) (t : Bool) → t ≡ is_upper b → t ≡ true → b + 32 ≡ lower b
unfolding lower pick
lower-upper b t e f = let u : is_upper b ≡ true = sym e ∙ f in rw u

pub lower-other : (b : ℕ) (t : Bool) → t ≡ is_upper b → t ≡ false → b ≡ lower b
unfolding lower pick
lower-other b t e f = let u : is_upper b ≡ false = sym e ∙ f in rw u
