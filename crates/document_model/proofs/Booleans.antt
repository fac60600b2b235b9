-- Tests and what follows of their answers. Assumes nothing.
use mathlib.Core.Path.{◌≡◌, refl}
use Prim.Native.Nat.{ℕ, ◌≤◌, ◌<◌}
use native.Mathlib.Omega.{arith}
use mathlib.Core.Bool.{Bool, true, false, not, ◌&&◌, ◌||◌}
use lib.Dec.{T, eqb, ltb, eqb_refl}
use borrow.Author.Tests.{ltb-true, ltb-false}
use Rattle.ascii.proofs.Clash.{clash}

pub is_true : (b : Bool) → T b → b ≡ true
is_true true t = refl
is_true false t = absurd t

pub is_false : (b : Bool) → (T b → ⊥) → b ≡ false
is_false true t = absurd (t tt)
is_false false t = refl

pub eqb-self : (n : ℕ) → eqb n n ≡ true
eqb-self n = is_true (eqb n n) (eqb_refl n)

pub or-either : {X : Type 0} (a b : Bool) → a || b ≡ true → (a ≡ true → X) → (b ≡ true → X) → X
or-either true b e f g = f refl
or-either false b e f g = g e

pub or-neither : (a b : Bool) → a || b ≡ false → b ≡ false
or-neither true b e = clash cc
or-neither false b e = e

pub or-first : (a b : Bool) → T a → T (a || b)
or-first true b t = tt
or-first false b t = absurd t

pub or-second : (a b : Bool) → T b → T (a || b)
or-second true b t = tt
or-second false b t = t

pub or_no : (a b : Bool) → (T a → ⊥) → (T b → ⊥) → a || b ≡ false
or_no true b f g = absurd (f tt)
or_no false b f g = is_false b g

pub or_cases : {X : Type 0} (a b : Bool) → (T a → X) → (T b → X) → T (a || b) → X
or_cases true b f g t = f t
or_cases false b f g t = g t

pub and_no : {X : Type 0} (a b : Bool) → a && b ≡ false → (a ≡ false → X) → (b ≡ false → X) → X
and_no true b e f g = g e
and_no false b e f g = f refl

pub not-either : (b n : Bool) → not b || n ≡ false → (b ≡ true) × (n ≡ false)
not-either true n e = (refl, e)
not-either false n e = clash cc

pub not-or-true : (b n : Bool) → not b || n ≡ true → b ≡ true → n ≡ true
not-or-true true n e z = e
not-or-true false n e z = clash cc

pub either_way : {X : Type 0} (b c : Bool) → c ≡ b → (c ≡ true → X) → (c ≡ false → X) → X
either_way true c e f g = f e
either_way false c e f g = g e

-- either number is the smaller
pub order : {X : Type 0} (a b : ℕ) → (a < b → X) → (b ≤ a → X) → X
order {X = X} a b f g = side (ltb a b) refl
  where
    side : (c : Bool) → ltb a b ≡ c → X
    side true e = f (omega (arith, ltb-true))
    side false e = g (omega (arith, ltb-false))
