-- Numbers in decimal: read digit by digit up to a limit, and without a leading zero. Assumes nothing.
use mathlib.Core.Path.{◌≡◌, refl, ◌∙◌, sym}
use Prim.Native.Nat.{ℕ, ◌<◌}
use mathlib.Core.List.{List}
use mathlib.Core.Bool.{Bool, true, false, not, ◌&&◌}
use Rattle.std.specs.Prelude.{Some, None}
use native.Mathlib.Omega.{arith}
use lib.ListN.{length}
use lib.Dec.{leb}
use borrow.Author.Tests.{leb-true}
use Rattle.ascii.proofs.Clash.{clash}
use Rattle.ascii.specs.Bytes.{pick, is_digit}
use Rattle.ascii.specs.Reading.{is_empty}
use Rattle.ascii.specs.Texts.{every}
use Rattle.ascii.specs.Decimals.{decimal, decimal_upto, leads_zero}
use Rattle.origins.proofs.Laws.{long-number}
use Rattle.replay_lines.specs.Format.{last_number, is_number, number_of}

-- a number has no leading zero
module _ (u : List ℕ) (z : Bool) (is : z ≡ leads_zero u) where
  pub number-zero : z ≡ true → None ≡ number_of u
  unfolding number_of is_number
  number-zero e = go (not (is_empty u) && every is_digit u) (leads_zero u) (sym is ∙ e)
    where
      go : (a b : Bool) → b ≡ true → None ≡ pick (a && not b && leb (decimal u) last_number) (Some (decimal u)) None
      go a false f = clash cc
      go true true f = unfold pick in refl
      go false true f = unfold pick in refl

  pub number-upto : z ≡ false → decimal_upto last_number u ≡ number_of u
  unfolding decimal_upto number_of is_number
  number-upto e = go (not (is_empty u) && every is_digit u) (leads_zero u) (sym is ∙ e)
    where
      go : (a b : Bool) → b ≡ false → pick (a && leb (decimal u) last_number) (Some (decimal u)) None ≡ pick (a && not b && leb (decimal u) last_number) (Some (decimal u)) None
      go a true f = clash cc
      go true false f = refl
      go false false f = refl

-- a text of more than ten bytes is no number
pub number-long : (u : List ℕ) → 10 < length u → number_of u ≡ None
unfolding number_of is_number
number-long u h = go (not (is_empty u)) (every is_digit u) (leads_zero u) (leb (decimal u) last_number) refl refl refl
  where
    go : (a b c d : Bool) → every is_digit u ≡ b → leads_zero u ≡ c → leb (decimal u) last_number ≡ d → pick (a && b && not c && d) (Some (decimal u)) None ≡ None
    go true true false true e f g =
        absurd (omega (arith, long-number 10 u (omega arith) h f e, leb-true (decimal u) last_number g))
    go true true false false e f g = unfold pick in refl
    go true true true d e f g = unfold pick in refl
    go true false c d e f g = unfold pick in refl
    go false b c d e f g = unfold pick in refl
