use Rattle.std.proofs.Common.{refl}
use native.Mathlib.Omega.{arith}
use Rattle.decisions.specs.Masks.{mask_below}
use Rattle.decisions.proofs.Masks.{turn-enabled, turn-disabled, bit-set, bit-left}
use Rattle.decisions.proofs.mask_by.Goals as goal
use Rattle.decisions.proofs.mask_by.Goals.{in-Enabled, in-Disabled}

pub loop-n-init : goal.loop-n-init
unfolding mask_below
loop-n-init g c = (omega arith, λ p h. refl)

pub loop-n-preserved : goal.loop-n-preserved
loop-n-preserved g c =
    elim c.match-decide.branch [
      | in-Enabled w ↦ (bit-set _ _ _ c.loop-n.invariant.0 c.loop-n-test.true w.r-is, λ p h. turn-enabled p _ _ _ (c.loop-n.invariant.1 p h) c.loop-n-test.true (h _ _ c.loop-n-test.true w.in-Enabled.ensures) w.r-is)
      | in-Disabled w ↦ (bit-left _ _ _ c.loop-n.invariant.0 w.r-is, λ p h. turn-disabled p _ _ _ (c.loop-n.invariant.1 p h) (h _ _ c.loop-n-test.true w.in-Disabled.ensures) w.r-is)
    ]
