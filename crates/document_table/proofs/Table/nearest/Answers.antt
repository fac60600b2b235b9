use Rattle.std.proofs.Common.{◌≤◌, arith}
use Rattle.document_table.proofs.Halvings.{near-start, near_on, near-end}
use Rattle.document_table.proofs.Table.nearest.Goals as goal

pub loop-width-init : goal.loop-width-init
loop-width-init c = (omega arith, omega arith, near-start _ _ _ _ (omega (arith, c.requires.1, c.args.self.now.sound.count)))

pub halved-at-requires : goal.halved-at-requires
halved-at-requires c = omega (arith, c.loop-width.invariant.1)

pub overflow_sub-width : goal.overflow_sub-width
overflow_sub-width c = omega arith

pub loop-width-smaller : goal.loop-width-smaller
loop-width-smaller c = omega arith

pub loop-width-preserved : goal.loop-width-preserved
loop-width-preserved c = let h = c.loop-width in (omega arith, omega (arith, h.invariant.1, c.halved-at.ensures.1), near_on _ _ _ c.requires.0 c.requires.1 _ _ _ (omega arith) h.invariant.2 c.halved-at.ensures.0)

pub returns : goal.returns
returns c = let h = c.loop-width in let low : h.width ≤ 1 = omega arith in (near-end _ _ _ c.requires.0 c.requires.1 _ _ h.invariant.0 low h.invariant.2, omega (arith, h.invariant.0, h.invariant.1))
