use Rattle.std.proofs.Common.{◌<◌, ◌≤◌, arith, refl}
use Rattle.document_table.proofs.Sweeping.{sweep, sweep-goes, sweep-stays, is_removed}
use Rattle.document_table.proofs.remove.Goals as goal
use Rattle.document_table.proofs.remove.Goals.{then-not-goes, else-not-goes}

pub loop-i-init : goal.loop-i-init
loop-i-init c = (c.number-n.ensures, sweep _ _ c.requires)

pub loop-i-preserved : goal.loop-i-preserved
loop-i-preserved c =
    let lt : c.loop-i.i < c.number-n.result = omega arith in (
      c.loop-i.invariant.0,
      elim c.if-not-goes.branch [
        | then-not-goes w ↦ rw (w.run-is, w.k-is) (sweep-stays _ _ _ _ _ _ c.loop-i.invariant.0 lt _ c.goes.ensures c.loop-i.invariant.1 _ w.if-not-goes.true w.move_entry.ensures)
        | else-not-goes w ↦ rw (w.run-is, w.k-is) (sweep-goes _ _ _ _ _ _ c.loop-i.invariant.0 lt _ c.goes.ensures c.loop-i.invariant.1 w.if-not-goes.false)
      ],
    )

pub returns : goal.returns
returns c =
    let low : c.loop-i.i ≤ c.number-n.result = omega arith in
    let high : c.number-n.result ≤ c.loop-i.i = omega arith in
    is_removed _ _ _ _ _ _ _ _ c.loop-i.invariant.0 low high refl c.loop-i.invariant.1 c.put_number.ensures
