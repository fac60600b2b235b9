use Rattle.std.proofs.Common.{◌<◌, ◌≤◌, arith}
use Rattle.limits.specs.Limits.{document_limit}
use Rattle.document_table.proofs.Sweeping.{list-none, list-more, list_same, are-serials}
use Rattle.document_table.proofs.Table.serials_beneath.Goals as goal
use Rattle.document_table.proofs.Table.serials_beneath.Goals.{then-is_beneath, else-is_beneath}

pub loop-i-init : goal.loop-i-init
loop-i-init c = (c.count-n.ensures, list-none _ _)

pub loop-i-preserved : goal.loop-i-preserved
loop-i-preserved c =
    let lt : c.loop-i.k < document_limit = omega (arith, c.loop-i.invariant.0, c.loop-i.invariant.1.within, c.args.self.now.sound.count) in (
      c.loop-i.invariant.0,
      elim c.if-is_beneath.branch [
        | then-is_beneath w ↦ rw (w.list-is, w.k-is) (list-more _ _ _ _ _ c.loop-i.invariant.1 _ _ _ c.slot.ensures c.is_beneath.ensures w.if-is_beneath.true w.serial_at.ensures lt)
        | else-is_beneath w ↦ rw (w.list-is, w.k-is) (list_same _ _ _ _ _ c.loop-i.invariant.1 _ _ c.slot.ensures c.is_beneath.ensures w.if-is_beneath.false)
      ],
    )

pub returns : goal.returns
returns c =
    let low : c.loop-i.i ≤ c.count-n.result = omega arith in
    let high : c.count-n.result ≤ c.loop-i.i = omega arith in
    are-serials _ _ _ _ _ c.loop-i.invariant.1 _ c.loop-i.invariant.0 low high c.args.self.now.sound.count
