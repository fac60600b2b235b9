use Rattle.origins.proofs.HostEnds.{scan_begins, ends-all, ends-colon, label-empty, label-next, label-other, label-byte}
use Rattle.origins.proofs.host_end.Goals as goal
use Rattle.origins.proofs.host_end.Goals.{then-is_label_byte, else-is_label_byte+else-b-eq58+else-b-ne46+else-starts}
use Rattle.std.proofs.Common.{refl}

pub loop-i-init : goal.loop-i-init
loop-i-init c = search scan_begins

pub returns-then-b-eq58 : goal.returns-then-b-eq58
returns-then-b-eq58 c = search ends-colon

pub returns-then-b-ne46 : goal.returns-then-b-ne46
returns-then-b-ne46 c = search label-other

pub returns-then-starts : goal.returns-then-starts
returns-then-starts c = search label-empty

pub loop-i-preserved : goal.loop-i-preserved
loop-i-preserved c =
    elim c.if-is_label_byte.branch [
      | then-is_label_byte w ↦ rw w.starts-is (label-byte _ _ _ _ c.loop-i.invariant _ refl c.loop-i-test.true _ c.is_label_byte.ensures w.if-is_label_byte.true)
      | else-is_label_byte+else-b-eq58+else-b-ne46+else-starts w ↦ rw w.starts-is (label-next _ _ _ _ c.loop-i.invariant _ refl c.loop-i-test.true w.if-b-eq58.false w.if-b-ne46.false w.if-starts.false)
    ]

pub returns : goal.returns
returns c = search ends-all
