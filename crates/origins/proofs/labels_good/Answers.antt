use Rattle.std.proofs.Common.{sym}
use Rattle.origins.proofs.Hosts.{scan-labels, scan-end, scan-empty, scan-dot, scan-other, scan-byte}
use Rattle.origins.proofs.labels_good.Goals as goal
use Rattle.origins.proofs.labels_good.Goals.{then-b-eq46+else-starts, else-b-eq46+else-not-is_label_byte}

pub loop-c-init : goal.loop-c-init
loop-c-init c = sym (scan-labels _)

pub returns-then-starts : goal.returns-then-starts
returns-then-starts c = scan-empty _ _ _ _ _ _ c.lower-b.ensures c.loop-c-test.true c.loop-c.invariant c.if-b-eq46.true c.if-starts.true

pub returns-then-not-is_label_byte : goal.returns-then-not-is_label_byte
returns-then-not-is_label_byte c = scan-other _ _ _ _ _ _ c.lower-b.ensures c.loop-c-test.true c.loop-c.invariant c.if-b-eq46.false _ c.is_label_byte.ensures c.if-not-is_label_byte.true

pub loop-c-preserved : goal.loop-c-preserved
loop-c-preserved c =
    elim c.if-b-eq46.branch [
      | then-b-eq46+else-starts w ↦ rw w.starts-is (scan-dot _ _ _ _ _ _ c.lower-b.ensures c.loop-c-test.true c.loop-c.invariant w.if-b-eq46.true w.if-starts.false)
      | else-b-eq46+else-not-is_label_byte w ↦ rw w.starts-is (scan-byte _ _ _ _ _ _ c.lower-b.ensures c.loop-c-test.true c.loop-c.invariant w.if-b-eq46.false _ w.is_label_byte.ensures w.if-not-is_label_byte.false)
    ]

pub returns : goal.returns
returns c = scan-end _ _ _ _ _ c.loop-c-test.false c.loop-c.invariant
