-- `remove` is right: what stays of the first i entries has moved to the first k places, and the rest is as it was.
use Rattle.std.proofs.Common.{◌≡◌}
use Rattle.document_table.specs.Layout.{count_in}
use Rattle.document_table.proofs.Sweeping.{Sweeping}
use Rattle.document_table.proofs.remove.Given as goal

abbrev pub invariant-loop-i : goal.invariant-loop-i
invariant-loop-i l = (l.n ≡ count_in l.initial.run) × Sweeping l.initial.run l.run l.serial l.i l.k
