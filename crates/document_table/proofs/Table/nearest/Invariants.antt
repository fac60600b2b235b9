-- `nearest` is right: what is sought stands within the width, and that is halved.
use Rattle.std.proofs.Common.{◌+◌, ◌≤◌}
use Rattle.limits.specs.Limits.{document_limit}
use Rattle.document_table.specs.Tables.{Near}
use Rattle.document_table.proofs.Table.nearest.Given as goal

abbrev pub invariant-loop-width : goal.invariant-loop-width
invariant-loop-width l = (1 ≤ l.width) × (l.at + l.width ≤ document_limit) × Near l.self.run.now l.n l.serial l.at l.width

abbrev pub decreases-loop-width : goal.decreases-loop-width
decreases-loop-width l = l.width
