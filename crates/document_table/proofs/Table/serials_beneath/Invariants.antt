-- `serials_beneath` is right: the serials of the first i documents that are beneath are listed.
use Rattle.std.proofs.Common.{◌≡◌}
use Rattle.document_table.specs.Layout.{count_in}
use Rattle.document_table.proofs.Sweeping.{Listing}
use Rattle.document_table.proofs.Table.serials_beneath.Given as goal

abbrev pub invariant-loop-i : goal.invariant-loop-i
invariant-loop-i l = (l.n ≡ count_in l.self.run.now) × Listing l.self.run.now l.serial l.list l.i l.k
