-- `halved` is right: the test is that of the definition.
use Rattle.std.proofs.Common.{rules}
use Rattle.document_table.proofs.Halvings.{halved-up, halved-stay}
use Rattle.document_table.proofs.Table.halved.Goals as goal

pub returns-then-mid-n : goal.returns-then-mid-n
returns-then-mid-n c = (search halved-up, search rules)

pub returns-else-mid-n : goal.returns-else-mid-n
returns-else-mid-n c = (search halved-stay, search rules)
