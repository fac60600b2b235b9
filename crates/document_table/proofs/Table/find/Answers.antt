-- `find` is right: after six halvings one place is left.
use Rattle.document_table.proofs.Halvings.{place_found, place_none}
use Rattle.document_table.proofs.Table.find.Goals as goal

pub returns-then-i-n : goal.returns-then-i-n
returns-then-i-n c = search place_found

pub returns-else-i-n : goal.returns-else-i-n
returns-else-i-n c = search place_none
