-- `goes` is right: the serial is compared, and those above it are.
use Rattle.document_table.proofs.Laws.{goes-is}
use Rattle.document_table.proofs.goes.Goals as goal

pub returns : goal.returns
returns c = search goes-is
