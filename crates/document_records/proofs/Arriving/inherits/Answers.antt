-- `inherits` is right: its parts are those of the definition.
use Rattle.document_records.proofs.Inheriting.{inherits-is}
use Rattle.document_records.proofs.Arriving.inherits.Goals as goal

pub returns : goal.returns
returns c = search inherits-is
