-- `value` is right: its parts are those of the definition.
use Rattle.document_records.proofs.Deciding.{value-is}
use Rattle.document_records.proofs.Asked.value.Goals as goal

pub returns : goal.returns
returns c = search value-is
