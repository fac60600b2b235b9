-- `declared` is right: the settled bytes are asked.
use Rattle.document_records.proofs.Deciding.{declared-answers}
use Rattle.document_records.proofs.Asked.declared.Goals as goal

pub returns : goal.returns
returns c = search declared-answers
