-- `question` is right: its parts are those of the definition.
use Rattle.document_records.proofs.Deciding.{question-is}
use Rattle.document_records.proofs.Asked.question.Goals as goal

pub returns : goal.returns
returns c = search question-is
