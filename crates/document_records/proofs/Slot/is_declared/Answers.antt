-- `is_declared` is right: each arm is a case of what the declared origin names.
use Rattle.document_records.proofs.Deciding.{fresh-declared}
use Rattle.document_records.proofs.Slot.is_declared.Goals as goal

pub returns-in-Fresh : goal.returns-in-Fresh
returns-in-Fresh c = search fresh-declared
