-- `enabled_of` is right: the own origin is asked about.
use Rattle.document_records.proofs.Deciding.{enabled-is}
use Rattle.document_records.proofs.Slot.enabled_of.Goals as goal

pub returns : goal.returns
returns c = search enabled-is
