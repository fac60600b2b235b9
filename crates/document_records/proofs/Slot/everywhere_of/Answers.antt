-- `everywhere_of` is right: a fresh origin isn't the own one.
use Rattle.document_records.proofs.Deciding.{fresh-apart}
use Rattle.document_records.proofs.Slot.everywhere_of.Goals as goal

pub invariant_of-asked : goal.invariant_of-asked
invariant_of-asked c = search fresh-apart
