-- `parts_of` is right: each part is read from its bits.
use Rattle.settled.proofs.Reading.{parts_are}
use Rattle.settled.proofs.parts_of.Goals as goal

pub returns : goal.returns
returns c = search parts_are
