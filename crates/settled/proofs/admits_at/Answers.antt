-- `admits_at` is right: what stands from a place on is a document of its own.
use Rattle.settled.proofs.Reading.{at_place}
use Rattle.settled.proofs.admits_at.Goals as goal

pub returns : goal.returns
returns c = search at_place
