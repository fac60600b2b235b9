-- `ended` is right: a host ends where no label was to start.
use Rattle.origins.proofs.HostEnds.{ended-is}
use Rattle.origins.proofs.ended.Goals as goal

pub returns : goal.returns
returns c = search ended-is
