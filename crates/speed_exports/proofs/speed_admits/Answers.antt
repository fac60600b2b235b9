-- `speed_admits` is right: the number says the origin, and the bytes whether it is admitted.
use Rattle.speed_exports.proofs.Codes.{admits-code}
use Rattle.speed_exports.proofs.speed_admits.Goals as goal

pub returns : goal.returns
returns c = search admits-code
