-- `settled_code` is right: each arm is a case of the definition.
use Rattle.speed_exports.proofs.Codes.{settled-malformed, settled-taken}
use Rattle.speed_exports.proofs.settled_code.Goals as goal

pub returns-then-f : goal.returns-then-f
returns-then-f c = search settled-malformed

pub returns-else-f : goal.returns-else-f
returns-else-f c = search settled-taken
