-- `asked_scheme` is right: each arm is a case of the definition.
use Rattle.speed_exports.proofs.Codes.{scheme-https, scheme-http}
use Rattle.speed_exports.proofs.asked_scheme.Goals as goal

pub returns-then-asked-eq1 : goal.returns-then-asked-eq1
returns-then-asked-eq1 c = search scheme-https

pub returns-else-asked-eq1 : goal.returns-else-asked-eq1
returns-else-asked-eq1 c = search scheme-http
