-- `normal_port` is right: each arm is a clause of the definition.
use Rattle.origins.proofs.NormalForms.{normal-dropped, normal-kept, normal-other}
use Rattle.origins.proofs.normal_port.Goals as goal

pub returns-then-is_dropped : goal.returns-then-is_dropped
returns-then-is_dropped c = search normal-dropped

pub returns-else-is_dropped : goal.returns-else-is_dropped
returns-else-is_dropped c = search normal-kept

pub returns-in_default : goal.returns-in_default
returns-in_default c = search (normal-other, c.in_default.not-Number)
