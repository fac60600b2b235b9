-- `leads_zero` is right: with more than one digit it tests the first, as the definition does.
use Rattle.origins.proofs.Steps.{zero-many, zero-few}
use Rattle.origins.proofs.leads_zero.Goals as goal

pub returns-then-d-gt1 : goal.returns-then-d-gt1
returns-then-d-gt1 c = search zero-many

pub returns-else-d-gt1 : goal.returns-else-d-gt1
returns-else-d-gt1 c = search zero-few
