use Rattle.std.proofs.Common.{refl, rules}
use Rattle.containers.proofs.Steps.{none-stored, one-stored, policies-are}
use Rattle.containers.proofs.container_policies.Goals as goal

pub loop-i-init : goal.loop-i-init
loop-i-init c = (refl, none-stored _ _ _ _)

pub loop-i-preserved : goal.loop-i-preserved
loop-i-preserved c = (search rules, search one-stored)

pub returns : goal.returns
returns c = search policies-are
