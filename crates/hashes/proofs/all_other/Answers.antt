use Rattle.std.proofs.Common.{refl}
use Rattle.hashes.proofs.Steps.{other-on, other-end}
use Rattle.hashes.proofs.all_other.Goals as goal

pub loop-n-init : goal.loop-n-init
loop-n-init c = refl

pub loop-n-preserved : goal.loop-n-preserved
loop-n-preserved c = search other-on

pub returns : goal.returns
returns c = search other-end
