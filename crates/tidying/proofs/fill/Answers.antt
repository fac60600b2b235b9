use Rattle.tidying.proofs.Members.{filling-start, filling-on, filling-end}
use Rattle.tidying.proofs.fill.Goals as goal

pub loop-n-init : goal.loop-n-init
loop-n-init c = search filling-start

pub loop-n-preserved : goal.loop-n-preserved
loop-n-preserved c = search filling-on

pub returns : goal.returns
returns c = search filling-end
