use Rattle.std.proofs.Common.{rules, refl}
use Rattle.settling.proofs.Writes.{low-start, low-more, low-all}
use Rattle.settling.proofs.put_lowered.Goals as goal

pub loop-j-init : goal.loop-j-init
loop-j-init c = (refl, search low-start)

pub loop-j-preserved : goal.loop-j-preserved
loop-j-preserved c = (search rules, search low-more)

pub returns : goal.returns
returns c = search low-all
