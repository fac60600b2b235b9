use Rattle.std.proofs.Common.{arith}
use Rattle.ascii.proofs.Compares.{from_end, from_more, from-miss}
use Rattle.ascii.proofs.same_from.Goals as goal

pub returns-then-a-i : goal.returns-then-a-i
returns-then-a-i c = search from-miss

pub loop-i-preserved : goal.loop-i-preserved
loop-i-preserved c = (omega arith, search from_more)

pub returns : goal.returns
returns c = search from_end
