use Rattle.std.proofs.Common.{arith}
use Rattle.ascii.proofs.Compares.{lengths_differ, four-hit, four-miss, from_all}
use Rattle.ascii.proofs.same.Goals as goal

pub returns-then-n-b : goal.returns-then-n-b
returns-then-n-b c = search lengths_differ

pub returns-then-not-four_same : goal.returns-then-not-four_same
returns-then-not-four_same c = search four-miss

pub loop-i-preserved : goal.loop-i-preserved
loop-i-preserved c = (omega arith, search four-hit)

pub returns : goal.returns
returns c = search from_all
