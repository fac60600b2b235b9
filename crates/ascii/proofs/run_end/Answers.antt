use Rattle.std.proofs.Common.{arith}
use Rattle.ascii.proofs.Reading.{runs, run-stopped}
use Rattle.ascii.proofs.run_end.Goals as goal

pub loop-i-init : goal.loop-i-init
loop-i-init g c = search runs

pub loop-i-preserved : goal.loop-i-preserved
loop-i-preserved g c = search runs

pub returns-then-not-has : goal.returns-then-not-has
returns-then-not-has g c =
    record {
      is = run-stopped _ _ c.loop-i.i _ _ (omega arith) _ c.has.ensures c.if-not-has.true c.loop-i-test.true c.loop-i.invariant.2;
      from = omega (arith, c.loop-i.invariant.0);
      upto = omega (arith, c.loop-i-test.true);
    }

pub returns : goal.returns
returns g c = search runs
