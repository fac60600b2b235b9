use Rattle.std.proofs.Common.{ℕ, ◌<◌, ◌^◌, get_or, arith, rules}
use Rattle.replay_answers.proofs.Answering.{serials-none, serials-more, serials-all}
use Rattle.replay_answers.proofs.put_serials.Goals as goal

pub loop-serial-init : goal.loop-serial-init
loop-serial-init c = (search rules, search serials-none)

pub loop-serial-preserved : goal.loop-serial-preserved
loop-serial-preserved c = (search rules, serials-more _ _ _ _ _ _ _ _ c.loop-serial-test.true c.loop-serial.invariant.1 (rw c.from.ensures at c.put_numbered-o-in-loop-serial.ensures))

pub returns : goal.returns
returns c = let each : (j : ℕ) → get_or c.args.serials.now j 0 < 2 ^ 64 = λ j. omega (arith, c.type_inv.serials j) in search serials-all
