-- `put_load` is right: each arm puts the text of its case.
use Rattle.replay_answers.proofs.Answering.{loads, load-good, load-malformed}
use Rattle.replay_answers.proofs.put_load.Goals as goal

pub returns-then-d : goal.returns-then-d
returns-then-d c = load-malformed _ _ _ _ _ _ _ _ c.in-Ok.is (rw c.from.ensures at c.put_numbered-o.ensures) c.if-d.true c.put.ensures

pub returns-in-Err : goal.returns-in-Err
returns-in-Err c = search loads

pub returns-else-d : goal.returns-else-d
returns-else-d c = load-good _ _ c.args.run.now _ _ 0 _ _ c.in-Ok.is (rw c.from.ensures at c.put_numbered-o.ensures) c.if-d.false
