-- `put_features` is right: each arm puts the text of its case.
use Rattle.replay_answers.proofs.Answering.{masks, features-says}
use Rattle.replay_answers.proofs.put_features.Goals as goal

pub returns-in-Err : goal.returns-in-Err
returns-in-Err c = search masks

pub returns-in-Ok : goal.returns-in-Ok
returns-in-Ok c = features-says _ _ _ _ _ _ c.in-Ok.is (rw c.from.ensures at c.put_numbered.ensures)
