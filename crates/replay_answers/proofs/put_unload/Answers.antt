-- `put_unload` is right: each arm puts the text of its case.
use Rattle.replay_answers.proofs.Answering.{unloads}
use Rattle.replay_answers.proofs.put_unload.Goals as goal

pub returns-in-Err : goal.returns-in-Err
returns-in-Err c = search unloads

pub returns-in-Ok : goal.returns-in-Ok
returns-in-Ok c = search unloads
