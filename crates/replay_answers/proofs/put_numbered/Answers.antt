-- `put_numbered` is right: one text after another.
use Rattle.replay_answers.proofs.Answering.{numbers}
use Rattle.replay_answers.proofs.put_numbered.Goals as goal

pub returns : goal.returns
returns c = search numbers
