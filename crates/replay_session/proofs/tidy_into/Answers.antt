-- `tidy_into` is right: the tidied form's answer is put with the lent run.
use Rattle.replay_session.proofs.Answering.{tidied-is}
use Rattle.replay_session.proofs.tidy_into.Goals as goal

pub returns : goal.returns
returns c = search tidied-is
