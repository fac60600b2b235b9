-- `list_into` is right: the listing's answer is put with the lent run.
use Rattle.replay_session.proofs.Answering.{listed_is}
use Rattle.replay_session.proofs.list_into.Goals as goal

pub returns : goal.returns
returns c = search listed_is
