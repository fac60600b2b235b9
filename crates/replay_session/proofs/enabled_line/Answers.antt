-- `enabled_line` is right: the answer is put.
use Rattle.replay_session.proofs.Answering.{says_is}
use Rattle.replay_session.proofs.enabled_line.Goals as goal

pub returns : goal.returns
returns c = search says_is
