-- `unload_line` is right: the unload's answer is put.
use Rattle.replay_session.proofs.Answering.{makes-unload}
use Rattle.replay_session.proofs.unload_line.Goals as goal

pub returns : goal.returns
returns c = search makes-unload
