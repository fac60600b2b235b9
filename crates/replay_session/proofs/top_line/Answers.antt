-- `top_line` is right: a load with the line's texts.
use Rattle.replay_session.proofs.Answering.{makes-top}
use Rattle.replay_session.proofs.top_line.Goals as goal

pub returns : goal.returns
returns c = search makes-top
