-- `ask_line` is right: the question is of the line's text, and its answer is put.
use Rattle.replay_session.proofs.Answering.{asked-line}
use Rattle.replay_session.proofs.ask_line.Goals as goal

pub returns : goal.returns
returns c = search asked-line
