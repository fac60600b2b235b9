-- `tidy_line` is right: no tidied form needs more bytes than the limit.
use Rattle.replay_session.proofs.Answering.{tidy-is}
use Rattle.replay_session.proofs.tidy_line.Goals as goal

pub returns : goal.returns
returns c = search (tidy-is, c.min-n.ensures)
