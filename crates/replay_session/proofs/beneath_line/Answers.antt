-- `beneath_line` is right: no listing needs more places than there are documents.
use Rattle.replay_session.proofs.Answering.{beneath-is}
use Rattle.replay_session.proofs.beneath_line.Goals as goal

pub returns : goal.returns
returns c = search (beneath-is, c.min-n.ensures)
