-- `mark` is right: the comparisons are the definition's, in its order.
use Rattle.replay_lines.specs.Format.{mark_of}
use Rattle.replay_lines.proofs.Choices.{picks}
use Rattle.replay_lines.proofs.mark.Goals as goal

pub returns-then-same : goal.returns-then-same
unfolding mark_of
returns-then-same c = search picks depth 12

pub returns-then-same-2 : goal.returns-then-same-2
unfolding mark_of
returns-then-same-2 c = search picks depth 12

pub returns-else-same-2 : goal.returns-else-same-2
unfolding mark_of
returns-else-same-2 c = search picks depth 12
