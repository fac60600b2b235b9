-- `is_literal` is right: it is the definition's test.
use Rattle.replay_lines.proofs.is_literal.Goals as goal

pub returns : goal.returns
returns c = rw c.is_whole.ensures
