-- `attributes_at` is right: the fields are read in order, and one that cannot be read makes the attributes so.
use Rattle.replay_lines.specs.Format.{attributes_at}
use Rattle.replay_lines.proofs.Choices.{givens}
use Rattle.replay_lines.proofs.attributes_at.Goals as goal

pub returns-in_err-allow : goal.returns-in_err-allow
unfolding attributes_at
returns-in_err-allow c = rw c.from_residual-in_err-allow.ensures (search (givens, c.in_ok-src.was, c.in_ok-fullscreen.was, c.in_err-allow.was) depth 12 fits 20000)

pub returns-in_err-sandbox : goal.returns-in_err-sandbox
unfolding attributes_at
returns-in_err-sandbox c = rw c.from_residual-in_err-sandbox.ensures (search (givens, c.in_ok-src.was, c.in_ok-fullscreen.was, c.in_ok-allow.was, c.in_err-sandbox.was) depth 12 fits 20000)

pub returns : goal.returns
unfolding attributes_at
returns c = search (givens, c.in_ok-src.was, c.in_ok-fullscreen.was, c.in_ok-allow.was, c.in_ok-sandbox.was) depth 12 fits 20000
