-- `frame_line` is right: the fields are counted and read in the row's order.
use Rattle.replay_lines.specs.Format.{frame_row}
use Rattle.replay_lines.proofs.Choices.{rows}
use Rattle.replay_lines.proofs.frame_line.Goals as goal

pub returns-in_err-origin : goal.returns-in_err-origin
unfolding frame_row
returns-in_err-origin c = rw c.from_residual-in_err-origin.ensures (search (rows, c.in_ok-container.was, c.in_err-origin.was) depth 12 fits 20000)

pub returns-in_err-attributes : goal.returns-in_err-attributes
unfolding frame_row
returns-in_err-attributes c = rw c.from_residual-in_err-attributes.ensures (search (rows, c.in_ok-container.was, c.in_ok-origin.was, c.in_err-attributes.was) depth 12 fits 20000)

pub returns-in_err-header : goal.returns-in_err-header
unfolding frame_row
returns-in_err-header c = rw c.from_residual-in_err-header.ensures (search (rows, c.in_ok-container.was, c.in_ok-origin.was, c.in_ok-attributes.was, c.in_err-header.was) depth 12 fits 20000)

pub returns : goal.returns
unfolding frame_row
returns c = search (rows, c.in_ok-container.was, c.in_ok-origin.was, c.in_ok-attributes.was, c.in_ok-header.was) depth 12 fits 20000
