-- `tidy_line` is right: the fields are counted and read in the row's order.
use Rattle.replay_lines.specs.Format.{tidy_row}
use Rattle.replay_lines.proofs.Choices.{rows}
use Rattle.replay_lines.proofs.tidy_line.Goals as goal

pub returns-in_err-header : goal.returns-in_err-header
unfolding tidy_row
returns-in_err-header c = rw c.from_residual-in_err-header.ensures (search (rows, c.in_ok-room.was, c.in_err-header.was) depth 12 fits 20000)

pub returns : goal.returns
unfolding tidy_row
returns c = search (rows, c.in_ok-room.was, c.in_ok-header.was) depth 12 fits 20000
