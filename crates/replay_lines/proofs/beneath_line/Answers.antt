-- `beneath_line` is right: the fields are counted and read in the row's order.
use Rattle.replay_lines.specs.Format.{beneath_row}
use Rattle.replay_lines.proofs.Choices.{rows}
use Rattle.replay_lines.proofs.beneath_line.Goals as goal

pub returns-in_err-room : goal.returns-in_err-room
unfolding beneath_row
returns-in_err-room c = rw c.from_residual-in_err-room.ensures (search (rows, c.in_ok-serial.was, c.in_err-room.was) depth 12 fits 20000)

pub returns : goal.returns
unfolding beneath_row
returns c = search (rows, c.in_ok-serial.was, c.in_ok-room.was) depth 12 fits 20000
