-- `enabled_line` is right: the fields are counted and read in the row's order.
use Rattle.replay_lines.specs.Format.{enabled_row}
use Rattle.replay_lines.proofs.Choices.{rows}
use Rattle.replay_lines.proofs.enabled_line.Goals as goal

pub returns : goal.returns
unfolding enabled_row
returns c = search (rows, c.in_ok-serial.was) depth 12 fits 20000
