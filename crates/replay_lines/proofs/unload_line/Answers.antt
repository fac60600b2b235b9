-- `unload_line` is right: the fields are counted and read in the row's order.
use Rattle.replay_lines.specs.Format.{unload_row}
use Rattle.replay_lines.proofs.Choices.{rows}
use Rattle.replay_lines.proofs.unload_line.Goals as goal

pub returns : goal.returns
unfolding unload_row
returns c = search (rows, c.in_ok-serial.was) depth 12 fits 20000
