-- `ask_line` is right: the fields are counted and read in the row's order.
use Rattle.replay_lines.specs.Format.{ask_row}
use Rattle.replay_lines.proofs.Choices.{rows}
use Rattle.replay_lines.proofs.ask_line.Goals as goal

pub returns-in_err-feature : goal.returns-in_err-feature
unfolding ask_row
returns-in_err-feature c = rw c.from_residual-in_err-feature.ensures (search (rows, c.in_ok-serial.was, c.in_err-feature.was) depth 12 fits 20000)

pub returns-in_err-origin : goal.returns-in_err-origin
unfolding ask_row
returns-in_err-origin c = rw c.from_residual-in_err-origin.ensures (search (rows, c.in_ok-serial.was, c.in_ok-feature.was, c.in_err-origin.was) depth 12 fits 20000)

pub returns : goal.returns
unfolding ask_row
returns c = search (rows, c.in_ok-serial.was, c.in_ok-feature.was, c.in_ok-origin.was) depth 12 fits 20000
