-- `forecast_line` is right: the fields are counted and read in the row's order.
use Rattle.replay_lines.specs.Format.{forecast_row}
use Rattle.replay_lines.proofs.Choices.{rows}
use Rattle.replay_lines.proofs.forecast_line.Goals as goal

pub returns-in_err-attributes : goal.returns-in_err-attributes
unfolding forecast_row
returns-in_err-attributes c = rw c.from_residual-in_err-attributes.ensures (search (rows, c.in_ok-container.was, c.in_err-attributes.was) depth 12 fits 20000)

pub returns : goal.returns
unfolding forecast_row
returns c = search (rows, c.in_ok-container.was, c.in_ok-attributes.was) depth 12 fits 20000
