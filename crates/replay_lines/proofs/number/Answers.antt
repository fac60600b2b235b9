-- `number` is right: without a leading zero it is the number that the digits say.
use Rattle.std.proofs.Common.{◌∙◌}
use Rattle.replay_lines.proofs.Numbers.{number-zero, number-upto}
use Rattle.replay_lines.proofs.number.Goals as goal

pub returns-then-leads_zero : goal.returns-then-leads_zero
returns-then-leads_zero c = search number-zero

pub returns : goal.returns
returns c = c.decimal.ensures ∙ search number-upto
