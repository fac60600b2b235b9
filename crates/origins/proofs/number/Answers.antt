-- `number` is right: a port has at most five digits, and is their number if that is a port's.
use Rattle.std.proofs.Common.{◌∙◌}
use Rattle.origins.proofs.Numbers.{number-long, number-upto}
use Rattle.origins.proofs.number.Goals as goal

pub returns-then-d-gt-PORT_DIGITS : goal.returns-then-d-gt-PORT_DIGITS
returns-then-d-gt-PORT_DIGITS c = number-long _ c.if-d-gt-PORT_DIGITS.true

pub returns : goal.returns
returns c = c.decimal.ensures ∙ number-upto _ c.if-d-gt-PORT_DIGITS.false
