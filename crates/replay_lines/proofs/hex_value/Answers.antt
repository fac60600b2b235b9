-- `hex_value` is right: the tests are the definition's, and each range keeps the value below 16.
use Rattle.replay_lines.proofs.HexDigits.{digit-from, upper-from, lower-from, value-digit, value-upper, value-lower, value_none}
use Rattle.replay_lines.proofs.hex_value.Goals as goal

pub overflow_sub-result : goal.overflow_sub-result
overflow_sub-result c = search digit-from

pub returns-then-is_digit : goal.returns-then-is_digit
returns-then-is_digit c = value-digit _ _ c.is_digit.ensures c.if-is_digit.true

pub overflow_sub-result-then-high : goal.overflow_sub-result-then-high
overflow_sub-result-then-high c = search upper-from

pub returns-then-high : goal.returns-then-high
returns-then-high c = value-upper _ _ c.is_digit.ensures c.if-is_digit.false c.if-high.true

pub overflow_sub-result-then-low : goal.overflow_sub-result-then-low
overflow_sub-result-then-low c = search lower-from

pub returns-then-low : goal.returns-then-low
returns-then-low c = value-lower _ _ c.is_digit.ensures c.if-is_digit.false c.if-high.false c.if-low.true

pub returns-else-low : goal.returns-else-low
returns-else-low c = value_none _ _ c.is_digit.ensures c.if-is_digit.false c.if-high.false c.if-low.false
