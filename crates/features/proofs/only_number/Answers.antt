-- `only_number` is right: for each of the seventeen names it finds the number, computed.
use Rattle.std.proofs.Common.{refl}
use Rattle.features.specs.Computing.{computing}
use Rattle.features.proofs.Numbers.{short_right, long_right, short-only, long-only}
use Rattle.features.proofs.only_number.Goals as goal

pub returns-then-len-le8 : goal.returns-then-len-le8
unfolding computing short_right long_right
returns-then-len-le8 c = short-only _ _ _ refl c.if-len-le8.true

pub returns-else-len-le8 : goal.returns-else-len-le8
unfolding computing short_right long_right
returns-else-len-le8 c = long-only _ _ _ refl c.if-len-le8.false
