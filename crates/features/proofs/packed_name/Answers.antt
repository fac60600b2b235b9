-- `packed_name` is right: the table's numbers are those of the seventeen names, computed, and a number over 16 has the empty name.
use Rattle.std.proofs.Common.{refl}
use Rattle.features.specs.Computing.{computing}
use Rattle.features.proofs.Numbers.{packed-at}
use Rattle.features.proofs.packed_name.Goals as goal

pub returns-then-n-lt-COUNT : goal.returns-then-n-lt-COUNT
unfolding computing
returns-then-n-lt-COUNT c = packed-at _ _ _ refl c.if-n-lt-COUNT.true
