-- `take_piece` is right: each turn goes past at least a byte, and between two lines the table stays one that the calls left, with room for the next answer.
use Rattle.std.proofs.Common.{◌-◌, length}
use Rattle.replaying.specs.Sessions.{Ready}
use Rattle.replaying.proofs.take_piece.Given as goal

abbrev pub invariant-loop-from : goal.invariant-loop-from
invariant-loop-from g l = Ready l.run l.next.waiting

abbrev pub decreases-loop-from : goal.decreases-loop-from
decreases-loop-from g l = length l.piece - l.from
