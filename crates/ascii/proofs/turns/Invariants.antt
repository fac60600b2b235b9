-- At each place the turns that are left read what the turns from the start read.
use Rattle.std.proofs.Common.{◌≤◌, ◌-◌, ◌^◌, length, drop}
use Rattle.ascii.specs.Reading.{turns_of}
use Rattle.ascii.specs.Places.{rest_of}
use Rattle.ascii.proofs.Looping.{Left}
use Rattle.ascii.proofs.turns.Given as goal

abbrev pub invariant-loop-q : goal.invariant-loop-q
invariant-loop-q g l = (l.initial.i ≤ l.i) × (l.i ≤ length l.s) × Left g.P.Repeated.turn_of l.s l.i (rest_of (turns_of g.P.Repeated.turn_of (drop l.at l.s)))

abbrev pub decreases-loop-q : goal.decreases-loop-q
decreases-loop-q g l = 2 ^ 64 - l.i
