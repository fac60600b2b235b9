-- `replay` is right: between two pieces the session is ready for the next.
use Rattle.replaying.specs.Sessions.{Ready}
use Rattle.replaying.proofs.replay.Given as goal

abbrev pub invariant-loop : goal.invariant-loop
invariant-loop g l = Ready l.table l.s.waiting
