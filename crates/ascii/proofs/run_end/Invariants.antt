-- `run_end` is right: at each place what is left past the run is what was left past it from the start.
use Rattle.std.proofs.Common.{◌≡◌, ◌≤◌, min, length, drop}
use Rattle.ascii.specs.Reading.{past}
use Rattle.ascii.proofs.run_end.Given as goal

abbrev pub invariant-loop-i : goal.invariant-loop-i
invariant-loop-i g l = (min l.at (length l.s) ≤ l.i) × (l.i ≤ length l.s) × (past (g.K.Class.holds l.class) (drop l.i l.s) ≡ past (g.K.Class.holds l.class) (drop l.at l.s))
