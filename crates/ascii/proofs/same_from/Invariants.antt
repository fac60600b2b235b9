-- `same_from` is right: at each place the comparison of what is left is the comparison of the whole.
use Rattle.std.proofs.Common.{◌≡◌, ◌≤◌, ◌-◌, length, drop}
use Rattle.ascii.specs.Texts.{same_bytes}
use Rattle.ascii.proofs.same_from.Given as goal

abbrev pub invariant-loop-i : goal.invariant-loop-i
invariant-loop-i l = (l.i ≤ length l.a) × (same_bytes (drop l.i l.a) (drop l.i l.b) ≡ same_bytes (drop l.at l.a) (drop l.at l.b))

abbrev pub decreases-loop-i : goal.decreases-loop-i
decreases-loop-i l = length l.a - l.i
