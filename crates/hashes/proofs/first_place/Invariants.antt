-- `first_place` is right: what was passed and the place among those that are left is the place among all.
use Rattle.std.proofs.Common.{◌≡◌, ◌+◌, drop}
use Rattle.hashes.specs.Hashes.{first_place}
use Rattle.hashes.proofs.first_place.Given as goal

abbrev pub invariant-loop-i : goal.invariant-loop-i
invariant-loop-i l = l.i + first_place l.x (drop l.i l.numbers) ≡ first_place l.x l.numbers
