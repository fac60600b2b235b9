-- `entries` is right: at each piece the entries found so far and the pieces that are left give the entries of the whole text.
use Rattle.std.proofs.Common.{◌≡◌, ◌+◌, ◌-◌, ◌≤◌, length}
use Rattle.features.specs.Features.{feature_count}
use Rattle.pieces.proofs.Finding.{Left}
use Rattle.pieces.proofs.entries.Given as goal

abbrev pub invariant-loop-from : goal.invariant-loop-from
invariant-loop-from g l = (l.from ≤ length l.s + 1) × (length l.found ≡ feature_count) × Left (g.K.Class.holds l.ends) l.s l.from l.found

abbrev pub decreases-loop-from : goal.decreases-loop-from
decreases-loop-from g l = length l.s + 1 - l.from
