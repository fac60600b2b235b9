-- `all_other` is right: those so far are others, and those that are left, exactly if all are.
use Rattle.std.proofs.Common.{◌≡◌, ◌&&◌, drop}
use Rattle.ascii.specs.Texts.{every}
use Rattle.hashes.specs.Hashes.{is_other}
use Rattle.hashes.proofs.all_other.Given as goal

abbrev pub invariant-loop-n : goal.invariant-loop-n
invariant-loop-n l = l.other && every (is_other l.x) (drop l.n-index l.numbers) ≡ every (is_other l.x) l.numbers
