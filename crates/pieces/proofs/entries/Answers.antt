use Rattle.std.proofs.Common.{refl, arith, rules}
use lib.ListN.{get_or-replicate}
use Rattle.pieces.proofs.Finding.{left-start, left-unknown, left-for, left_end}
use Rattle.pieces.proofs.Laws.{entries-are}
use Rattle.pieces.proofs.entries.Goals.{in-Some, in_default}
use Rattle.pieces.proofs.entries.Goals as goal

pub loop-from-init : goal.loop-from-init
loop-from-init g c = (omega arith, refl, left-start _ _ _ (λ n h. get_or-replicate _ n _ _ h))

pub loop-from-preserved : goal.loop-from-preserved
loop-from-preserved g c = elim c.match-piece_at.branch [
  | in-Some w ↦ (omega arith, rw w.found-is (search rules), rw w.found-is (search left-for))
  | in_default w ↦ (omega arith, rw w.found-is (search rules), rw w.found-is (search left-unknown))
]

pub returns : goal.returns
returns g c = search (left_end, entries-are)
