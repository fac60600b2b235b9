use Rattle.std.proofs.Common.{zero-add}
use Rattle.hashes.proofs.Steps.{place-hit, place-on, place_end, place_none}
use Rattle.hashes.proofs.first_place.Goals as goal

pub returns-then-all_other : goal.returns-then-all_other
returns-then-all_other c = search place_none

pub loop-i-init : goal.loop-i-init
loop-i-init c = search zero-add

pub returns-then-n-x : goal.returns-then-n-x
returns-then-n-x c = search place-hit

pub loop-i-preserved : goal.loop-i-preserved
loop-i-preserved c = search place-on

pub returns : goal.returns
returns c = search place_end
