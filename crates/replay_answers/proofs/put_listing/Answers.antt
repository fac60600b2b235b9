-- `put_listing` is right: a run that isn't longer than the count is put whole, and of a longer one its front.
use Rattle.std.proofs.Common.{arith, length-take}
use Rattle.replay_answers.proofs.Answering.{listings}
use Rattle.replay_answers.proofs.put_listing.Goals as goal

pub returns-then-serials-n : goal.returns-then-serials-n
returns-then-serials-n c = search listings

pub slice_bounds-put_serials-end : goal.slice_bounds-put_serials-end
slice_bounds-put_serials-end c = simp length-take (omega arith)

pub returns-in-Err : goal.returns-in-Err
returns-in-Err c = search listings

pub returns-else-serials-n : goal.returns-else-serials-n
returns-else-serials-n c = search listings
