-- `put_tidied` is right: a run that isn't longer than the form is put whole, and of a longer one its front.
use Rattle.std.proofs.Common.{arith, length-take}
use Rattle.replay_answers.proofs.Answering.{tidies}
use Rattle.replay_answers.proofs.put_tidied.Goals as goal

pub returns-then-tidied-n : goal.returns-then-tidied-n
returns-then-tidied-n c = search tidies

pub slice_bounds-put-end-in-Ok : goal.slice_bounds-put-end-in-Ok
slice_bounds-put-end-in-Ok c = simp length-take (omega arith)

pub returns-in-Err : goal.returns-in-Err
returns-in-Err c = search tidies

pub returns-else-tidied-n : goal.returns-else-tidied-n
returns-else-tidied-n c = search tidies
