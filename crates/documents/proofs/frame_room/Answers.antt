-- `frame_room` is right: each return is a row of the definition, in its order.
use Rattle.std.proofs.lemmas.Result.{err_from_is_err_and}
use Rattle.documents.proofs.Answering.{valid-ascends, found_below}
use Rattle.documents.proofs.FramedLoads.{frame_closed, frame-barred, frame_refused, frame-placed}
use Rattle.documents.proofs.frame_room.Goals as goal

pub find-requires : goal.find-requires
find-requires c = search valid-ascends

pub slot-requires : goal.slot-requires
slot-requires c = search found_below

pub returns-in_default : goal.returns-in_default
returns-in_default c = search frame_closed

pub returns-then-is_barred : goal.returns-then-is_barred
returns-then-is_barred c = search frame-barred

pub returns-in_err-serial : goal.returns-in_err-serial
returns-in_err-serial c = let p = err_from_is_err_and c.from_residual.result c.from_residual.ensures.1 in rw (p.1, p.2) (search (frame_refused, c.in_err-serial.ensures))

pub returns : goal.returns
returns c = search (frame-placed, c.in_ok-serial.ensures)
