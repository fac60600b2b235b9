-- `frame_admitted` is right: the texts' refusals come first.
use Rattle.std.proofs.lemmas.Result.{err_from_is_err_and}
use Rattle.documents.proofs.FramedLoads.{admitted-texts, admitted-room}
use Rattle.documents.proofs.frame_admitted.Goals as goal

pub returns-in_err-frame_texts : goal.returns-in_err-frame_texts
returns-in_err-frame_texts c = let p = err_from_is_err_and c.from_residual.result c.from_residual.ensures.1 in rw (p.1, p.2) (search (admitted-texts, c.in_err-frame_texts.ensures))

pub returns : goal.returns
returns c = search (admitted-room, c.in_ok-frame_texts.ensures)
