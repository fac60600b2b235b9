-- `load_top` is right: each return is a row of the definition, in its order.
use Rattle.std.proofs.Common.{rules}
use Rattle.std.proofs.lemmas.Result.{err_from_is_err_and}
use Rattle.documents.proofs.Loads.{top_header, top-origin, top-refused, top-accepted, has_room}
use Rattle.documents.proofs.load_top.Goals as goal

pub returns-then-header-gt-TEXT_BYTES : goal.returns-then-header-gt-TEXT_BYTES
returns-then-header-gt-TEXT_BYTES c = search top_header

pub returns-then-is_bad_at_top : goal.returns-then-is_bad_at_top
returns-then-is_bad_at_top c = search top-origin

pub place-requires : goal.place-requires
place-requires c = (search (has_room, c.in_ok-n.ensures), c.top_document-d.ensures.fits, search rules)

pub returns-in_err-n : goal.returns-in_err-n
returns-in_err-n c = let p = err_from_is_err_and c.from_residual.result c.from_residual.ensures.1 in rw (p.1, p.2) (search (top-refused, c.in_err-n.ensures))

pub returns : goal.returns
returns c = search (top-accepted, c.in_ok-n.ensures)
