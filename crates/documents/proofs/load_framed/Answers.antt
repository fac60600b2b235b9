-- `load_framed` is right: it is refused, or goes to its place.
use Rattle.std.proofs.lemmas.Result.{err_from_is_err_and}
use Rattle.documents.proofs.FramedLoads.{framed-refused, framed-place, framed-short, framed-accepted}
use Rattle.documents.proofs.load_framed.Goals as goal

pub load_at-requires : goal.load_at-requires
load_at-requires c =
    let h = c.origin_text-said.ensures in
    let k = c.origin_text-src_said.ensures in
    (framed-place _ _ _ _ _ _ _ h k _ c.in_ok-p.ensures, framed-short _ _ _ _ _ _ _ h k _ c.in_ok-p.ensures)

pub returns-in_err-p : goal.returns-in_err-p
returns-in_err-p c =
    let p = err_from_is_err_and c.from_residual.result c.from_residual.ensures.1 in
    rw (p.1, p.2) (framed-refused _ _ _ _ _ _ _ c.origin_text-said.ensures c.origin_text-src_said.ensures _ c.requires c.in_err-p.ensures)

pub returns : goal.returns
returns c = framed-accepted _ _ _ _ _ _ _ c.origin_text-said.ensures c.origin_text-src_said.ensures _ _ _ c.requires c.in_ok-p.ensures c.load_at.ensures
