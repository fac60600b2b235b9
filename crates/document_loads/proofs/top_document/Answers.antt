-- `top_document` is right: its parts are the document's.
use Rattle.std.proofs.Common.{refl, arith}
use Rattle.document_loads.proofs.Framing.{is_top}
use Rattle.document_loads.proofs.top_document.Goals as goal

pub overflow_cast-result : goal.overflow_cast-result
overflow_cast-result c = omega (arith, c.arrive-a.ensures.short)

pub returns : goal.returns
returns c = is_top _ _ _ _ c.arrive-a.result refl refl c.arrive-a.ensures
