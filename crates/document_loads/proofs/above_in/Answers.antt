-- `above_in` is right: a serial, and those above it.
use Rattle.std.proofs.Common.{sym, arith}
use Rattle.lent_bytes.proofs.Laws.{same-long}
use Rattle.document_loads.proofs.Putting.{above-fits, above-is}
use Rattle.document_loads.proofs.above_in.Goals as goal

pub slice_bounds-put_text-end : goal.slice_bounds-put_text-end
slice_bounds-put_text-end c = sym (same-long _ _ _ _ c.put_number.ensures)

pub put_text-requires : goal.put_text-requires
put_text-requires c = omega (arith, above-fits _ _ c.requires c.above.ensures, same-long _ _ _ _ c.put_number.ensures)

pub returns : goal.returns
returns c = (above-is _ _ _ _ _ c.above.ensures c.put_number.ensures c.put_text.ensures, omega arith)
