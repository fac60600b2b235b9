-- `put_front` is right: the numbers, the serials above, the origin's text.
use Rattle.document_loads.proofs.Putting.{fronted}
use Rattle.document_loads.proofs.put_front.Goals as goal

pub returns : goal.returns
returns c = fronted _ _ _ _ c.args.d.now c.put_text-2.ensures c.put_text.ensures c.put_numbers.ensures
