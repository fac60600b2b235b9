-- `put_numbers` is right: each stands past the one before.
use Rattle.document_loads.proofs.Putting.{five-put}
use Rattle.document_loads.proofs.put_numbers.Goals as goal

pub returns : goal.returns
returns c = five-put _ _ _ _ _ _ c.args.d.now _ c.put_number-5.ensures c.put_number-4.ensures c.put_number-3.ensures c.put_number-2.ensures c.put_number.ensures c.from.ensures
