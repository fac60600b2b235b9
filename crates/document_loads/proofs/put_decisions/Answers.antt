-- `put_decisions` is right: both are asked before one is put.
use Rattle.document_loads.proofs.Putting.{decisions-put}
use Rattle.document_loads.proofs.put_decisions.Goals as goal

pub returns : goal.returns
returns c = decisions-put _ _ _ _ _ c.put_number-2.ensures c.put_number.ensures c.everywhere_of-everywhere.ensures c.enabled_of-enabled.ensures
