use Rattle.std.proofs.Common.{refl, ◌∙◌}
use Rattle.lent_bytes.proofs.Laws.{same-long}
use Rattle.document_table.proofs.Writing.{free-none, free_more, free_all}
use Rattle.document_table.proofs.free_slots.Goals as goal

pub loop-i-init : goal.loop-i-init
loop-i-init c = (refl, free-none _)

pub loop-i-preserved : goal.loop-i-preserved
loop-i-preserved c = (same-long _ _ _ _ c.put_one.ensures ∙ c.loop-i.invariant.0, search free_more)

pub returns : goal.returns
returns c = search free_all
