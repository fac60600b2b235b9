-- `clear` is right: each number is the definition's.
use Rattle.std.proofs.Common.{refl}
use Rattle.document_table.specs.Layout.{mark}
use Rattle.document_table.proofs.Writing.{cleared}
use Rattle.document_table.proofs.clear.Goals as goal

pub returns : goal.returns
unfolding mark
returns c = cleared _ _ _ _ _ _ c.free_slots.ensures c.put_number-2.ensures c.put_number.ensures c.put_text.ensures refl
