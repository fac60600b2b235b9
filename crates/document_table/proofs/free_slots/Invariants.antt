-- `free_slots` is right: a number a turn.
use Rattle.std.proofs.Common.{◌≡◌, length}
use Rattle.writing.specs.Writing.{with_text}
use Rattle.document_model.specs.Model.{values_from}
use Rattle.document_table.specs.Layout.{slot_numbers_place}
use Rattle.document_table.proofs.free_slots.Given as goal

abbrev pub invariant-loop-i : goal.invariant-loop-i
invariant-loop-i l = (length l.run ≡ length l.initial.run) × (l.run ≡ with_text l.initial.run slot_numbers_place (values_from (λ n. n) 0 l.i))
