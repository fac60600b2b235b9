-- A document that is written into the first free slot and gets the next serial, in the terms of the code. Assumes nothing.
use mathlib.Core.Path.{◌≡◌, refl, ap, sym, ◌∙◌}
use Prim.Native.Nat.{ℕ, suc, ◌+◌, ◌≤◌}
use native.Mathlib.Omega.{arith}
use mathlib.Core.List.{List, [], ◌∷◌, ◌++◌}
use mathlib.Core.Bool.{Bool, true}
use borrow.Author.Tests.{lt-ltb}
use Rattle.ascii.specs.Bytes.{pick}
use lib.ListN.{length, take, drop, length-take, length-drop}
use Rattle.writing.specs.Writing.{with_text}
use Rattle.limits.specs.Limits.{text_bytes, document_limit, last_serial}
use Rattle.lent_bytes.proofs.Laws.{mid-put, put-long}
use Rattle.document_model.specs.Model.{Text, Identity, Document}
use Rattle.document_records.specs.Slots.{slot_bytes, document_in}
use Rattle.document_table.specs.Layout.{table_bytes, count_in, last_in, slot_number, slot_place, slot_of, docs_in, with_slot, pushed, can_push, loaded_run}
use Rattle.document_table.proofs.Puts.{with-count, with-last}
use Rattle.document_table.proofs.Laws.{loaded-sound, loaded-docs, loaded-last}
use Rattle.document_loads.specs.declared.NewDocument.{NewDocument}
use Rattle.document_loads.specs.Slots.{Written, Writes}
use Rattle.document_loads.proofs.Putting.{header_is}
use Rattle.documents.specs.Steps.{HasRoom, Placed, Places}

-- a slot that a document was written into, in the place of the first free one
pub slot_placed : (run slot : List ℕ) (i : Identity) (m : ℕ) (h : Text) → HasRoom run → length slot ≡ slot_bytes → Written (slot_of run (slot_number run (count_in run))) i m h slot → i.serial ≡ suc (last_in run) → Placed run i m h (loaded_run run slot)
slot_placed run slot i m h has full w serial =
    record {
      is = ap (loaded_run run) w.is;
      sound = loaded-sound run slot has.sound full has.room has.left w.good;
      docs = loaded-docs run slot has.sound full has.room has.left ∙ ap (λ (x : Document). docs_in run ++ (x ∷ [])) (ap (λ (j : ℕ). document_in j slot) (sym serial) ∙ w.says);
      last = loaded-last run slot has.sound full has.room has.left;
    }

given : (run : List ℕ) → can_push run ≡ true → pick (can_push run) (pushed run) run ≡ pushed run
unfolding pick
given run e = rw e refl

module _ (run slot : List ℕ) (p k n : ℕ) (d : NewDocument) (h : List ℕ) (r : Bool) (has : HasRoom run) (counted : n ≡ count_in run) (at : (p ≡ slot_place (slot_number run n)) × (p + slot_bytes ≤ length run)) (size : k ≡ slot_bytes) (w : Writes (take k (drop p run)) d h slot r) (le : length h ≤ text_bytes) where
  place_is : p ≡ slot_place (slot_number run (count_in run))
  place_is = at.0 ∙ ap (λ (j : ℕ). slot_place (slot_number run j)) counted

  part-is : take k (drop p run) ≡ slot_of run (slot_number run (count_in run))
  part-is = rw (size, place_is) refl

  full : length slot ≡ slot_bytes
  full = let b = at.1 in w.long ∙ (rw (length-take, length-drop) (omega arith))

  between : take p run ++ (slot ++ drop k (drop p run)) ≡ with_slot run (slot_number run (count_in run)) slot
  between = let b = at.1 in let f = full in mid-put run slot p k (omega arith) (omega arith) ∙ ap (λ (j : ℕ). with_text run j slot) place_is

  pub push-asks : table_bytes ≤ length (take p run ++ (slot ++ drop k (drop p run)))
  push-asks =
      let l = has.sound.long in
      rw between (let n = put-long run (slot_place (slot_number run (count_in run))) slot in omega arith)

  room-there : can_push (with_slot run (slot_number run (count_in run)) slot) ≡ true
  room-there = rw (with-count run slot (slot_number run (count_in run)) full, with-last run slot (slot_number run (count_in run)) full, lt-ltb (count_in run) document_limit has.room, lt-ltb (last_in run) last_serial has.left) refl

  pub is-placed : (after : List ℕ) (s : ℕ) → after ≡ pick (can_push (take p run ++ (slot ++ drop k (drop p run)))) (pushed (take p run ++ (slot ++ drop k (drop p run)))) (take p run ++ (slot ++ drop k (drop p run))) → Places run d h after (record { serial = s; malformed = r })
  is-placed after s e =
      let whole : after ≡ loaded_run run slot = e ∙ (ap (λ (l : List ℕ). pick (can_push l) (pushed l) l) between ∙ given (with_slot run (slot_number run (count_in run)) slot) room-there) in
      record {
        says = λ i m new serial few. rw whole (slot_placed run slot i m h has full (rw part-is at (w.says i m new few le)) serial);
        malformed = w.malformed ∙ (header_is h le).1;
      }
