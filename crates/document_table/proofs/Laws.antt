-- The laws of the table: here the documents at its places, a slot that is given away, and a new table; in Puts what each write leaves, in Sweeping an unload, in Prefixes that nothing past the table is read. Assumes nothing.
use mathlib.Core.Path.{◌≡◌, refl, ap, sym, ◌∙◌, subst}
use mathlib.Core.List.{List, [], ◌∷◌, ◌++◌}
use mathlib.Core.Bool.{Bool, ◌||◌}
use mathlib.Core.Logic.{⊎_elim}
use Prim.Native.Nat.{ℕ, suc, ◌+◌, ◌<◌, ◌≤◌}
use native.Mathlib.Nat.{eq-or-lt_of_le}
use native.Mathlib.Numerals.{add-one}
use native.Mathlib.Omega.{arith}
use lib.Dec.{eqb}
use lib.ListN.{length, drop}
use Rattle.writing.specs.Writing.{with_text}
use Rattle.limits.specs.Limits.{document_limit, last_serial}
use Rattle.lent_bytes.specs.Numbers.{bytes_of, numbers_in, with_number}
use Rattle.lent_bytes.proofs.Laws.{bytes-long, put-long, put-past, get-here, number-below, part-here}
use Rattle.document_model.specs.Model.{new_table, values_from, elem, is_at_or_beneath}
use Rattle.document_model.proofs.Laws.{at-or-beneath, values-at, values_length, values-none, values_same, values-snoc}
use Rattle.document_records.specs.Slots.{slot_bytes, above_bytes, document_in, GoodSlot}
use Rattle.document_records.proofs.Laws.{document-serial, document-above}
use Rattle.document_table.specs.Layout.{mark_place, mark_bytes, mark, mark_in, count_place, last_place, slot_numbers_place, table_bytes, count_in, last_in, serial_at, slot_number, slot_place, slot_of, doc_at, docs_in, view, new_run, with_slot, loaded_run}
use Rattle.document_table.specs.Tables.{Sound, IsSlot}
use Rattle.document_table.proofs.Puts.{count-here, last-count, last-here, with-count, with-last, with-serial, with-number, with-here, with-other, pushed_long, pushed-count, pushed-last, pushed-here, pushed-other, pushed-number, pushed-mark, pushed-slot, pushed-past, behind-mark}

-- ---- the document at a place

pub doc-at : (run : List ℕ) (i : ℕ) → doc_at run i ≡ document_in (serial_at run i) (slot_of run (slot_number run i))
unfolding doc_at
doc-at run i = refl

pub doc-serial : (run : List ℕ) (i : ℕ) → (doc_at run i).identity.serial ≡ serial_at run i
unfolding doc_at
doc-serial run i = document-serial (serial_at run i) (slot_of run (slot_number run i))

-- the same serial and slot are the same document
pub doc-same : (run after : List ℕ) (i j : ℕ) → serial_at after j ≡ serial_at run i → slot_of after (slot_number after j) ≡ slot_of run (slot_number run i) → doc_at after j ≡ doc_at run i
unfolding doc_at
doc-same run after i j e f = rw (e, f) refl

-- as many documents as the count says
pub docs-length : (run : List ℕ) → length (docs_in run) ≡ count_in run
unfolding docs_in
docs-length run = values_length (doc_at run) 0 (count_in run)

pub docs-are : (run : List ℕ) → docs_in run ≡ values_from (doc_at run) 0 (count_in run)
unfolding docs_in
docs-are run = refl

-- whether it has a serial or is beneath it
pub goes-is : (run u : List ℕ) (i s m : ℕ) (b : Bool) → m ≡ serial_at run i → IsSlot run i u → b ≡ elem s (numbers_in (above_bytes u)) → (eqb m s || b) ≡ is_at_or_beneath s (doc_at run i).identity
unfolding doc_at
goes-is run u i s m b e f g =
    let d = document_in (serial_at run i) (slot_of run (slot_number run i)) in
    rw (at-or-beneath s d.identity, document-serial (serial_at run i) (slot_of run (slot_number run i)), document-above (serial_at run i) (slot_of run (slot_number run i)), ← f.is, ← g, ← e) refl

pub beneath-is : (run u : List ℕ) (i s : ℕ) (b c : Bool) → IsSlot run i u → b ≡ elem s (numbers_in (above_bytes u)) → b ≡ c → elem s (doc_at run i).identity.above ≡ c
unfolding doc_at
beneath-is run u i s b c f g h = rw (document-above (serial_at run i) (slot_of run (slot_number run i)), ← f.is, ← g) h

-- ---- a load

module _ (run slot : List ℕ) (sound : Sound run) (full : length slot ≡ slot_bytes) (room : count_in run < document_limit) (left : last_in run < last_serial) where
  free : slot_number run (count_in run) < document_limit
  free = sound.slots (count_in run) room

  between-long : table_bytes ≤ length (with_slot run (slot_number run (count_in run)) slot)
  between-long = let n = put-long run (slot_place (slot_number run (count_in run))) slot in let l = sound.long in omega arith

  same_count : count_in (with_slot run (slot_number run (count_in run)) slot) ≡ count_in run
  same_count = with-count run slot (slot_number run (count_in run)) full

  same-last : last_in (with_slot run (slot_number run (count_in run)) slot) ≡ last_in run
  same-last = with-last run slot (slot_number run (count_in run)) full

  room-too : count_in (with_slot run (slot_number run (count_in run)) slot) < document_limit
  room-too = rw same_count room

  left-too : last_in (with_slot run (slot_number run (count_in run)) slot) < last_serial
  left-too = rw same-last left

  pub loaded-long : length (loaded_run run slot) ≡ length run
  loaded-long = pushed_long (with_slot run (slot_number run (count_in run)) slot) between-long room-too left-too ∙ put-long run (slot_place (slot_number run (count_in run))) slot

  pub loaded-count : count_in (loaded_run run slot) ≡ count_in run + 1
  loaded-count = pushed-count (with_slot run (slot_number run (count_in run)) slot) between-long room-too left-too ∙ ap (λ (n : ℕ). n + 1) same_count

  pub loaded-last : last_in (loaded_run run slot) ≡ last_in run + 1
  loaded-last = pushed-last (with_slot run (slot_number run (count_in run)) slot) between-long room-too left-too ∙ ap (λ (n : ℕ). n + 1) same-last

  loaded-number : (j : ℕ) → j < document_limit → slot_number (loaded_run run slot) j ≡ slot_number run j
  loaded-number j lt = pushed-number (with_slot run (slot_number run (count_in run)) slot) between-long room-too left-too j ∙ with-number run slot (slot_number run (count_in run)) full j lt

  loaded-slot : (j : ℕ) → slot_of (loaded_run run slot) j ≡ slot_of (with_slot run (slot_number run (count_in run)) slot) j
  loaded-slot j = pushed-slot (with_slot run (slot_number run (count_in run)) slot) between-long room-too left-too j

  new-slot : slot_of (loaded_run run slot) (slot_number (loaded_run run slot) (count_in run)) ≡ slot
  new-slot = rw (loaded-number (count_in run) room, loaded-slot (slot_number run (count_in run))) (with-here run slot (slot_number run (count_in run)) full free sound.long)

  old-slot : (j : ℕ) → j < count_in run → slot_of (loaded_run run slot) (slot_number (loaded_run run slot) j) ≡ slot_of run (slot_number run j)
  old-slot j lt =
      let lj : j < document_limit = omega arith in
      let ne : slot_number run j ≡ slot_number run (count_in run) → ⊥ = λ e. (let q : j ≡ count_in run = sound.apart j (count_in run) lj room e in omega arith) in
      rw (loaded-number j lj, loaded-slot (slot_number run j)) (with-other run slot (slot_number run (count_in run)) full (slot_number run j) ne)

  old-doc : (j : ℕ) → j < count_in run → doc_at (loaded_run run slot) j ≡ doc_at run j
  old-doc j lt =
      let ne : j ≡ count_in (with_slot run (slot_number run (count_in run)) slot) → ⊥ = λ e. (let c = same_count in omega arith) in
      doc-same run (loaded_run run slot) j j (pushed-other (with_slot run (slot_number run (count_in run)) slot) between-long room-too left-too j ne ∙ with-serial run slot (slot_number run (count_in run)) full j (omega arith)) (old-slot j lt)

  new-doc : doc_at (loaded_run run slot) (count_in run) ≡ document_in (suc (last_in run)) slot
  new-doc =
      let here : serial_at (loaded_run run slot) (count_in run) ≡ suc (last_in run) =
      subst (λ (n : ℕ). serial_at (loaded_run run slot) n ≡ suc (last_in run)) same_count (pushed-here (with_slot run (slot_number run (count_in run)) slot) between-long room-too left-too ∙ (ap (λ (n : ℕ). n + 1) same-last ∙ add-one (last_in run))) in
      doc-at (loaded_run run slot) (count_in run) ∙ rw (here, new-slot) refl

  pub loaded-docs : docs_in (loaded_run run slot) ≡ docs_in run ++ (document_in (suc (last_in run)) slot ∷ [])
  unfolding docs_in
  loaded-docs =
      let e : 0 + count_in run ≡ count_in run = omega arith in
      let last : doc_at (loaded_run run slot) (0 + count_in run) ≡ document_in (suc (last_in run)) slot = rw e new-doc in
      rw (loaded-count, add-one (count_in run), values-snoc (doc_at (loaded_run run slot)) 0 (count_in run), last, values_same (doc_at (loaded_run run slot)) (doc_at run) 0 (count_in run) (λ j a b. old-doc j (omega arith))) refl

  -- a load writes one slot
  pub loaded-slots : (k : ℕ) → (k ≡ slot_number run (count_in run) → ⊥) → slot_of (loaded_run run slot) k ≡ slot_of run k
  loaded-slots k ne = loaded-slot k ∙ with-other run slot (slot_number run (count_in run)) full k ne

  -- and nothing past the table
  pub loaded-past : drop table_bytes (loaded_run run slot) ≡ drop table_bytes run
  loaded-past =
      let f = free in
      pushed-past (with_slot run (slot_number run (count_in run)) slot) between-long room-too left-too ∙ put-past run slot (slot_place (slot_number run (count_in run))) table_bytes (omega arith)

  pub loaded-sound : GoodSlot slot → Sound (loaded_run run slot)
  loaded-sound good =
      let size = sound.long in
      record {
        long = let n = loaded-long in omega arith;
        marked = pushed-mark (with_slot run (slot_number run (count_in run)) slot) between-long room-too left-too ∙ (behind-mark run slot (slot_place (slot_number run (count_in run))) (omega arith) ∙ sound.marked);
        count = let n = loaded-count in omega arith;
        slots = λ i lt. rw (loaded-number i lt) (sound.slots i lt);
        apart = λ i j li lj e. sound.apart i j li lj (sym (loaded-number i li) ∙ (e ∙ loaded-number j lj));
        good = λ i lt.
            ⊎_elim
            (λ (q : i ≡ count_in run). rw (q, new-slot) good)
            (λ (h : i < count_in run). rw (old-slot i h) (sound.good i h))
            (eq-or-lt_of_le (let n = loaded-count in let z : i ≤ count_in run = omega arith in z));
      }

-- ---- a new table

mark-long : length mark ≡ mark_bytes
unfolding mark
mark-long = refl

abbrev marked : List ℕ → List ℕ
marked run = with_text run mark_place mark

abbrev emptied : List ℕ → List ℕ
emptied run = with_number (with_number (marked run) count_place 0) last_place 0

module _ (run : List ℕ) (long : table_bytes ≤ length run) where
  emptied-long : length (emptied run) ≡ length run
  emptied-long = put-long (with_number (marked run) count_place 0) last_place (bytes_of 0) ∙ (put-long (marked run) count_place (bytes_of 0) ∙ put-long run mark_place mark)

  pub new-long : length (new_run run) ≡ length run
  new-long = put-long (emptied run) slot_numbers_place (values_from (λ n. n) 0 document_limit) ∙ emptied-long

  pub new-count : count_in (new_run run) ≡ 0
  new-count =
      let n = put-long run mark_place mark in
      number-below (emptied run) (values_from (λ n. n) 0 document_limit) slot_numbers_place count_place (omega arith)
      ∙ (last-count (with_number (marked run) count_place 0) 0 ∙ count-here (marked run) 0 (omega arith) (omega arith))

  pub new-last : last_in (new_run run) ≡ 0
  new-last =
      let n = put-long (marked run) count_place (bytes_of 0) in
      let m = put-long run mark_place mark in
      number-below (emptied run) (values_from (λ n. n) 0 document_limit) slot_numbers_place last_place (omega arith)
      ∙ last-here (with_number (marked run) count_place 0) 0 (omega arith) (omega arith)

  new-mark : mark_in (new_run run) ≡ mark
  new-mark =
      let m = mark-long in
      let h : mark_place + length mark ≤ length run = omega arith in
      behind-mark (emptied run) (values_from (λ n. n) 0 document_limit) slot_numbers_place (omega arith)
      ∙ (behind-mark (with_number (marked run) count_place 0) (bytes_of 0) last_place (omega arith)
      ∙ (behind-mark (marked run) (bytes_of 0) count_place (omega arith) ∙ (rw mark-long at (part-here mark run mark_place h))))

  new-number : (j : ℕ) → j < document_limit → slot_number (new_run run) j ≡ j
  new-number j lt =
      let n = emptied-long in
      let m : length (values_from (λ (n : ℕ). n) 0 document_limit) ≡ document_limit = values_length (λ n. n) 0 document_limit in
      get-here (values_from (λ n. n) 0 document_limit) (emptied run) slot_numbers_place j (omega arith) (omega arith) ∙ values-at (λ n. n) document_limit j 0 lt

  -- nothing past the table is written
  pub new-past : drop table_bytes (new_run run) ≡ drop table_bytes run
  new-past =
      let m = mark-long in
      let b = bytes-long 0 in
      let n : length (values_from (λ (n : ℕ). n) 0 document_limit) ≡ document_limit = values_length (λ n. n) 0 document_limit in
      put-past (emptied run) (values_from (λ n. n) 0 document_limit) slot_numbers_place table_bytes (omega arith)
      ∙ (put-past (with_number (marked run) count_place 0) (bytes_of 0) last_place table_bytes (omega arith)
      ∙ (put-past (marked run) (bytes_of 0) count_place table_bytes (omega arith) ∙ put-past run mark mark_place table_bytes (omega arith)))

  pub new-sound : Sound (new_run run)
  new-sound =
      record {
        long = let n = new-long in omega arith;
        marked = new-mark;
        count = let n = new-count in omega arith;
        slots = λ i lt. rw (new-number i lt) lt;
        apart = λ i j li lj e. sym (new-number i li) ∙ (e ∙ new-number j lj);
        good = λ i lt. absurd (let n = new-count in omega arith);
      }

  pub new-view : view (new_run run) ≡ new_table
  unfolding docs_in
  new-view =
      let none : docs_in (new_run run) ≡ [] = rw new-count (values-none (doc_at (new_run run)) 0) in
      let next : suc (last_in (new_run run)) ≡ 1 = rw new-last refl in
      cc
