-- What the functions that write the directory leave, in the terms of the code. Assumes nothing.
use mathlib.Core.Path.{◌≡◌, refl, ap, sym, ◌∙◌}
use mathlib.Core.List.{List, [], ◌∷◌}
use Prim.Native.Nat.{ℕ, ◌+◌, ◌*◌, ◌≤◌, ◌<◌}
use native.Mathlib.Numerals.{add-one}
use native.Mathlib.Omega.{arith}
use lib.ListN.{length}
use Rattle.writing.specs.Writing.{with_text}
use mathlib.Core.Bool.{true, false, ◌&&◌}
use lib.Dec.{ltb}
use borrow.Author.Tests.{ltb-true}
use Rattle.ascii.specs.Bytes.{pick}
use Rattle.ascii.proofs.Bytes.{and_left, and_right}
use Rattle.limits.specs.Limits.{document_limit, last_serial}
use Rattle.lent_bytes.specs.Numbers.{bytes_of}
use Rattle.lent_bytes.proofs.Laws.{put-nothing, with_append}
use Rattle.document_model.specs.Model.{values_from}
use Rattle.document_model.proofs.Laws.{values_length, values-none, values-snoc}
use Rattle.document_table.specs.Layout.{mark_place, mark, count_place, last_place, serials_place, slot_numbers_place, count_in, last_in, serial_at, slot_number, new_run, pushed, can_push, moved}

-- the numbers of the slots, one by one
pub free-none : (run : List ℕ) → run ≡ with_text run slot_numbers_place (values_from (λ n. n) 0 0)
free-none run = rw (values-none (λ (n : ℕ). n) 0) (sym (put-nothing run slot_numbers_place))

pub free_more : (before run after : List ℕ) (i : ℕ) → run ≡ with_text before slot_numbers_place (values_from (λ n. n) 0 i) → after ≡ with_text run (slot_numbers_place + i) (i ∷ []) → after ≡ with_text before slot_numbers_place (values_from (λ n. n) 0 (i + 1))
free_more before run after i e f =
    let m : length (values_from (λ (n : ℕ). n) 0 i) ≡ i = values_length (λ n. n) 0 i in
    let z : 0 + i ≡ i = omega arith in
    f
    ∙ (ap (λ (l : List ℕ). with_text l (slot_numbers_place + i) (i ∷ [])) e
    ∙ rw (add-one i, values-snoc (λ (n : ℕ). n) 0 i, z) (ap (λ (k : ℕ). with_text (with_text before slot_numbers_place (values_from (λ n. n) 0 i)) (slot_numbers_place + k) (i ∷ [])) (sym m) ∙ sym (with_append (values_from (λ n. n) 0 i) (i ∷ []) before slot_numbers_place)))

pub free_all : (before run : List ℕ) (i : ℕ) → i ≤ document_limit → document_limit ≤ i → run ≡ with_text before slot_numbers_place (values_from (λ n. n) 0 i) → run ≡ with_text before slot_numbers_place (values_from (λ n. n) 0 document_limit)
free_all before run i low high e = let q : i ≡ document_limit = omega arith in rw q at e

pub cleared : (run zero one two after t : List ℕ) → after ≡ with_text two slot_numbers_place (values_from (λ n. n) 0 document_limit) → two ≡ with_text one last_place (bytes_of 0) → one ≡ with_text zero count_place (bytes_of 0) → zero ≡ with_text run mark_place t → t ≡ mark → after ≡ new_run run
cleared run zero one two after t e f g h k = rw (e, f, g, h, k) refl

-- whether there is room for one more, as `push` tests it
module _ (run : List ℕ) (n l : ℕ) (counted : n ≡ count_in run) (is : l ≡ last_in run) where
  pub room-count : ltb n document_limit && ltb l last_serial ≡ true → count_in run < document_limit
  room-count e = let h = ltb-true n document_limit (and_left (ltb n document_limit) (ltb l last_serial) e) in omega arith

  pub room-last : ltb n document_limit && ltb l last_serial ≡ true → last_in run < last_serial
  room-last e = let h = ltb-true l last_serial (and_right (ltb n document_limit) (ltb l last_serial) e) in omega arith

  pub pushed-on : (after : List ℕ) → ltb n document_limit && ltb l last_serial ≡ true → after ≡ pushed run → after ≡ pick (can_push run) (pushed run) run
  unfolding pick
  pushed-on after e f = let t : can_push run ≡ true = rw (← counted, ← is) e in rw t f

  pub pushed-off : ltb n document_limit && ltb l last_serial ≡ false → run ≡ pick (can_push run) (pushed run) run
  unfolding pick
  pushed-off e = let t : can_push run ≡ false = rw (← counted, ← is) e in rw t refl

pub moves-is : (run one two after : List ℕ) (k i s : ℕ) → after ≡ with_text two (slot_numbers_place + i) (slot_number run k ∷ []) → two ≡ with_text one (slot_numbers_place + k) (slot_number run i ∷ []) → one ≡ with_text run (serials_place + 4 * k) (bytes_of s)
    → s ≡ serial_at run i → after ≡ moved run k i
unfolding moved
moves-is run one two after k i s e f g h = rw (e, f, g, h) refl
