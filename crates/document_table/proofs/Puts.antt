-- What a table says after each kind of write: what was put is read back, and all else is as it was. Assumes nothing.
use mathlib.Core.Path.{◌≡◌, refl, ◌∙◌}
use mathlib.Core.List.{List, [], ◌∷◌}
use mathlib.Core.Logic.{◌⊎◌, inl, inr, ⊎_elim}
use mathlib.Core.Bool.{Bool, true, false}
use Prim.Native.Nat.{ℕ, ◌+◌, ◌*◌, ◌^◌, ◌<◌, ◌≤◌}
use native.Mathlib.Omega.{arith}
use lib.Dec.{ltb}
use lib.ListN.{length, drop}
use borrow.Author.Tests.{ltb-true, ltb-false}
use Rattle.writing.specs.Writing.{with_text}
use Rattle.limits.specs.Limits.{document_limit, last_serial}
use Rattle.lent_bytes.specs.Numbers.{bytes_of, with_number}
use Rattle.lent_bytes.proofs.Laws.{bytes-long, put-long, put-past, get-below, get-above, get-here, number-here, number-below, number-above, part-here, part-below, part-above}
use Rattle.document_records.specs.Slots.{slot_bytes}
use Rattle.document_table.specs.Layout.{mark_place, mark_bytes, mark_in, count_place, last_place, serials_place, slot_numbers_place, slots_place, table_bytes, count_in, last_in, serial_at, slot_number, slot_place, slot_of, with_slot, pushed, moved}

-- two places that differ
pub before-or-behind : (j k : ℕ) → (j ≡ k → ⊥) → (j < k) ⊎ (k < j)
before-or-behind j k ne = go (ltb j k) refl
  where
    go : (b : Bool) → ltb j k ≡ b → (j < k) ⊎ (k < j)
    go true e = inl (ltb-true j k e)
    go false e = inr (let h = ltb-false j k e in let z : (j ≡ k → ⊥) = ne in by_cases h)
      where
        by_cases : k ≤ j → k < j
        by_cases h = strict (ltb k j) refl
          where
            strict : (b : Bool) → ltb k j ≡ b → k < j
            strict true e = ltb-true k j e
            strict false e = absurd (ne (let g = ltb-false k j e in let w : j ≡ k = omega arith in w))

-- no write behind the mark changes it
pub behind-mark : (run t : List ℕ) (at : ℕ) → count_place ≤ at → mark_in (with_text run at t) ≡ mark_in run
behind-mark run t at h = part-below t run at mark_place mark_bytes (omega arith)

-- no write before the slots changes one
pub head-slot : (run t : List ℕ) (at k : ℕ) → at + length t ≤ slots_place → slot_of (with_text run at t) k ≡ slot_of run k
head-slot run t at k h = part-above t run at (slot_place k) slot_bytes (omega arith)

-- a serial
module _ (run : List ℕ) (k x : ℕ) (lt : k < document_limit) where
  pub serial-count : count_in (with_number run (serials_place + 4 * k) x) ≡ count_in run
  serial-count = number-below run (bytes_of x) (serials_place + 4 * k) count_place (omega arith)

  pub serial-last : last_in (with_number run (serials_place + 4 * k) x) ≡ last_in run
  serial-last = number-below run (bytes_of x) (serials_place + 4 * k) last_place (omega arith)

  pub serial-here : table_bytes ≤ length run → x < 2 ^ 32 → serial_at (with_number run (serials_place + 4 * k) x) k ≡ x
  serial-here long small = number-here run (serials_place + 4 * k) x (omega arith) small

  pub serial-other : (j : ℕ) → (j ≡ k → ⊥) → serial_at (with_number run (serials_place + 4 * k) x) j ≡ serial_at run j
  serial-other j ne =
      ⊎_elim
      (λ (h : j < k). number-below run (bytes_of x) (serials_place + 4 * k) (serials_place + 4 * j) (omega arith))
      (λ (h : k < j). number-above run (bytes_of x) (serials_place + 4 * k) (serials_place + 4 * j) (omega (arith, bytes-long x)))
      (before-or-behind j k ne)

  pub serial-number : (j : ℕ) → slot_number (with_number run (serials_place + 4 * k) x) j ≡ slot_number run j
  serial-number j = get-above (bytes_of x) run (serials_place + 4 * k) (slot_numbers_place + j) (omega (arith, bytes-long x))

  pub serial-slot : (j : ℕ) → slot_of (with_number run (serials_place + 4 * k) x) j ≡ slot_of run j
  serial-slot j = head-slot run (bytes_of x) (serials_place + 4 * k) j (omega (arith, bytes-long x))

-- a slot's number
module _ (run : List ℕ) (k x : ℕ) (lt : k < document_limit) where
  pub entry-count : count_in (with_text run (slot_numbers_place + k) (x ∷ [])) ≡ count_in run
  entry-count = number-below run (x ∷ []) (slot_numbers_place + k) count_place (omega arith)

  pub entry-last : last_in (with_text run (slot_numbers_place + k) (x ∷ [])) ≡ last_in run
  entry-last = number-below run (x ∷ []) (slot_numbers_place + k) last_place (omega arith)

  pub entry-serial : (j : ℕ) → j < document_limit → serial_at (with_text run (slot_numbers_place + k) (x ∷ [])) j ≡ serial_at run j
  entry-serial j h = number-below run (x ∷ []) (slot_numbers_place + k) (serials_place + 4 * j) (omega arith)

  pub entry_here : table_bytes ≤ length run → slot_number (with_text run (slot_numbers_place + k) (x ∷ [])) k ≡ x
  entry_here long =
      let e : slot_numbers_place + k + 0 ≡ slot_numbers_place + k = omega arith in
      rw e at (get-here (x ∷ []) run (slot_numbers_place + k) 0 (omega arith) (omega arith))

  pub entry_other : (j : ℕ) → (j ≡ k → ⊥) → slot_number (with_text run (slot_numbers_place + k) (x ∷ [])) j ≡ slot_number run j
  entry_other j ne =
      ⊎_elim
      (λ (h : j < k). get-below (x ∷ []) run (slot_numbers_place + k) (slot_numbers_place + j) (omega arith))
      (λ (h : k < j). get-above (x ∷ []) run (slot_numbers_place + k) (slot_numbers_place + j) (omega arith))
      (before-or-behind j k ne)

  pub entry-slot : (j : ℕ) → slot_of (with_text run (slot_numbers_place + k) (x ∷ [])) j ≡ slot_of run j
  entry-slot j = head-slot run (x ∷ []) (slot_numbers_place + k) j (omega arith)

-- how many there are, and the last serial
module _ (run : List ℕ) (x : ℕ) where
  pub count-here : table_bytes ≤ length run → x < 2 ^ 32 → count_in (with_number run count_place x) ≡ x
  count-here long small = number-here run count_place x (omega arith) small

  pub count-last : last_in (with_number run count_place x) ≡ last_in run
  count-last = number-above run (bytes_of x) count_place last_place (omega (arith, bytes-long x))

  pub count-serial : (j : ℕ) → serial_at (with_number run count_place x) j ≡ serial_at run j
  count-serial j = number-above run (bytes_of x) count_place (serials_place + 4 * j) (omega (arith, bytes-long x))

  pub count-number : (j : ℕ) → slot_number (with_number run count_place x) j ≡ slot_number run j
  count-number j = get-above (bytes_of x) run count_place (slot_numbers_place + j) (omega (arith, bytes-long x))

  pub count-slot : (j : ℕ) → slot_of (with_number run count_place x) j ≡ slot_of run j
  count-slot j = head-slot run (bytes_of x) count_place j (omega (arith, bytes-long x))

  pub last-count : count_in (with_number run last_place x) ≡ count_in run
  last-count = number-below run (bytes_of x) last_place count_place (omega arith)

  pub last-here : table_bytes ≤ length run → x < 2 ^ 32 → last_in (with_number run last_place x) ≡ x
  last-here long small = number-here run last_place x (omega arith) small

  pub last-serial : (j : ℕ) → serial_at (with_number run last_place x) j ≡ serial_at run j
  last-serial j = number-above run (bytes_of x) last_place (serials_place + 4 * j) (omega (arith, bytes-long x))

  pub last-number : (j : ℕ) → slot_number (with_number run last_place x) j ≡ slot_number run j
  last-number j = get-above (bytes_of x) run last_place (slot_numbers_place + j) (omega (arith, bytes-long x))

  pub last-slot : (j : ℕ) → slot_of (with_number run last_place x) j ≡ slot_of run j
  last-slot j = head-slot run (bytes_of x) last_place j (omega (arith, bytes-long x))

-- a slot
module _ (run slot : List ℕ) (k : ℕ) (full : length slot ≡ slot_bytes) where
  pub with-count : count_in (with_slot run k slot) ≡ count_in run
  with-count = number-below run slot (slot_place k) count_place (omega arith)

  pub with-last : last_in (with_slot run k slot) ≡ last_in run
  with-last = number-below run slot (slot_place k) last_place (omega arith)

  pub with-serial : (j : ℕ) → j < document_limit → serial_at (with_slot run k slot) j ≡ serial_at run j
  with-serial j h = number-below run slot (slot_place k) (serials_place + 4 * j) (omega arith)

  pub with-number : (j : ℕ) → j < document_limit → slot_number (with_slot run k slot) j ≡ slot_number run j
  with-number j h = get-below slot run (slot_place k) (slot_numbers_place + j) (omega arith)

  pub with-here : k < document_limit → table_bytes ≤ length run → slot_of (with_slot run k slot) k ≡ slot
  with-here lt long = let h : slot_place k + length slot ≤ length run = omega arith in rw full at (part-here slot run (slot_place k) h)

  pub with-other : (j : ℕ) → (j ≡ k → ⊥) → slot_of (with_slot run k slot) j ≡ slot_of run j
  with-other j ne =
      ⊎_elim
      (λ (h : j < k). part-below slot run (slot_place k) (slot_place j) slot_bytes (omega arith))
      (λ (h : k < j). part-above slot run (slot_place k) (slot_place j) slot_bytes (omega arith))
      (before-or-behind j k ne)

-- ---- the next serial, for the first free slot
abbrev one_of : List ℕ → List ℕ
one_of run = with_number run (serials_place + 4 * count_in run) (last_in run + 1)

abbrev two_of : List ℕ → List ℕ
two_of run = with_number (one_of run) last_place (last_in run + 1)

module _ (run : List ℕ) (long : table_bytes ≤ length run) (room : count_in run < document_limit) (left : last_in run < last_serial) where
  one-long : length (one_of run) ≡ length run
  one-long = put-long run (serials_place + 4 * count_in run) (bytes_of (last_in run + 1))

  two-long : length (two_of run) ≡ length run
  two-long = put-long (one_of run) last_place (bytes_of (last_in run + 1)) ∙ one-long

  pub pushed_long : length (pushed run) ≡ length run
  pushed_long = put-long (two_of run) count_place (bytes_of (count_in run + 1)) ∙ two-long

  pub pushed-count : count_in (pushed run) ≡ count_in run + 1
  pushed-count = let n = two-long in count-here (two_of run) (count_in run + 1) (omega arith) (omega arith)

  pub pushed-last : last_in (pushed run) ≡ last_in run + 1
  pushed-last = let n = one-long in count-last (two_of run) (count_in run + 1) ∙ last-here (one_of run) (last_in run + 1) (omega arith) (omega arith)

  pushed-serials : (j : ℕ) → serial_at (pushed run) j ≡ serial_at (one_of run) j
  pushed-serials j = count-serial (two_of run) (count_in run + 1) j ∙ last-serial (one_of run) (last_in run + 1) j

  pub pushed-here : serial_at (pushed run) (count_in run) ≡ last_in run + 1
  pushed-here = pushed-serials (count_in run) ∙ serial-here run (count_in run) (last_in run + 1) room long (omega arith)

  pub pushed-other : (j : ℕ) → (j ≡ count_in run → ⊥) → serial_at (pushed run) j ≡ serial_at run j
  pushed-other j ne = pushed-serials j ∙ serial-other run (count_in run) (last_in run + 1) room j ne

  pub pushed-number : (j : ℕ) → slot_number (pushed run) j ≡ slot_number run j
  pushed-number j = count-number (two_of run) (count_in run + 1) j ∙ (last-number (one_of run) (last_in run + 1) j ∙ serial-number run (count_in run) (last_in run + 1) room j)

  pub pushed-mark : mark_in (pushed run) ≡ mark_in run
  pushed-mark =
      behind-mark (two_of run) (bytes_of (count_in run + 1)) count_place (omega arith)
      ∙ (behind-mark (one_of run) (bytes_of (last_in run + 1)) last_place (omega arith) ∙ behind-mark run (bytes_of (last_in run + 1)) (serials_place + 4 * count_in run) (omega arith))

  pub pushed-past : drop table_bytes (pushed run) ≡ drop table_bytes run
  pushed-past =
      let a = bytes-long (last_in run + 1) in
      let b = bytes-long (count_in run + 1) in
      put-past (two_of run) (bytes_of (count_in run + 1)) count_place table_bytes (omega arith)
      ∙ (put-past (one_of run) (bytes_of (last_in run + 1)) last_place table_bytes (omega arith) ∙ put-past run (bytes_of (last_in run + 1)) (serials_place + 4 * count_in run) table_bytes (omega arith))

  pub pushed-slot : (j : ℕ) → slot_of (pushed run) j ≡ slot_of run j
  pushed-slot j = count-slot (two_of run) (count_in run + 1) j ∙ (last-slot (one_of run) (last_in run + 1) j ∙ serial-slot run (count_in run) (last_in run + 1) room j)

-- ---- two entries change places
abbrev first_of : List ℕ → ℕ → ℕ → List ℕ
first_of run k i = with_number run (serials_place + 4 * k) (serial_at run i)

abbrev second_of : List ℕ → ℕ → ℕ → List ℕ
second_of run k i = with_text (first_of run k i) (slot_numbers_place + k) (slot_number run i ∷ [])

module _ (run : List ℕ) (k i : ℕ) (long : table_bytes ≤ length run) (le : k ≤ i) (lt : i < document_limit) where
  ka : k < document_limit
  ka = omega arith

  first-long : length (first_of run k i) ≡ length run
  first-long = put-long run (serials_place + 4 * k) (bytes_of (serial_at run i))

  second-long : length (second_of run k i) ≡ length run
  second-long = put-long (first_of run k i) (slot_numbers_place + k) (slot_number run i ∷ []) ∙ first-long

  pub moved-long : length (moved run k i) ≡ length run
  unfolding moved
  moved-long = put-long (second_of run k i) (slot_numbers_place + i) (slot_number run k ∷ []) ∙ second-long

  pub moved-count : count_in (moved run k i) ≡ count_in run
  unfolding moved
  moved-count = entry-count (second_of run k i) i (slot_number run k) lt ∙ (entry-count (first_of run k i) k (slot_number run i) ka ∙ serial-count run k (serial_at run i) ka)

  pub moved-last : last_in (moved run k i) ≡ last_in run
  unfolding moved
  moved-last = entry-last (second_of run k i) i (slot_number run k) lt ∙ (entry-last (first_of run k i) k (slot_number run i) ka ∙ serial-last run k (serial_at run i) ka)

  moved-serials : (j : ℕ) → j < document_limit → serial_at (moved run k i) j ≡ serial_at (first_of run k i) j
  unfolding moved
  moved-serials j h = entry-serial (second_of run k i) i (slot_number run k) lt j h ∙ entry-serial (first_of run k i) k (slot_number run i) ka j h

  pub moved-serial : serial_at run i < 2 ^ 32 → serial_at (moved run k i) k ≡ serial_at run i
  moved-serial small = moved-serials k ka ∙ serial-here run k (serial_at run i) ka long small

  pub moved-serial-other : (j : ℕ) → j < document_limit → (j ≡ k → ⊥) → serial_at (moved run k i) j ≡ serial_at run j
  moved-serial-other j h ne = moved-serials j h ∙ serial-other run k (serial_at run i) ka j ne

  pub moved-mark : mark_in (moved run k i) ≡ mark_in run
  unfolding moved
  moved-mark =
      behind-mark (second_of run k i) (slot_number run k ∷ []) (slot_numbers_place + i) (omega arith)
      ∙ (behind-mark (first_of run k i) (slot_number run i ∷ []) (slot_numbers_place + k) (omega arith) ∙ behind-mark run (bytes_of (serial_at run i)) (serials_place + 4 * k) (omega arith))

  pub moved-past : drop table_bytes (moved run k i) ≡ drop table_bytes run
  unfolding moved
  moved-past =
      let b = bytes-long (serial_at run i) in
      put-past (second_of run k i) (slot_number run k ∷ []) (slot_numbers_place + i) table_bytes (omega arith)
      ∙ (put-past (first_of run k i) (slot_number run i ∷ []) (slot_numbers_place + k) table_bytes (omega arith) ∙ put-past run (bytes_of (serial_at run i)) (serials_place + 4 * k) table_bytes (omega arith))

  pub moved-slot : (j : ℕ) → slot_of (moved run k i) j ≡ slot_of run j
  unfolding moved
  moved-slot j = entry-slot (second_of run k i) i (slot_number run k) lt j ∙ (entry-slot (first_of run k i) k (slot_number run i) ka j ∙ serial-slot run k (serial_at run i) ka j)

  pub moved-from : slot_number (moved run k i) i ≡ slot_number run k
  unfolding moved
  moved-from = let n = second-long in entry_here (second_of run k i) i (slot_number run k) lt (omega arith)

  -- to its own place too: the numbers are then the same
  pub moved_to : (k ≡ i → ⊥) → slot_number (moved run k i) k ≡ slot_number run i
  unfolding moved
  moved_to ne = let n = first-long in entry_other (second_of run k i) i (slot_number run k) lt k ne ∙ entry_here (first_of run k i) k (slot_number run i) ka (omega arith)

  pub moved-number-other : (j : ℕ) → (j ≡ k → ⊥) → (j ≡ i → ⊥) → slot_number (moved run k i) j ≡ slot_number run j
  unfolding moved
  moved-number-other j nk ni = entry_other (second_of run k i) i (slot_number run k) lt j ni ∙ (entry_other (first_of run k i) k (slot_number run i) ka j nk ∙ serial-number run k (serial_at run i) ka j)
