-- The table in one run of bytes: a mark, how many documents there are, the last serial that was given, a directory, and a slot for each document. The directory has the serials, ascending, and behind them, in the same order, the numbers of their slots;
-- past the documents it has the numbers of the free slots. A document's bytes never move: a load takes the first free slot, an unload changes the directory and the count alone. The places are stated here alone.
use Rattle.std.specs.Prelude.{ℕ, zero, suc, ◌+◌, ◌*◌, Bool, ◌&&◌, List, [], ◌∷◌, ltb, get_or}
use Rattle.ascii.specs.Bytes.{pick}
use Rattle.ascii.specs.Literals.{text}
use Rattle.writing.specs.Writing.{with_text}
use Rattle.limits.specs.Limits.{document_limit, last_serial}
use Rattle.lent_bytes.specs.Numbers.{number_at, bytes_at, with_number}
use Rattle.document_model.specs.Model.{Document, Table, values_from, is_at_or_beneath}
use Rattle.document_records.specs.Slots.{slot_bytes, document_in}

-- ---- the places

abbrev pub mark_place : ℕ
mark_place = 0

abbrev pub mark_bytes : ℕ
mark_bytes = 16

abbrev pub count_place : ℕ
count_place = mark_place + mark_bytes

abbrev pub last_place : ℕ
last_place = count_place + 4

abbrev pub serials_place : ℕ
serials_place = last_place + 4

abbrev pub slot_numbers_place : ℕ
slot_numbers_place = serials_place + 4 * document_limit

abbrev pub slots_place : ℕ
slots_place = slot_numbers_place + document_limit

abbrev pub table_bytes : ℕ
table_bytes = slots_place + slot_bytes * document_limit

-- ---- what a run says

-- the mark of a table: it names the version of this layout
unfoldable pub mark : List ℕ
mark = text "flourviol-table1"

abbrev pub mark_in : List ℕ → List ℕ
mark_in run = bytes_at run mark_place mark_bytes

abbrev pub count_in : List ℕ → ℕ
count_in run = number_at run count_place

-- 0 where no serial was given
abbrev pub last_in : List ℕ → ℕ
last_in run = number_at run last_place

abbrev pub serial_at : List ℕ → ℕ → ℕ
serial_at run i = number_at run (serials_place + 4 * i)

abbrev pub slot_number : List ℕ → ℕ → ℕ
slot_number run i = get_or run (slot_numbers_place + i) 0

abbrev pub slot_place : ℕ → ℕ
slot_place k = slots_place + slot_bytes * k

abbrev pub slot_of : List ℕ → ℕ → List ℕ
slot_of run k = bytes_at run (slot_place k) slot_bytes

-- the document at a place
unfoldable pub doc_at : List ℕ → ℕ → Document
doc_at run i = document_in (serial_at run i) (slot_of run (slot_number run i))

-- the documents in order, and the table of the model
unfoldable pub docs_in : List ℕ → List Document
docs_in run = values_from (doc_at run) 0 (count_in run)

abbrev pub view : List ℕ → Table
view run = record { docs = docs_in run; next = suc (last_in run) }

-- ---- what the calls write

-- a new table: marked, no documents, no serial given, and every slot is free
abbrev pub new_run : List ℕ → List ℕ
new_run run = with_text (with_number (with_number (with_text run mark_place mark) count_place 0) last_place 0) slot_numbers_place (values_from (λ n. n) 0 document_limit)

-- bytes in a slot
abbrev pub with_slot : List ℕ → ℕ → List ℕ → List ℕ
with_slot run k slot = with_text run (slot_place k) slot

-- the first free slot is given to the document with the next serial
abbrev pub pushed : List ℕ → List ℕ
pushed run =
    with_number (with_number (with_number run (serials_place + 4 * count_in run) (last_in run + 1)) last_place (last_in run + 1)) count_place (count_in run + 1)

-- there is room for one more, and a serial
abbrev pub can_push : List ℕ → Bool
can_push run = ltb (count_in run) document_limit && ltb (last_in run) last_serial

-- a load: a slot's bytes, and its entry
abbrev pub loaded_run : List ℕ → List ℕ → List ℕ
loaded_run run slot = pushed (with_slot run (slot_number run (count_in run)) slot)

-- place k gets the serial of place i, and the two exchange their slot numbers
unfoldable pub moved : List ℕ → ℕ → ℕ → List ℕ
moved run k i =
    with_text (with_text (with_number run (serials_place + 4 * k) (serial_at run i)) (slot_numbers_place + k) (slot_number run i ∷ [])) (slot_numbers_place + i) (slot_number run k ∷ [])

-- so many entries from place i on are looked at, and those that stay are moved up to place k on, one after the other; at the end the count is k
unfoldable pub swept : (ℕ → Bool) → ℕ → List ℕ → ℕ → ℕ → List ℕ
swept goes zero run k i = with_number run count_place k
swept goes (suc n) run k i = pick (goes i) (swept goes n run k (i + 1)) (swept goes n (moved run k i) (k + 1) (i + 1))

-- an unload: no slot changes
abbrev pub removed_run : ℕ → List ℕ → List ℕ
removed_run serial run = swept (λ i. is_at_or_beneath serial (doc_at run i).identity) (count_in run) run 0 0
