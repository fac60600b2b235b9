-- What holds of a table in lent memory, and what the functions on it promise.
use Rattle.std.specs.Prelude.{Option}
use Rattle.std.specs.Prelude.{ℕ, ◌+◌, ◌≤◌, ◌<◌, ◌≡◌, List, ◌&&◌, ltb, leb, length, replicate}
use Rattle.std.specs.Prelude.{Some, None}
use Rattle.ascii.specs.Bytes.{pick}
use Rattle.limits.specs.Limits.{document_limit}
use Rattle.document_model.specs.Model.{find, remaining, removed_count, serials_beneath, stored}
use Rattle.document_records.specs.Slots.{GoodSlot}
use Rattle.document_table.specs.Layout.{table_bytes, mark, mark_in, count_in, last_in, serial_at, slot_number, slot_of, doc_at, docs_in, removed_run}

-- what the functions on a table need of its bytes: it is marked, each place of the directory has a slot of its own, and those of the documents are good
pub record Sound (run : List ℕ) : Type 0 where
  pub long : table_bytes ≤ length run
  pub marked : mark_in run ≡ mark
  pub count : count_in run ≤ document_limit
  pub slots : (i : ℕ) → i < document_limit → slot_number run i < document_limit
  pub apart : (i j : ℕ) → i < document_limit → j < document_limit → slot_number run i ≡ slot_number run j → i ≡ j
  pub good : (i : ℕ) → i < count_in run → GoodSlot (slot_of run (slot_number run i))

-- serials rise; of a table that calls left this is a law of the model
pub record Ascends (run : List ℕ) : Type 0 where
  pub up : (i j : ℕ) → i < j → j < count_in run → serial_at run i < serial_at run j

-- a serial's place, and the document there; or the serial names none
pub record IsFound (run : List ℕ) (serial : ℕ) (r : Option ℕ) : Type 0 where
  pub some_at : (i : ℕ) → r ≡ Some i → (i < count_in run) × (find serial (docs_in run) ≡ Some (doc_at run i)) × (serial_at run i ≡ serial)
  pub none_at : r ≡ None → find serial (docs_in run) ≡ None

-- a halving: to the middle where the serial there isn't above the one that is sought
unfoldable pub halved : List ℕ → ℕ → ℕ → ℕ → ℕ → ℕ
halved run n s at half = pick (ltb (at + half) n && leb (serial_at run (at + half)) s) (at + half) at

-- the halvings so far, among the first n serials: the one at a place other than the first isn't above the one that is sought, and those that aren't stand within `width` places
pub record Near (run : List ℕ) (n s at width : ℕ) : Type 0 where
  pub low : 0 < at → (at < n) × (serial_at run at ≤ s)
  pub high : (k : ℕ) → k < n → serial_at run k ≤ s → k < at + width

-- the slot of the document at a place
pub record IsSlot (run : List ℕ) (i : ℕ) (r : List ℕ) : Type 0 where
  pub is : r ≡ slot_of run (slot_number run i)
  pub good : GoodSlot r

-- the documents that stay, how many went, and every byte
pub record IsRemoved (run : List ℕ) (serial : ℕ) (after : List ℕ) (r : ℕ) : Type 0 where
  pub is : after ≡ removed_run serial run
  pub sound : Sound after
  pub docs : docs_in after ≡ remaining serial (docs_in run)
  pub last : last_in after ≡ last_in run
  pub count : r ≡ removed_count serial (docs_in run)
  pub few : r ≤ document_limit

-- a list with no serials yet
abbrev pub no_serials : List ℕ
no_serials = replicate document_limit 0

-- the serials beneath a document, 0 in the places after them, and how many they are
pub record AreSerials (run : List ℕ) (serial count : ℕ) (list : List ℕ) : Type 0 where
  pub few : count ≤ document_limit
  pub many : count ≡ length (serials_beneath serial (docs_in run))
  pub stands : list ≡ stored (serials_beneath serial (docs_in run)) no_serials
