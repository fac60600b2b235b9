-- What the calls promise: their answers in document 01's values and refusals, the table that they leave, and every byte of the lent run.
use Rattle.decisions.specs.declared.Decision.TheVariants as verdict
use Rattle.decisions.specs.declared.Decision.{Decision}
use Rattle.std.specs.Prelude.{⊤}
use Rattle.documents.specs.declared.LoadedDocument.{LoadedDocument}
use Rattle.std.specs.Prelude.{Result, Ok, Err}
use Rattle.std.specs.Prelude.{ℕ, ◌≡◌, List, ltb, length}
use Rattle.std.specs.Prelude.{Option, Some, None}
use Rattle.ascii.specs.Bytes.{pick}
use Rattle.limits.specs.Refusals.{refusal_number}
use Rattle.limits.specs.declared.Refusal.{Refusal}
use Rattle.decisions.specs.Decisions.Decision.{disabled, enabled}
use Rattle.document_model.specs.Model.{Call, Answer, refused, loaded, removed, decision, features, serials, new_table, answer_to, table_left, table_after}
use Rattle.document_table.specs.Layout.{table_bytes, view, new_run}
use Rattle.document_table.specs.Tables.{Sound}
use Rattle.documents.specs.Bytes.{bytes_left}

-- "The shell hands each call the table as the last call left it, unaltered, in lent memory too": sound bytes that say a table which calls on a new one left. What stands in free slots and past the table is left open: no answer depends on it
pub record Valid (run : List ℕ) : Type 0 where
  pub sound : Sound run
  pub calls : List Call
  pub left : view run ≡ table_after calls

-- the answers in the model's terms: document 01's values, and its numbers of the refusals
abbrev pub question_in : Result Decision Refusal → Answer
question_in (Ok verdict.Enabled) = decision enabled
question_in (Ok verdict.Disabled) = decision disabled
question_in (Err n) = refused (refusal_number n)

abbrev pub features_in : Result ℕ Refusal → Answer
features_in (Ok m) = features m
features_in (Err n) = refused (refusal_number n)

abbrev pub load_in : Result LoadedDocument Refusal → Answer
load_in (Ok d) = loaded d.serial d.malformed
load_in (Err n) = refused (refusal_number n)

abbrev pub unload_in : Result ℕ Refusal → Answer
unload_in (Ok n) = removed n
unload_in (Err n) = refused (refusal_number n)

-- a listing's answer holds the lent run afterwards
abbrev pub listing_in : Result ℕ Refusal → List ℕ → Answer
listing_in (Ok n) run = serials n run
listing_in (Err n) run = refused (refusal_number n)

-- the number of a new table's refusal; none where it was made
abbrev pub new_in : Result ⊤ Refusal → Option ℕ
new_in (Ok tt) = None
new_in (Err n) = Some (refusal_number n)

-- 02, R-4: "a new table in too short a run (4 MiB never is) is refused with 9"
abbrev pub new_refusal : List ℕ → Option ℕ
new_refusal run = pick (ltb (length run) table_bytes) (Some 9) None

-- else it is empty; what is refused changes nothing
abbrev pub bytes_of_new : List ℕ → List ℕ
bytes_of_new run = pick (ltb (length run) table_bytes) run (new_run run)

pub record IsNew (before after : List ℕ) (r : Result ⊤ Refusal) : Type 0 where
  pub answer : new_in r ≡ new_refusal before
  pub bytes : after ≡ bytes_of_new before
  pub valid : r ≡ Ok tt → Valid after
  pub table : r ≡ Ok tt → view after ≡ new_table

-- a question: the answer is the model's, and the table stays
abbrev pub Decides : Call → List ℕ → Result Decision Refusal → Type 0
Decides c run r = question_in r ≡ answer_to c (view run)

-- the number of enabled features, or of a forecast
abbrev pub TellsFeatures : Call → List ℕ → Result ℕ Refusal → Type 0
TellsFeatures c run r = features_in r ≡ answer_to c (view run)

-- a load: the answer and the table are the model's, and every byte is that of the definition; "A refusal ... changes nothing" is a case of it
pub record Loads (c : Call) (before after : List ℕ) (r : Result LoadedDocument Refusal) : Type 0 where
  pub valid : Valid after
  pub answer : load_in r ≡ answer_to c (view before)
  pub table : view after ≡ table_left c (view before)
  pub bytes : after ≡ bytes_left c before

pub record Unloads (c : Call) (before after : List ℕ) (r : Result ℕ Refusal) : Type 0 where
  pub valid : Valid after
  pub answer : unload_in r ≡ answer_to c (view before)
  pub table : view after ≡ table_left c (view before)
  pub bytes : after ≡ bytes_left c before

-- how many an unload and a listing answer; none where they are refused
abbrev pub removed_by : Result ℕ Refusal → ℕ
removed_by (Ok n) = n
removed_by (Err n) = 0

abbrev pub listed_by : Result ℕ Refusal → ℕ
listed_by (Ok n) = n
listed_by (Err n) = 0

-- a listing: the answer with the lent run of numbers afterwards; a refusal leaves that as it was
pub record Lists (c : Call) (run before after : List ℕ) (r : Result ℕ Refusal) : Type 0 where
  pub answer : listing_in r after ≡ answer_to c (view run)
  pub refusal : (n : Refusal) → r ≡ Err n → after ≡ before
