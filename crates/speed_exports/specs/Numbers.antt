-- The answers of the calls on the table as three numbers, for C and Rust.
use Rattle.std.specs.Prelude.{⊤}
use Rattle.std.specs.Prelude.{Ok, Err}
use Rattle.limits.specs.declared.Refusal.{Refusal}
use Rattle.documents.specs.declared.LoadedDocument.{LoadedDocument}
use Rattle.std.specs.Prelude.{Result}
use Rattle.std.specs.Prelude.{ℕ, ◌/◌, ◌%◌, ◌≡◌, List, eqb}
use Rattle.ascii.specs.Bytes.{pick}
use Rattle.limits.specs.Refusals.{refusal_number}
use Rattle.decisions.specs.Decisions.{Decision}
use Rattle.decisions.specs.Decisions.Decision.{disabled, enabled}
use Rattle.document_model.specs.Model.{Call, Answer, refused, loaded, removed, decision, features, serials, answer_to}
use Rattle.document_table.specs.Layout.{view}
use Rattle.document_loads.specs.declared.FrameMarks.{FrameMarks}
use Rattle.documents.specs.Answers.{IsNew, Loads, Unloads, Lists}
use Rattle.speed_exports.specs.declared.Numbers.{Numbers}

-- Enabled is 1 and Disabled 2, so that neither is a refusal's 0
abbrev pub decision_value : Decision → ℕ
decision_value enabled = 1
decision_value disabled = 2

-- a refusal's number and nothing else; or 0, what the call gives, and 1 beside a serial where the header was malformed
abbrev pub numbers_of : Answer → Numbers
numbers_of (refused n) = record { refusal = n; value = 0; second = 0 }
numbers_of (loaded s m) = record { refusal = 0; value = s; second = pick m 1 0 }
numbers_of (removed n) = record { refusal = 0; value = n; second = 0 }
numbers_of (decision d) = record { refusal = 0; value = decision_value d; second = 0 }
numbers_of (features m) = record { refusal = 0; value = m; second = 0 }
numbers_of (serials n run) = record { refusal = 0; value = n; second = 0 }

-- a new table: 0, or a refusal's number
abbrev pub new_numbers : Result ⊤ Refusal → Numbers
new_numbers (Ok tt) = record { refusal = 0; value = 0; second = 0 }
new_numbers (Err r) = numbers_of (refused (refusal_number r))

-- a listing's numbers don't depend on the lent run
abbrev pub listing_numbers : Result ℕ Refusal → Numbers
listing_numbers (Ok n) = record { refusal = 0; value = n; second = 0 }
listing_numbers (Err r) = numbers_of (refused (refusal_number r))

-- a frame's marks in one number: 1 for allowfullscreen plus 2 for a sandbox attribute
abbrev pub marks_of : ℕ → FrameMarks
marks_of m = record { allowfullscreen = eqb (m % 2) 1; has_sandbox = eqb (m / 2 % 2) 1 }

-- the answer of the library behind the numbers of a call that writes, what it promises of the lent runs, and that the numbers are the model's
pub record IsNewBy (before after : List ℕ) (r : Numbers) : Type 0 where
  pub answer : Result ⊤ Refusal
  pub new : IsNew before after answer
  pub numbers : r ≡ new_numbers answer

pub record LoadsBy (c : Call) (before after : List ℕ) (r : Numbers) : Type 0 where
  pub answer : Result LoadedDocument Refusal
  pub loads : Loads c before after answer
  pub numbers : r ≡ numbers_of (answer_to c (view before))

pub record UnloadsBy (c : Call) (before after : List ℕ) (r : Numbers) : Type 0 where
  pub answer : Result ℕ Refusal
  pub unloads : Unloads c before after answer
  pub numbers : r ≡ numbers_of (answer_to c (view before))

pub record ListsBy (c : Call) (run before after : List ℕ) (r : Numbers) : Type 0 where
  pub answer : Result ℕ Refusal
  pub lists : Lists c run before after answer
  pub numbers : r ≡ numbers_of (answer_to c (view run))
