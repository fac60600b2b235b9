-- 01, "What demand 3 speaks of": "loaded" and "beneath"; "Header and attribute": "sandboxed"; and counts of loads.
-- The history of a list of calls is the model's, and so over its table; the relations and counts below are over calls and their answers alone, whoever gave these.
use Rattle.std.specs.Prelude.{ℕ, suc, ◌+◌, ◌≤◌, ◌≡◌, Bool, true, List, [], ◌∷◌}
use Rattle.containers.specs.Sandboxes.{sandboxes}
use Rattle.containers.specs.Attributes.{Attributes}
use Rattle.document_model.specs.Model.{Text, Table, new_table, Call, top_load, framed_load, unload, Answer, refused, loaded, removed, decision, features, serials, answer_to, table_left}

-- a call and its answer
pub record Event : Type 0 where
  pub call : Call
  pub answer : Answer

-- the calls with their answers, the last one first, past those before
unfoldable pub events_from : List Call → Table → List Event → List Event
events_from [] t es = es
events_from (c ∷ cs) t es = events_from cs (table_left c t) (record { call = c; answer = answer_to c t } ∷ es)

-- the history of a list of calls on a new table
unfoldable pub history : List Call → List Event
history cs = events_from cs new_table []

-- the call got this answer
pub data Happened (c : Call) (a : Answer) : List Event → Type 0 where
  last : {es : List Event} → Happened c a (record { call = c; answer = a } ∷ es)
  earlier : {e : Event} {es : List Event} → Happened c a es → Happened c a (e ∷ es)

-- "an accepted load gave its serial"
pub data Gave : Call → Answer → ℕ → Type 0 where
  gave_top : {h o : Text} {s : ℕ} {m : Bool} → Gave (top_load h o) (loaded s m) s
  gave_framed : {c : ℕ} {h o : Text} {a : Attributes} {s : ℕ} {m : Bool} → Gave (framed_load c h o a) (loaded s m) s

-- "the container that its load named": an accepted load gave the first serial and named the second
pub data Framed : Call → Answer → ℕ → ℕ → Type 0 where
  framed_by : {c : ℕ} {h o : Text} {a : Attributes} {s : ℕ} {m : Bool} → Framed (framed_load c h o a) (loaded s m) s c

-- an "accepted unload" named the serial
pub data Unloaded : Call → Answer → ℕ → Type 0 where
  unloaded : {u n : ℕ} → Unloaded (unload u) (removed n) u

-- "It is beneath the container that its load named, and beneath all that this one is beneath.": the first serial is beneath the second
pub data BeneathIn (es : List Event) : ℕ → ℕ → Type 0 where
  directly : {c : Call} {a : Answer} {e d : ℕ} → Happened c a es → Framed c a e d → BeneathIn es e d
  through : {c : Call} {a : Answer} {e k d : ℕ} → Happened c a es → Framed c a e k → BeneathIn es k d → BeneathIn es e d

-- "A document is loaded if an accepted load gave its serial and no accepted unload since has named it or a document that it was beneath."
pub data LoadedIn : List Event → ℕ → Type 0 where
  now : {c : Call} {a : Answer} {es : List Event} {s : ℕ} → Gave c a s → LoadedIn (record { call = c; answer = a } ∷ es) s
  still : {c : Call} {a : Answer} {es : List Event} {s : ℕ} → LoadedIn es s → ((u : ℕ) → Unloaded c a u → (u ≡ s → ⊥) × (BeneathIn es s u → ⊥)) → LoadedIn (record { call = c; answer = a } ∷ es) s

-- 01, "Header and attribute": "fresh and opaque if the container document is sandboxed, or if a sandbox attribute stands without `allow-same-origin`"; "A document loaded under either condition is itself sandboxed."
pub data SandboxedIn (es : List Event) : ℕ → Type 0 where
  by_attribute : {c : ℕ} {h o : Text} {a : Attributes} {s : ℕ} {m : Bool} → Happened (framed_load c h o a) (loaded s m) es → sandboxes a ≡ true → SandboxedIn es s
  by_container : {c : ℕ} {h o : Text} {a : Attributes} {s : ℕ} {m : Bool} → Happened (framed_load c h o a) (loaded s m) es → SandboxedIn es c → SandboxedIn es s

-- ---- numbers

-- an accepted load is one, any other call none
abbrev pub accepted_load : Answer → ℕ
accepted_load (refused n) = 0
accepted_load (loaded s m) = 1
accepted_load (removed n) = 0
accepted_load (decision d) = 0
accepted_load (features m) = 0
accepted_load (serials n run) = 0

-- an unload's answer, and 0 of any other call
abbrev pub unload_answer : Answer → ℕ
unload_answer (refused n) = 0
unload_answer (loaded s m) = 0
unload_answer (removed n) = n
unload_answer (decision d) = 0
unload_answer (features m) = 0
unload_answer (serials n run) = 0

-- "accepted loads", and "the sum of the unload answers"
unfoldable pub accepted_loads : List Event → ℕ
accepted_loads [] = 0
accepted_loads (e ∷ es) = accepted_load e.answer + accepted_loads es

unfoldable pub unload_sum : List Event → ℕ
unload_sum [] = 0
unload_sum (e ∷ es) = unload_answer e.answer + unload_sum es

-- the serials that answers give, in order
unfoldable pub given : List Answer → List ℕ
given [] = []
given (refused n ∷ l) = given l
given (loaded s m ∷ l) = s ∷ given l
given (removed n ∷ l) = given l
given (decision d ∷ l) = given l
given (features m ∷ l) = given l
given (serials n run ∷ l) = given l

-- ---- lists of serials

pub data Member (n : ℕ) : List ℕ → Type 0 where
  first : {l : List ℕ} → Member n (n ∷ l)
  later : {m : ℕ} {l : List ℕ} → Member n l → Member n (m ∷ l)

-- each number is above the one before it, the first at least a given one
abbrev pub Ascending : ℕ → List ℕ → Type 0
Ascending low [] = Unit {0}
Ascending low (n ∷ l) = (low ≤ n) × Ascending (suc n) l

-- the ascending list of exactly the numbers of which something holds
pub record Exactly (P : ℕ → Type 0) (l : List ℕ) : Type 0 where
  pub ascends : Ascending 0 l
  pub sound : (n : ℕ) → Member n l → P n
  pub whole : (n : ℕ) → P n → Member n l

-- the loaded serials, and the loaded serials beneath one
abbrev pub AreLoaded : List Event → List ℕ → Type 0
AreLoaded es l = Exactly (LoadedIn es) l

abbrev pub AreBeneath : List Event → ℕ → List ℕ → Type 0
AreBeneath es s l = Exactly (λ e. LoadedIn es e × BeneathIn es e s) l
