-- 01, "What demand 3 speaks of": lists of calls in code. "It starts from a new table, and each call gets the table that the one before it left, after a refusal too".
use Rattle.decisions.specs.declared.Decision.{Decision}
use Rattle.std.specs.Prelude.{Ok}
use Rattle.documents.specs.declared.LoadedDocument.{LoadedDocument}
use Rattle.limits.specs.declared.Refusal.{Refusal}
use Rattle.std.specs.Prelude.{Result}
use Rattle.std.specs.Prelude.{ℕ, ◌≡◌, true, List, [], ◌∷◌, ◌++◌, length}
use Rattle.origins.specs.Origins.{origin_of}
use Rattle.containers.specs.Attributes.{Attributes}
use Rattle.decisions.specs.Decisions.Decision.{disabled}
use Rattle.document_model.specs.Runs.{Each}
use Rattle.document_model.specs.Model.{Text, Call, top_load, framed_load, unload, question, enabled_features, listing, forecast_of, Answer, decision, is_good_origin, run_after}
use Rattle.document_model.specs.History.{LoadedIn, BeneathIn}
use Rattle.document_model.specs.Answering.{events_of, answer_at}
use Rattle.document_model.specs.Claims.{OneMore, is_accepted, Keeps}
use Rattle.documents.specs.Answers.{question_in, features_in, load_in, unload_in, listing_in, IsNew, Decides, TellsFeatures, Loads, Unloads, Lists}

-- one call in code: an instance of what its function ensures (the bounds of counts aside), with the bytes of the table that it got, its answer, the lent run of numbers afterwards (empty where none is lent) and the bytes of the table that it left
pub data Step : Call → List ℕ → Answer → List ℕ → List ℕ → Type 0 where
  load-top : {h o : Text} {t u : List ℕ} (r : Result LoadedDocument Refusal) → Loads (top_load h o) t u r → Step (top_load h o) t (load_in r) [] u
  load-framed : {c : ℕ} {h o : Text} {a : Attributes} {t u : List ℕ} (r : Result LoadedDocument Refusal) → Loads (framed_load c h o a) t u r → Step (framed_load c h o a) t (load_in r) [] u
  unloads : {s : ℕ} {t u : List ℕ} (r : Result ℕ Refusal) → Unloads (unload s) t u r → Step (unload s) t (unload_in r) [] u
  asks : {s f : ℕ} {o : Text} {t : List ℕ} (r : Result Decision Refusal) → Decides (question s f o) t r → Step (question s f o) t (question_in r) [] t
  enables : {s : ℕ} {t : List ℕ} (r : Result ℕ Refusal) → TellsFeatures (enabled_features s) t r → Step (enabled_features s) t (features_in r) [] t
  lists : {s : ℕ} {run after t : List ℕ} (r : Result ℕ Refusal) → Lists (listing s run) t run after r → Step (listing s run) t (listing_in r after) after t
  forecasts : {c : ℕ} {a : Attributes} {t : List ℕ} (r : Result ℕ Refusal) → TellsFeatures (forecast_of c a) t r → Step (forecast_of c a) t (features_in r) [] t

-- calls one after the other: the bytes of the table that they got, their answers, the lent runs afterwards, and the bytes of the table that they left
pub data Steps : List Call → List ℕ → List Answer → List (List ℕ) → List ℕ → Type 0 where
  no_more : {t : List ℕ} → Steps [] t [] [] t
  then : {c : Call} {cs : List Call} {t u v : List ℕ} {a : Answer} {l : List Answer} {run : List ℕ} {runs : List (List ℕ)} → Step c t a run u → Steps cs u l runs v → Steps (c ∷ cs) t (a ∷ l) (run ∷ runs) v

-- a run of the code over a list of calls: in lent memory in which `new_table` made a table, whatever its bytes were
pub record Run (cs : List Call) (l : List Answer) : Type 0 where
  pub lent : List ℕ
  pub start : List ℕ
  pub new : IsNew lent start (Ok tt)
  pub runs : List (List ℕ)
  pub left : List ℕ
  pub steps : Steps cs start l runs left

-- a run over a list of calls, with its answers
pub record RunOf (cs : List Call) : Type 0 where
  pub said : List Answer
  pub run : Run cs said

-- whatever answers every list of calls as a run of the code does; that there is such a thing is `proofs/Existence: run-exists`
abbrev pub AnsweredByCode : (List Call → List Answer) → Type 0
AnsweredByCode f = (cs : List Call) → Run cs (f cs)

-- ---- demand 3, of runs of the code as they happen

-- "if after it a loaded document is Disabled for a feature at its own origin, every document beneath it is Disabled for it at every origin, then and after any further calls, while both stay loaded":
-- a run ends with the question to d after the calls cs, another with the question to e after the further calls ds, which may be none; loaded and beneath by the calls and answers of the second.
-- The first calls of a run are a run (`proofs/Runs: run-start`), so both may be parts of one
abbrev pub FlowsDownInRuns : Type 0
FlowsDownInRuns =
    (cs ds : List Call) (d e f : ℕ) (o : Text) (l k : List Answer) (b : Answer)
    → Run (cs ++ (question d f [] ∷ [])) (l ++ (decision disabled ∷ []))
    → Run ((cs ++ ds) ++ (question e f o ∷ [])) (k ++ (b ∷ []))
    → LoadedIn (events_of (cs ++ ds) k []) e → BeneathIn (events_of (cs ++ ds) k []) e d
    → is_good_origin (origin_of o) ≡ true → b ≡ decision disabled

-- "take any two such lists, alike except in one call, accepted in both": two runs, and their answers place by place
abbrev pub MoreInRuns : Type 0
MoreInRuns =
    (before : List Call) (c d : Call) (behind : List Call) (l m : List Answer) → OneMore c d
    → Run (before ++ (c ∷ behind)) l → Run (before ++ (d ∷ behind)) m
    → is_accepted (answer_at (length before) l) ≡ true → is_accepted (answer_at (length before) m) ≡ true
    → Each Keeps l m

-- the run of numbers that a call is lent: none but a listing is lent one
abbrev pub lent_run : Call → List ℕ
lent_run (top_load h o) = []
lent_run (framed_load c h o a) = []
lent_run (unload s) = []
lent_run (question s f o) = []
lent_run (enabled_features s) = []
lent_run (listing s run) = run
lent_run (forecast_of c a) = []

-- the lent runs that a list of calls leaves, told its answers: each as its answer has it
unfoldable pub runs_after : List Call → List Answer → List (List ℕ)
runs_after [] l = []
runs_after (c ∷ cs) [] = []
runs_after (c ∷ cs) (a ∷ l) = run_after a (lent_run c) ∷ runs_after cs l
