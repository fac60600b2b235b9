-- A run of the code over a list of calls has the model's answers, lent runs and table, and the bytes of the definition. Assumes nothing.
use Rattle.decisions.specs.declared.Decision.TheVariants as verdict
use Rattle.decisions.specs.declared.Decision.{Decision}
use Rattle.documents.specs.declared.LoadedDocument.{LoadedDocument}
use Rattle.limits.specs.declared.Refusal.{Refusal}
use Rattle.std.specs.Prelude.{Result, Ok, Err}
use mathlib.Core.Path.{◌≡◌, refl, ap, sym, subst, ◌∙◌, fun_ext}
use Prim.Native.Nat.{ℕ}
use mathlib.Core.List.{List, [], ◌∷◌, ◌++◌}
use Rattle.ascii.proofs.Clash.{clash}
use Rattle.document_model.specs.Runs.{left_by, answers_by}
use Rattle.document_model.specs.Model.{Table as ModelTable, Call, question, enabled_features, listing, forecast_of, Answer, Outcome, refuse, accept, outcome, run_after, answer_to, table_left, table_after, answers}
use Rattle.document_model.specs.Answering.{the_model, by_answers}
use Rattle.document_model.proofs.Laws.{by-answers, asked-keeps, answers-end, answers_next, left_end, left-next, answers-are, table_is}
use Rattle.document_table.specs.Layout.{view}
use Rattle.documents.specs.Bytes.{changed, bytes_in, bytes_left}
use Rattle.documents.specs.Answers.{Valid, question_in, features_in, load_in, unload_in, listing_in, bytes_of_new, Lists}
use Rattle.document_runs.specs.Runs.{Step, load-top, load-framed, unloads, asks, enables, lists, forecasts, Steps, no_more, then, Run, AnsweredByCode, lent_run, runs_after}

-- one call
step-answer : {c : Call} {t u : List ℕ} {a : Answer} {run : List ℕ} → Step c t a run u → a ≡ answer_to c (view t)
step-answer (load-top r h) = h.answer
step-answer (load-framed r h) = h.answer
step-answer (unloads r h) = h.answer
step-answer (asks r h) = h
step-answer (enables r h) = h
step-answer (lists r h) = h.answer
step-answer (forecasts r h) = h

step-table : {c : Call} {t u : List ℕ} {a : Answer} {run : List ℕ} → Step c t a run u → view u ≡ table_left c (view t)
step-table (load-top r h) = h.table
step-table (load-framed r h) = h.table
step-table (unloads r h) = h.table
step-table (asks {s} {f} {o} {t} r h) = sym (asked-keeps (question s f o) (view t) refl)
step-table (enables {s} {t} r h) = sym (asked-keeps (enabled_features s) (view t) refl)
step-table (lists {s} {run} {after} {t} r h) = sym (asked-keeps (listing s run) (view t) refl)
step-table (forecasts {c} {a} {t} r h) = sym (asked-keeps (forecast_of c a) (view t) refl)

-- a call that writes nothing leaves the bytes, whatever its outcome
kept-bytes : (c : Call) (t : List ℕ) → ((x : ModelTable) → changed c x t ≡ t) → t ≡ bytes_left c t
unfolding bytes_left
kept-bytes c t same = sym (kept (outcome c (view t)))
  where
    kept : (x : Outcome) → bytes_in c x t ≡ t
    kept (refuse n) = refl
    kept (accept a u) = same u

pub step-bytes : {c : Call} {t u : List ℕ} {a : Answer} {run : List ℕ} → Step c t a run u → u ≡ bytes_left c t
step-bytes (load-top r h) = h.bytes
step-bytes (load-framed r h) = h.bytes
step-bytes (unloads r h) = h.bytes
step-bytes (asks {s} {f} {o} {t} r h) = kept-bytes (question s f o) t (λ x. refl)
step-bytes (enables {s} {t} r h) = kept-bytes (enabled_features s) t (λ x. refl)
step-bytes (lists {s} {run} {after} {t} r h) = kept-bytes (listing s run) t (λ x. refl)
step-bytes (forecasts {c} {a} {t} r h) = kept-bytes (forecast_of c a) t (λ x. refl)

-- each table is one that the calls left: what each function requires
pub step-valid : {c : Call} {t u : List ℕ} {a : Answer} {run : List ℕ} → Step c t a run u → Valid t → Valid u
step-valid (load-top r h) v = h.valid
step-valid (load-framed r h) v = h.valid
step-valid (unloads r h) v = h.valid
step-valid (asks r h) v = v
step-valid (enables r h) v = v
step-valid (lists r h) v = v
step-valid (forecasts r h) v = v

-- the lent run is as the answer has it
load-run : (r : Result LoadedDocument Refusal) → [] ≡ run_after (load_in r) []
load-run (Ok d) = refl
load-run (Err n) = refl

unload-run : (r : Result ℕ Refusal) → [] ≡ run_after (unload_in r) []
unload-run (Ok n) = refl
unload-run (Err n) = refl

question-run : (r : Result Decision Refusal) → [] ≡ run_after (question_in r) []
question-run (Ok verdict.Enabled) = refl
question-run (Ok verdict.Disabled) = refl
question-run (Err n) = refl

features-run : (r : Result ℕ Refusal) → [] ≡ run_after (features_in r) []
features-run (Ok m) = refl
features-run (Err n) = refl

listing-run : (c : Call) (t : List ℕ) (run after : List ℕ) (r : Result ℕ Refusal) → Lists c t run after r → after ≡ run_after (listing_in r after) run
listing-run c t run after (Ok n) h = refl
listing-run c t run after (Err n) h = h.refusal n refl

step_run : {c : Call} {t u : List ℕ} {a : Answer} {run : List ℕ} → Step c t a run u → run ≡ run_after a (lent_run c)
step_run (load-top r h) = load-run r
step_run (load-framed r h) = load-run r
step_run (unloads r h) = unload-run r
step_run (asks r h) = question-run r
step_run (enables r h) = features-run r
step_run (lists {s} {run} {after} {t} r h) = listing-run _ t run after r h
step_run (forecasts r h) = features-run r

-- calls one after the other
module _ where
  steps-answers : {cs : List Call} {t v : List ℕ} {l : List Answer} {runs : List (List ℕ)} → Steps cs t l runs v → l ≡ answers_by answer_to table_left cs (view t)
  steps-answers (no_more {t}) = sym (answers-end answer_to table_left (view t))
  steps-answers (then {c} {cs} {t} {u} {a = a} {l = l} s ss) =
      ap (λ (x : Answer). x ∷ l) (step-answer s)
      ∙ ap (λ (m : List Answer). answer_to c (view t) ∷ m) (steps-answers ss ∙ ap (answers_by answer_to table_left cs) (step-table s))
      ∙ sym (answers_next answer_to table_left (view t) c cs)

  steps-left : {cs : List Call} {t v : List ℕ} {l : List Answer} {runs : List (List ℕ)} → Steps cs t l runs v → view v ≡ left_by table_left cs (view t)
  steps-left (no_more {t}) = sym (left_end answer_to table_left (view t))
  steps-left (then {c} {cs} {t} s ss) = steps-left ss ∙ ap (left_by table_left cs) (step-table s) ∙ sym (left-next answer_to table_left (view t) c cs)

  steps-bytes : {cs : List Call} {t v : List ℕ} {l : List Answer} {runs : List (List ℕ)} → Steps cs t l runs v → v ≡ left_by bytes_left cs t
  unfolding left_by
  steps-bytes no_more = refl
  steps-bytes (then {cs = cs} s ss) = steps-bytes ss ∙ ap (left_by bytes_left cs) (step-bytes s)

  steps-runs : {cs : List Call} {t v : List ℕ} {l : List Answer} {runs : List (List ℕ)} → Steps cs t l runs v → runs ≡ runs_after cs l
  unfolding runs_after
  steps-runs no_more = refl
  steps-runs (then {c} {cs} {a = a} {l = l} {runs = runs} s ss) = ap (λ (x : List ℕ). x ∷ runs) (step_run s) ∙ ap (λ (m : List (List ℕ)). run_after a (lent_run c) ∷ m) (steps-runs ss)

  steps-valid : {cs : List Call} {t v : List ℕ} {l : List Answer} {runs : List (List ℕ)} → Steps cs t l runs v → Valid t → Valid v
  steps-valid no_more h = h
  steps-valid (then s ss) h = steps-valid ss (step-valid s h)

-- ---- a run of the code

module _ {cs : List Call} {l : List Answer} (r : Run cs l) where
  pub run-answers : l ≡ answers cs
  run-answers = steps-answers r.steps ∙ ap (answers_by answer_to table_left cs) (r.new.table refl) ∙ sym (answers-are cs)

  pub run-table : view r.left ≡ table_after cs
  run-table = steps-left r.steps ∙ ap (left_by table_left cs) (r.new.table refl) ∙ sym (table_is cs)

  -- every byte of the lent memory
  pub run-bytes : r.left ≡ left_by bytes_left cs (bytes_of_new r.lent)
  run-bytes = steps-bytes r.steps ∙ ap (left_by bytes_left cs) r.new.bytes

  pub run-runs : r.runs ≡ runs_after cs (answers cs)
  run-runs = steps-runs r.steps ∙ ap (runs_after cs) run-answers

  pub run-valid : Valid r.left
  run-valid = steps-valid r.steps (r.new.valid refl)

-- the first calls of a run are a run, with its first answers
record Start (cs : List Call) (l : List Answer) (t : List ℕ) : Type 0 where
  rest : List Answer
  front : List Answer
  whole : l ≡ front ++ rest
  runs : List (List ℕ)
  left : List ℕ
  steps : Steps cs t front runs left

steps-start : (cs ds all : List Call) → all ≡ cs ++ ds → {t v : List ℕ} {l : List Answer} {runs : List (List ℕ)} → Steps all t l runs v → Start cs l t
steps-start [] ds all e {l = l} ss = record { rest = l; front = []; whole = refl; runs = []; left = _; steps = no_more }
steps-start (c ∷ cs) ds all e no_more = clash cc
steps-start (c ∷ cs) ds all e (then {c = b} {cs = bs} {t = t} {u = u} {a = a} {run = run} s ss) =
    let tails : bs ≡ cs ++ ds = cc in
    let heads : b ≡ c = cc in
    let w = steps-start cs ds bs tails ss in
    record { rest = w.rest; front = a ∷ w.front; whole = ap (λ (m : List Answer). a ∷ m) w.whole; runs = run ∷ w.runs; left = w.left; steps = then (subst (λ (k : Call). Step k t a run u) heads s) w.steps }

pub run-start : (cs ds : List Call) (l : List Answer) → Run (cs ++ ds) l → (front : List Answer) × (rest : List Answer) × (l ≡ front ++ rest) × Run cs front
run-start cs ds l r =
    let w = steps-start cs ds (cs ++ ds) refl r.steps in
    (w.front, w.rest, w.whole, record { lent = r.lent; start = r.start; new = r.new; runs = w.runs; left = w.left; steps = w.steps })

-- whatever answers as the code does is the model
pub code-is-model : (f : List Call → List Answer) → AnsweredByCode f → by_answers f ≡ the_model
code-is-model f h = ap by_answers (fun_ext (λ cs. run-answers (h cs))) ∙ by-answers
