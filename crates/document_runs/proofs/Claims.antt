-- Demand 3 of the calls that run: its two halves of any runs, and the seven claims of `document_model/specs/Claims` of whatever answers every list of calls as a run of the code does; and of `code_answers`, which does so, without a premise. Assumes nothing.
use mathlib.Core.Path.{◌≡◌, refl, ap, sym, subst, ◌∙◌}
use mathlib.Core.List.{List, [], ◌∷◌, ◌++◌}
use lib.ListN.{length}
use Rattle.ascii.proofs.Clash.{clash}
use Rattle.document_model.specs.Model.{Call, question, Answer, answer_to, table_after, answers}
use Rattle.document_model.specs.History.{Event, LoadedIn, BeneathIn, history}
use Rattle.document_model.specs.Answering.{events_of, answer_at, by_answers}
use Rattle.document_model.specs.Claims.{DisabledFlowsDown, MoreNeverTakesAway, SerialsAndCounts, ForecastComesTrue, RefusalsExactly, SettledAtLoad, AnswersAsDefined}
use Rattle.document_model.proofs.Laws.{answers_one, answer-at, history-is}
use Rattle.document_model.proofs.Claims as model
use Rattle.document_runs.specs.Runs.{Run, FlowsDownInRuns, MoreInRuns, AnsweredByCode}
use Rattle.document_runs.proofs.Runs.{run-answers, code-is-model}
use Rattle.document_runs.proofs.Existence.{code_answers, answered-by-code}

-- ---- of any runs

snoc-same : (l m : List Answer) (x y : Answer) → l ++ (x ∷ []) ≡ m ++ (y ∷ []) → (l ≡ m) × (x ≡ y)
snoc-same [] [] x y e = (refl, cc)
snoc-same [] (b ∷ []) x y e = clash cc
snoc-same [] (b ∷ c ∷ m) x y e = clash cc
snoc-same (a ∷ []) [] x y e = clash cc
snoc-same (a ∷ c ∷ l) [] x y e = clash cc
snoc-same (a ∷ l) (b ∷ m) x y e =
    let w : l ++ (x ∷ []) ≡ m ++ (y ∷ []) = cc in
    let z : a ≡ b = cc in
    let h = snoc-same l m x y w in
    (ap (λ (k : List Answer). a ∷ k) h.0 ∙ ap (λ (k : Answer). k ∷ m) z, h.1)

-- a run's last answer, and those before it
run-last : (cs : List Call) (c : Call) (l : List Answer) (a : Answer) → Run (cs ++ (c ∷ [])) (l ++ (a ∷ [])) → (l ≡ answers cs) × (a ≡ answer_to c (table_after cs))
run-last cs c l a r = snoc-same l (answers cs) a (answer_to c (table_after cs)) (run-answers r ∙ answers_one cs c)

pub flows-down-in-runs : FlowsDownInRuns
flows-down-in-runs cs ds d e f o l k b first second loaded beneath good =
    let p = run-last cs (question d f []) l _ first in
    let q = run-last (cs ++ ds) (question e f o) k b second in
    let same : events_of (cs ++ ds) k [] ≡ history (cs ++ ds) = ap (λ (m : List Answer). events_of (cs ++ ds) m []) q.0 ∙ history-is (cs ++ ds) in
    q.1 ∙ model.disabled-flows-down cs ds d e f (sym p.1) (subst (λ (es : List Event). LoadedIn es e) same loaded) (subst (λ (es : List Event). BeneathIn es e d) same beneath) o good

-- the answer at a call's place in a run
run_at : (before : List Call) (c : Call) (behind : List Call) (l : List Answer) → Run (before ++ (c ∷ behind)) l → answer_at (length before) l ≡ answer_to c (table_after before)
run_at before c behind l r = ap (answer_at (length before)) (run-answers r) ∙ answer-at before c behind

pub more-in-runs : MoreInRuns
more-in-runs before c d behind l m more first second p q =
    rw (run-answers first, run-answers second)
    (model.more-never-takes-away before c d behind more (rw (run_at before c behind l first) at p) (rw (run_at before d behind m second) at q))

-- ---- of whatever answers every list as a run does

module _ (f : List Call → List Answer) (h : AnsweredByCode f) where
  pub disabled-flows-down : DisabledFlowsDown (by_answers f)
  disabled-flows-down = subst DisabledFlowsDown (sym (code-is-model f h)) model.disabled-flows-down

  pub more-never-takes-away : MoreNeverTakesAway (by_answers f)
  more-never-takes-away = subst MoreNeverTakesAway (sym (code-is-model f h)) model.more-never-takes-away

  pub serials-and-counts : SerialsAndCounts (by_answers f)
  serials-and-counts = subst SerialsAndCounts (sym (code-is-model f h)) model.serials-and-counts

  pub forecast-comes-true : ForecastComesTrue (by_answers f)
  forecast-comes-true = subst ForecastComesTrue (sym (code-is-model f h)) model.forecast-comes-true

  pub refusals-exactly : RefusalsExactly (by_answers f)
  refusals-exactly = subst RefusalsExactly (sym (code-is-model f h)) model.refusals-exactly

  pub settled-at-load : SettledAtLoad (by_answers f)
  settled-at-load = subst SettledAtLoad (sym (code-is-model f h)) model.settled-at-load

  pub answers-as-defined : AnswersAsDefined (by_answers f)
  answers-as-defined = subst AnswersAsDefined (sym (code-is-model f h)) model.answers-as-defined

-- ---- of the code: nothing is left to suppose. `code_answers` are the answers of a run over the calls, and of every one (`Existence: every-run`)

pub code-disabled-flows-down : DisabledFlowsDown (by_answers code_answers)
code-disabled-flows-down = disabled-flows-down code_answers answered-by-code

pub code-more-never-takes-away : MoreNeverTakesAway (by_answers code_answers)
code-more-never-takes-away = more-never-takes-away code_answers answered-by-code

pub code-serials-and-counts : SerialsAndCounts (by_answers code_answers)
code-serials-and-counts = serials-and-counts code_answers answered-by-code

pub code-forecast-comes-true : ForecastComesTrue (by_answers code_answers)
code-forecast-comes-true = forecast-comes-true code_answers answered-by-code

pub code-refusals-exactly : RefusalsExactly (by_answers code_answers)
code-refusals-exactly = refusals-exactly code_answers answered-by-code

pub code-settled-at-load : SettledAtLoad (by_answers code_answers)
code-settled-at-load = settled-at-load code_answers answered-by-code

pub code-answers-as-defined : AnswersAsDefined (by_answers code_answers)
code-answers-as-defined = answers-as-defined code_answers answered-by-code
