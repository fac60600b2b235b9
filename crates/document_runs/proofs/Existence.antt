-- Every list of calls has a run of the code over lent bytes: what `AnsweredByCode` asks is met. The bytes after a step are those that the calls' contracts say, and those past the table stay. Assumes nothing.
use Rattle.decisions.specs.declared.Decision.TheVariants as verdict
use Rattle.decisions.specs.declared.Decision.{Decision as Verdict}
use Rattle.documents.specs.declared.LoadedDocument.{LoadedDocument}
use Rattle.limits.specs.declared.Refusal.{Refusal}
use Rattle.std.specs.Prelude.{Result, Ok, Err}
use mathlib.Core.Path.{◌≡◌, refl, ap, sym, subst, ◌∙◌}
use Prim.Native.Nat.{ℕ, suc, ◌+◌, ◌≤◌, ◌<◌, ◌^◌}
use native.Mathlib.Omega.{arith}
use mathlib.Core.List.{List, [], ◌∷◌}
use mathlib.Core.Bool.{Bool, true, false}
use lib.Dec.{ltb}
use lib.ListN.{length, drop, replicate, length-replicate, length-take, length-drop}
use borrow.Author.Tests.{ltb-false}
use Rattle.ascii.specs.Bytes.{pick}
use Rattle.ascii.proofs.Clash.{clash}
use Rattle.limits.specs.Limits.{text_bytes, document_limit, last_serial}
use Rattle.origins.specs.Origins.{origin_of}
use Rattle.containers.specs.Attributes.{Attributes}
use Rattle.decisions.specs.Decisions.{Decision, inherited_top}
use Rattle.decisions.specs.Decisions.Decision.{disabled, enabled}
use Rattle.decisions.specs.Masks.{mask_of}
use Rattle.decisions.proofs.Laws.{mask-below}
use Rattle.document_model.specs.Model.{Text, Identity, Document as ModelDocument, Table as ModelTable, Call, top_load, framed_load, unload, question, enabled_features, listing, forecast_of, Answer, decision, features, serials, Outcome, refuse, accept, top_identity, framed_identity, outcome, answer_to, table_after, answers}
use Rattle.document_model.proofs.Laws.{in-values, Asked, asked_not, asked_is, Told, told_not, told_is, Listed, listed_not, listed_is, Removed, removed_not, removed_is, Pushed, pushed_not, pushed_is, asked-outcome, told-enabled, told-forecast, listed-outcome, removed-outcome, top-outcome, framed-outcome}
use Rattle.document_model.proofs.Parts.{top-identity, framed-identity}
use Rattle.document_model.proofs.Tables.{In}
use Rattle.document_model.proofs.Depths.{above-fewer}
use Rattle.document_model.proofs.RowByRow.{answer-of}
use Rattle.document_records.specs.Slots.{slot_bytes}
use Rattle.document_table.specs.Layout.{table_bytes, count_in, last_in, serial_at, slot_number, slot_of, doc_at, docs_in, view, new_run, loaded_run}
use Rattle.document_table.proofs.Laws.{docs-length, docs-are, doc-serial, loaded-past, new-past}
use Rattle.document_table.proofs.Sweeping.{removed-past}
use Rattle.document_loads.specs.Slots.{described, with_decisions, Written}
use Rattle.document_loads.proofs.Written.{Fitting, is-written}
use Rattle.documents.specs.Bytes.{with_newest, changed, bytes_left}
use Rattle.documents.specs.Answers.{Valid, question_in, features_in, bytes_of_new, Loads, Unloads, Lists}
use Rattle.documents.specs.Steps.{HasRoom}
use Rattle.document_runs.specs.Runs.{Step, load-top, load-framed, unloads, asks, enables, lists, forecasts, Steps, no_more, then, Run, RunOf, AnsweredByCode}
use Rattle.documents.proofs.Answering.{new-ready, kept-unload, removed-unload}
use Rattle.documents.proofs.Loads.{refused-load, pushed-load}
use Rattle.documents.proofs.Placing.{slot_placed}
use Rattle.settling.proofs.Laws.{settled-most}
use Rattle.document_runs.proofs.Removals.{removal}
use Rattle.document_runs.proofs.Keeping.{Fit, top-fit, framed-fit, all_fit}
use Rattle.document_runs.proofs.Runs.{run-answers, step-bytes, step-valid}

-- ---- what holds of the documents of a table that calls left

in-docs : (t : List ℕ) (j : ℕ) → j < count_in t → In (doc_at t j) (docs_in t)
in-docs t j h = let e : 0 + j ≡ j = omega arith in rw (docs-are t, ← e) (in-values (doc_at t) (count_in t) 0 j h)

module _ (t : List ℕ) (v : Valid t) where
  docs-left : docs_in t ≡ (table_after v.calls).docs
  docs-left = ap (λ (x : ModelTable). x.docs) v.left

  fit : (d : ModelDocument) → In d (docs_in t) → Fit d.identity
  fit d m = all_fit v.calls d (subst (λ (l : List ModelDocument). In d l) docs-left m)

  shallow : (d : ModelDocument) → In d (docs_in t) → length (docs_in t) < document_limit → suc (length d.identity.above) < document_limit
  shallow d m room = omega (arith, above-fewer v.calls d (subst (λ (l : List ModelDocument). In d l) docs-left m), ap length docs-left)

  serials-small : (j : ℕ) → j < count_in t → serial_at t j < 2 ^ 32
  serials-small j h = let s = (fit (doc_at t j) (in-docs t j h)).serial in let e = doc-serial t j in omega arith

fitting : (i : Identity) (m : ℕ) → Fit i → length i.above ≤ document_limit → m < 2 ^ 32 → Fitting i m
fitting i m f deep small = record { depth = deep; listed = f.listed; origin = f.origin; bits = small }

mask-small : (p : ℕ → Decision) → mask_of p < 2 ^ 32
mask-small p = let b = mask-below p in omega arith

-- a document that a load makes: its values have room in a slot, with one more above
abbrev Placeable : Identity → ℕ → Type 0
Placeable i m = Fitting i m × (length i.above < document_limit)

top-placeable : (o : Text) (n : ℕ) → n ≤ last_serial → Placeable (top_identity (origin_of o) n) (mask_of (λ k. inherited_top))
top-placeable o n left =
    let few : length (top_identity (origin_of o) n).above < document_limit = rw (top-identity (origin_of o) n) (omega arith) in
    (fitting (top_identity (origin_of o) n) (mask_of (λ k. inherited_top)) (top-fit o n (omega arith)) (omega arith) (mask-small (λ k. inherited_top)), few)

framed-placeable : (c : Identity) (a : Attributes) (o : Text) (n : ℕ) (p : ℕ → Decision) → n ≤ last_serial → Fit c → suc (length c.above) < document_limit → Placeable (framed_identity c a (origin_of o) n) (mask_of p)
framed-placeable c a o n p left fit deep =
    let few : length (framed_identity c a (origin_of o) n).above < document_limit = rw (framed-identity c a (origin_of o) n) deep in
    (fitting (framed_identity c a (origin_of o) n) (mask_of p) (framed-fit c a o n (omega arith) fit) (omega arith) (mask-small p), few)

-- ---- one call

-- a step of a call; it writes nothing past the table
pub record Next (c : Call) (t : List ℕ) : Type 0 where
  pub answer : Answer
  pub run : List ℕ
  pub left : List ℕ
  pub step : Step c t answer run left
  pub past : drop table_bytes left ≡ drop table_bytes t

decision_as : Decision → Result Verdict Refusal
decision_as disabled = Ok verdict.Disabled
decision_as enabled = Ok verdict.Enabled

decision-back : (d : Decision) → question_in (decision_as d) ≡ decision d
unfolding decision_as
decision-back disabled = refl
decision-back enabled = refl

record Answered (c : Call) (t : List ℕ) : Type 0 where
  answer : Result Verdict Refusal
  is : question_in answer ≡ answer_to c (view t)

asked-next : (c : Call) (t : List ℕ) (x : Outcome) → outcome c (view t) ≡ x → Asked x → Answered c t
asked-next c t x e (asked_not n) = record { answer = Err n; is = sym (answer-of c (view t) (refuse n) e) }
asked-next c t x e (asked_is d u) = record { answer = decision_as d; is = decision-back d ∙ sym (answer-of c (view t) (accept (decision d) u) e) }

record Numbered (c : Call) (t : List ℕ) : Type 0 where
  answer : Result ℕ Refusal
  is : features_in answer ≡ answer_to c (view t)

told-next : (c : Call) (t : List ℕ) (x : Outcome) → outcome c (view t) ≡ x → Told x → Numbered c t
told-next c t x e (told_not n) = record { answer = Err n; is = sym (answer-of c (view t) (refuse n) e) }
told-next c t x e (told_is m u) = record { answer = Ok m; is = sym (answer-of c (view t) (accept (features m) u) e) }

record Stored (c : Call) (t : List ℕ) (before : List ℕ) : Type 0 where
  answer : Result ℕ Refusal
  after : List ℕ
  is : Lists c t before after answer

listed_next : (c : Call) (t : List ℕ) (before : List ℕ) (x : Outcome) → outcome c (view t) ≡ x → Listed x → Stored c t before
listed_next c t before x e (listed_not n) = record { answer = Err n; after = before; is = record { answer = sym (answer-of c (view t) (refuse n) e); refusal = λ m q. refl } }
listed_next c t before x e (listed_is n run u) = record { answer = Ok n; after = run; is = record { answer = sym (answer-of c (view t) (accept (serials n run) u) e); refusal = λ m q. clash cc } }

-- an unload
record Unloaded (c : Call) (t : List ℕ) : Type 0 where
  answer : Result ℕ Refusal
  after : List ℕ
  is : Unloads c t after answer
  past : drop table_bytes after ≡ drop table_bytes t

removed-next : (s : ℕ) (t : List ℕ) → Valid t → (x : Outcome) → outcome (unload s) (view t) ≡ x → Removed s (view t) x → Unloaded (unload s) t
removed-next s t v x e (removed_not n) = record { answer = Err n; after = t; is = kept-unload t s n v e; past = refl }
removed-next s t v x e removed_is =
    let gone = removal t s (serials-small t v) v.sound in
    record {
      answer = Ok gone.many;
      after = gone.after;
      is = removed-unload t gone.after s gone.many v e gone.is;
      past = ap (drop table_bytes) gone.is.is ∙ removed-past s t v.sound;
    }

-- a document written into the first free slot
abbrev free_slot : List ℕ → List ℕ
free_slot t = slot_of t (slot_number t (count_in t))

abbrev loaded_slot : List ℕ → Identity → ℕ → Text → List ℕ
loaded_slot t i m h = with_decisions (described (free_slot t) i m h)

free-long : (t : List ℕ) → HasRoom t → length (free_slot t) ≡ slot_bytes
free-long t has =
    let l = has.sound.long in
    let k = has.sound.slots (count_in t) has.room in
    rw (length-take, length-drop) (omega arith)

module _ (t : List ℕ) (i : Identity) (m : ℕ) (h : Text) (has : HasRoom t) (f : Placeable i m) (short : length h ≤ text_bytes) where
  -- it is written, and fills the slot
  slot-written : Written (free_slot t) i m h (loaded_slot t i m h)
  slot-written = let l = free-long t has in is-written (free_slot t) i m h (omega arith) f.0 (let s = settled-most h in omega arith) (loaded_slot t i m h) refl f.1

  slot-full : length (loaded_slot t i m h) ≡ slot_bytes
  slot-full = slot-written.long ∙ free-long t has

-- a load
record LoadedNext (c : Call) (t : List ℕ) : Type 0 where
  answer : Result LoadedDocument Refusal
  after : List ℕ
  is : Loads c t after answer
  past : drop table_bytes after ≡ drop table_bytes t

pushed-next : (c : Call) (t : List ℕ) (h : Text) → Valid t → ((x : ModelTable) → changed c x t ≡ with_newest t x h) → (x : Outcome) → outcome c (view t) ≡ x → Pushed Placeable h (view t) x → LoadedNext c t
pushed-next c t h v changes x e (pushed_not n) = record { answer = Err n; after = t; is = refused-load c t n v e; past = refl }
pushed-next c t h v changes x e (pushed_is m i b f own short room spent) =
    let count : count_in t < document_limit = omega (arith, docs-length t) in
    let last : last_in t < last_serial = omega arith in
    let has : HasRoom t = record { sound = v.sound; room = count; left = last } in
    let full = slot-full t i b h has f short in
    record {
      answer = Ok (record { serial = suc (last_in t); malformed = m });
      after = loaded_run t (loaded_slot t i b h);
      is = pushed-load c t (loaded_run t (loaded_slot t i b h)) h m m (suc (last_in t)) i b v e refl refl (slot_placed t (loaded_slot t i b h) i b h has full (slot-written t i b h has f short) own) changes;
      past = loaded-past t (loaded_slot t i b h) v.sound full count last;
    }

-- for every call, and every run of bytes that calls left, there is a step
pub step-exists : (c : Call) (t : List ℕ) → Valid t → Next c t
step-exists (top_load h o) t v = let r = pushed-next (top_load h o) t h v (λ x. refl) _ refl (top-outcome Placeable h (view t) o (λ room left. top-placeable o (suc (last_in t)) left)) in record { answer = _; run = []; left = r.after; step = load-top r.answer r.is; past = r.past }
step-exists (framed_load c h o a) t v = let r = pushed-next (framed_load c h o a) t h v (λ x. refl) _ refl (framed-outcome Placeable h (view t) c o a (λ d m room left. framed-placeable d.identity a o (suc (last_in t)) _ left (fit t v d m) (shallow t v d m room))) in record { answer = _; run = []; left = r.after; step = load-framed r.answer r.is; past = r.past }
step-exists (unload s) t v = let r = removed-next s t v _ refl (removed-outcome s (view t)) in record { answer = _; run = []; left = r.after; step = unloads r.answer r.is; past = r.past }
step-exists (question s f o) t v = let r = asked-next (question s f o) t _ refl (asked-outcome s f o (view t)) in record { answer = _; run = []; left = t; step = asks r.answer r.is; past = refl }
step-exists (enabled_features s) t v = let r = told-next (enabled_features s) t _ refl (told-enabled s (view t)) in record { answer = _; run = []; left = t; step = enables r.answer r.is; past = refl }
step-exists (listing s run) t v = let r = listed_next (listing s run) t run _ refl (listed-outcome s run (view t)) in record { answer = _; run = _; left = t; step = lists r.answer r.is; past = refl }
step-exists (forecast_of c a) t v = let r = told-next (forecast_of c a) t _ refl (told-forecast c a (view t)) in record { answer = _; run = []; left = t; step = forecasts r.answer r.is; past = refl }

-- no call writes past the table
pub left-past : (c : Call) (run : List ℕ) → Valid run → drop table_bytes (bytes_left c run) ≡ drop table_bytes run
left-past c run v = let next = step-exists c run v in ap (drop table_bytes) (sym (step-bytes next.step)) ∙ next.past

-- ---- a list of calls

record NextOf (cs : List Call) (t : List ℕ) : Type 0 where
  said : List Answer
  runs : List (List ℕ)
  left : List ℕ
  steps : Steps cs t said runs left

steps-exist : (cs : List Call) (t : List ℕ) → Valid t → NextOf cs t
steps-exist [] t v = record { said = []; runs = []; left = t; steps = no_more }
steps-exist (c ∷ cs) t v =
    let one = step-exists c t v in
    let more = steps-exist cs one.left (step-valid one.step v) in
    record { said = _; runs = _; left = _; steps = then one.step more.steps }

-- in any lent memory that is long enough, whatever its bytes are
pub run-from : (lent : List ℕ) → table_bytes ≤ length lent → (cs : List Call) → (r : RunOf cs) × (r.run.lent ≡ lent)
run-from lent long cs =
    let new = new-ready lent (new_run lent) long refl in
    let w = steps-exist cs (new_run lent) (new.valid refl) in
    (record { said = w.said; run = record { lent = lent; start = new_run lent; new = new; runs = w.runs; left = w.left; steps = w.steps } }, refl)

-- nor does the call that makes a table, in too short a run either
new-keeps : (run : List ℕ) (b : Bool) → ltb (length run) table_bytes ≡ b → drop table_bytes (bytes_of_new run) ≡ drop table_bytes run
unfolding pick
new-keeps run true e = rw e refl
new-keeps run false e = rw e (new-past run (ltb-false (length run) table_bytes e))

steps-past : {cs : List Call} {t u : List ℕ} {l : List Answer} {runs : List (List ℕ)} → Steps cs t l runs u → Valid t → drop table_bytes u ≡ drop table_bytes t
steps-past no_more v = refl
steps-past (then {c} {t = t} s ss) v = steps-past ss (step-valid s v) ∙ (ap (drop table_bytes) (step-bytes s) ∙ left-past c t v)

-- a run writes nothing past the table
pub run_past : {cs : List Call} {l : List Answer} (r : Run cs l) → drop table_bytes r.left ≡ drop table_bytes r.lent
run_past r = steps-past r.steps (r.new.valid refl) ∙ (ap (drop table_bytes) r.new.bytes ∙ new-keeps r.lent _ refl)

zeros : (n : ℕ) → List ℕ
zeros n = replicate n 0

zeros-long : (n : ℕ) → n ≤ length (zeros n)
unfolding zeros
zeros-long n = omega (arith, length-replicate {A = ℕ} n 0)

-- what the code answers: the answers of a run over the calls, which all runs have (`every-run`)
pub code_answers : List Call → List Answer
code_answers cs = (run-from (zeros table_bytes) (zeros-long table_bytes) cs).0.said

pub answered-by-code : AnsweredByCode code_answers
unfolding code_answers
answered-by-code cs = (run-from (zeros table_bytes) (zeros-long table_bytes) cs).0.run

-- of every run over them, in whatever memory
pub every-run : (cs : List Call) (l : List Answer) → Run cs l → l ≡ code_answers cs
every-run cs l r = run-answers r ∙ sym (run-answers (answered-by-code cs))

-- every list of calls has a run, with the model's answers
pub run-exists : AnsweredByCode answers
run-exists cs = subst (λ (l : List Answer). Run cs l) (run-answers (answered-by-code cs)) (answered-by-code cs)
