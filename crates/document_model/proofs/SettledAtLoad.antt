-- Claim 6, and the answers' kinds: each accepted answer is what the last line of its call says; and a serial that is loaded before and after names the same document. Assumes nothing.
use mathlib.Core.Path.{◌≡◌, refl, sym, ap, subst, ◌∙◌}
use Prim.Native.Nat.{ℕ}
use mathlib.Core.Bool.{Bool, true, false}
use Rattle.std.specs.Prelude.{Option, Some, None}
use mathlib.Core.List.{List, ◌++◌}
use Rattle.ascii.proofs.Clash.{clash}
use Rattle.limits.specs.declared.Refusal.{Refusal}
use Rattle.limits.specs.declared.Refusal.TheVariants.{NoSuchFeature, BadOrigin, TooLong, Sandbox, Full, Spent, Small}
use Rattle.declarations.specs.Declarations.{is_malformed}
use Rattle.containers.specs.Attributes.{Attributes}
use Rattle.document_model.specs.Model.{Text, Identity, Document, Table, find, Call, top_load, framed_load, unload, question, enabled_features, listing, forecast_of, Answer, refused, loaded, Outcome, refuse_unless, with_document, texts_fit, load, fitting_outcome, outcome, answer_in, answer_to, table_after}
use Rattle.document_model.specs.History.{LoadedIn, history}
use Rattle.document_model.specs.Claims.{AnswerFits, refused_fits, top_fits, framed_fits, unload_fits, question_fits, enabled_fits, listing_fits, forecast_fits}
use Rattle.document_model.proofs.Tables.{finds, in-find}
use Rattle.document_model.proofs.Effects.{Ends, unless-ends, with-ends, ends}
use Rattle.document_model.proofs.Invariant.{reachable, later-after, same-doc}
use Rattle.document_model.proofs.Agreement.{agrees}

-- ---- the answers' kinds, a load's with what it says of its header

-- what a load says
abbrev Says : Call → Answer → Type 0
Says (top_load h o) a = (s : ℕ) (m : Bool) → a ≡ loaded s m → m ≡ is_malformed h
Says (framed_load c h o b) a = (s : ℕ) (m : Bool) → a ≡ loaded s m → m ≡ is_malformed h
Says (unload s) a = Unit {0}
Says (question s f o) a = Unit {0}
Says (enabled_features s) a = Unit {0}
Says (listing s run) a = Unit {0}
Says (forecast_of c b) a = Unit {0}

record Right (c : Call) (a : Answer) : Type 0 where
  fits : AnswerFits c a
  says : Says c a

refused_says : (c : Call) (n : ℕ) → Says c (refused n)
refused_says (top_load h o) n = λ s m e. clash cc
refused_says (framed_load c h o b) n = λ s m e. clash cc
refused_says (unload s) n = tt
refused_says (question s f o) n = tt
refused_says (enabled_features s) n = tt
refused_says (listing s run) n = tt
refused_says (forecast_of c b) n = tt

refused-right : (c : Call) (n : ℕ) → Right c (refused n)
refused-right c n = record { fits = refused_fits; says = refused_says c n }

load-right : (c : Call) (t : Table) (b : Bool) (make : Identity → Document) (identity : ℕ → Identity) → ((s : ℕ) → Right c (loaded s b)) → Ends (λ a u. Right c a) t (load t b make identity)
unfolding load
load-right c t b make identity f =
    unless-ends (λ a u. Right c a) t Full _ _ (refused-right c) λ _. unless-ends (λ a u. Right c a) t Spent _ _ (refused-right c) λ _. f t.next

fitting-right : (c : Call) (t : Table) → Ends (λ a u. Right c a) t (fitting_outcome c t)
unfolding fitting_outcome
fitting-right (top_load h o) t =
    let c : Call = top_load h o in
    unless-ends (λ a u. Right c a) t BadOrigin _ _ (refused-right c) λ _. load-right c t _ _ _ (λ s. record { fits = top_fits; says = λ s m e. cc })
fitting-right (framed_load k h o b) t =
    let c : Call = framed_load k h o b in
    let r = refused-right c in
    unless-ends (λ a u. Right c a) t BadOrigin _ _ r λ _. unless-ends (λ a u. Right c a) t BadOrigin _ _ r λ _.
    with-ends (λ a u. Right c a) t k t.docs (find k t.docs) (finds k t.docs) _ r λ d m e.
    unless-ends (λ a u. Right c a) t Sandbox _ _ r λ _. load-right c t _ _ _ (λ s. record { fits = framed_fits; says = λ s m e. cc })
fitting-right (unload s) t =
    with-ends (λ a u. Right (unload s) a) t s t.docs (find s t.docs) (finds s t.docs) _ (refused-right (unload s)) λ d m e. record { fits = unload_fits; says = tt }
fitting-right (question s f o) t =
    let c : Call = question s f o in
    let r = refused-right c in
    unless-ends (λ a u. Right c a) t BadOrigin _ _ r λ _. unless-ends (λ a u. Right c a) t NoSuchFeature _ _ r λ _.
    with-ends (λ a u. Right c a) t s t.docs (find s t.docs) (finds s t.docs) _ r λ d m e. record { fits = question_fits; says = tt }
fitting-right (enabled_features s) t =
    with-ends (λ a u. Right (enabled_features s) a) t s t.docs (find s t.docs) (finds s t.docs) _ (refused-right (enabled_features s)) λ d m e. record { fits = enabled_fits; says = tt }
fitting-right (listing s run) t =
    let c : Call = listing s run in
    let r = refused-right c in
    with-ends (λ a u. Right c a) t s t.docs (find s t.docs) (finds s t.docs) _ r λ d m e.
    unless-ends (λ a u. Right c a) t Small _ _ r λ _. record { fits = listing_fits; says = tt }
fitting-right (forecast_of k b) t =
    let c : Call = forecast_of k b in
    let r = refused-right c in
    unless-ends (λ a u. Right c a) t BadOrigin _ _ r λ _.
    with-ends (λ a u. Right c a) t k t.docs (find k t.docs) (finds k t.docs) _ r λ d m e. record { fits = forecast_fits; says = tt }

outcome-right : (c : Call) (t : Table) → Ends (λ a u. Right c a) t (outcome c t)
unfolding outcome
outcome-right c t = unless-ends (λ a u. Right c a) t TooLong (texts_fit c) (fitting_outcome c t) (refused-right c) (λ _. fitting-right c t)

answer-right : (c : Call) (t : Table) → Right c (answer_to c t)
unfolding answer_to
answer-right c t = ends (λ a u. Right c a) t (outcome c t) (outcome-right c t)

pub answer_fits : (c : Call) (t : Table) → AnswerFits c (answer_to c t)
answer_fits c t = (answer-right c t).fits

pub top_says : (h o : Text) (t : Table) (s : ℕ) (m : Bool) → answer_to (top_load h o) t ≡ loaded s m → m ≡ is_malformed h
top_says h o t = (answer-right (top_load h o) t).says

pub framed_says : (c : ℕ) (h o : Text) (a : Attributes) (t : Table) (s : ℕ) (m : Bool) → answer_to (framed_load c h o a) t ≡ loaded s m → m ≡ is_malformed h
framed_says c h o a t = (answer-right (framed_load c h o a) t).says

-- ---- policies are settled at load

-- the serial of a loaded document finds one
loaded_found : (cs : List Call) (s : ℕ) → LoadedIn (history cs) s → (x : Document) × (find s (table_after cs).docs ≡ Some x)
loaded_found cs s l =
    let w = (agrees cs).is_there s l in
    (w.0, subst (λ (k : ℕ). find k (table_after cs).docs ≡ Some w.0) w.2 (in-find 1 (table_after cs).docs (table_after cs).next (reachable cs).rising w.0 w.1))

-- and after further calls the same
found-again : (cs ds : List Call) (s : ℕ) → LoadedIn (history cs) s → LoadedIn (history (cs ++ ds)) s → find s (table_after (cs ++ ds)).docs ≡ find s (table_after cs).docs
found-again cs ds s l m =
    let x = loaded_found cs s l in
    let y = loaded_found (cs ++ ds) s m in
    y.1 ∙ ap Some (sym (same-doc (table_after cs) (table_after (cs ++ ds)) (reachable cs) (later-after cs ds) s x.0 y.0 x.1 y.1)) ∙ sym x.1

-- answers of tests and of what is found
unless-same : (n : Refusal) (b : Bool) (j k : Outcome) → answer_in j ≡ answer_in k → answer_in (refuse_unless n b j) ≡ answer_in (refuse_unless n b k)
unfolding refuse_unless
unless-same n true j k e = e
unless-same n false j k e = refl

with-same : (o p : Option Document) (j k : Document → Outcome) → o ≡ p → ((d : Document) → answer_in (j d) ≡ answer_in (k d)) → answer_in (with_document o j) ≡ answer_in (with_document p k)
unfolding with_document
with-same None None j k e f = refl
with-same None (Some d) j k e f = clash cc
with-same (Some d) None j k e f = clash cc
with-same (Some c) (Some d) j k e f = let z : c ≡ d = cc in f c ∙ ap (λ (x : Document). answer_in (k x)) z

module _ (s : ℕ) (t u : Table) (e : find s u.docs ≡ find s t.docs) where
  question-same : (f : ℕ) (o : Text) → answer_to (question s f o) u ≡ answer_to (question s f o) t
  unfolding answer_to outcome fitting_outcome
  question-same f o =
      unless-same TooLong _ _ _ (unless-same BadOrigin _ _ _ (unless-same NoSuchFeature _ _ _ (with-same (find s u.docs) (find s t.docs) _ _ e (λ d. refl))))

  enabled-same : answer_to (enabled_features s) u ≡ answer_to (enabled_features s) t
  unfolding answer_to outcome fitting_outcome
  enabled-same = unless-same TooLong _ _ _ (with-same (find s u.docs) (find s t.docs) _ _ e (λ d. refl))

  forecast-same : (a : Attributes) → answer_to (forecast_of s a) u ≡ answer_to (forecast_of s a) t
  unfolding answer_to outcome fitting_outcome
  forecast-same a = unless-same TooLong _ _ _ (unless-same BadOrigin _ _ _ (with-same (find s u.docs) (find s t.docs) _ _ e (λ d. refl)))

module _ (cs ds : List Call) (s : ℕ) (l : LoadedIn (history cs) s) (m : LoadedIn (history (cs ++ ds)) s) where
  pub question_settled : (f : ℕ) (o : Text) → answer_to (question s f o) (table_after (cs ++ ds)) ≡ answer_to (question s f o) (table_after cs)
  question_settled = question-same s (table_after cs) (table_after (cs ++ ds)) (found-again cs ds s l m)

  pub enabled_settled : answer_to (enabled_features s) (table_after (cs ++ ds)) ≡ answer_to (enabled_features s) (table_after cs)
  enabled_settled = enabled-same s (table_after cs) (table_after (cs ++ ds)) (found-again cs ds s l m)

  pub forecast_settled : (a : Attributes) → answer_to (forecast_of s a) (table_after (cs ++ ds)) ≡ answer_to (forecast_of s a) (table_after cs)
  forecast_settled = forecast-same s (table_after cs) (table_after (cs ++ ds)) (found-again cs ds s l m)
