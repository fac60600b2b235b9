-- Claim 4: a frame's document that arrives at the declared origin inherits what was forecast, and with an empty header has that enabled; an opaque origin of its own inherits as a fresh one. Assumes nothing.
use mathlib.Core.Path.{◌≡◌, refl, sym, ap, subst, ◌∙◌}
use Prim.Native.Nat.{ℕ, zero, suc, ◌^◌, ◌≤◌, ◌<◌}
use native.Mathlib.Omega.{arith}
use mathlib.Core.Bool.{Bool, true, false, not, ◌||◌}
use Rattle.std.specs.Prelude.{Option, None, Some}
use mathlib.Core.List.{List, [], ◌∷◌, ◌++◌}
use lib.Dec.{ltb, lt→ltb}
use lib.ListN.{get_or}
use Rattle.ascii.proofs.Clash.{clash}
use Rattle.limits.specs.Refusals.{refusal_number}
use Rattle.limits.specs.declared.Refusal.{Refusal}
use Rattle.limits.specs.declared.Refusal.TheVariants.{BadOrigin, TooLong, Sandbox, Full, Spent}
use Rattle.features.specs.Features.{feature_count}
use Rattle.origins.specs.Origins.{Origin, OriginSaid, origin_of, null_text}
use Rattle.origins.specs.Origins.Origin.{opaque, fresh}
use Rattle.origins.specs.Origins.OriginSaid.{says_empty, says_null, says_tuple, no_origin}
use Rattle.origins.specs.Matching.{same_origin}
use Rattle.origins.proofs.Laws.{text-null, text-empty}
use Rattle.declarations.specs.Declarations.{declares, is_malformed}
use Rattle.declarations.proofs.Laws.{empty-declares}
use Rattle.containers.specs.Attributes.{Attributes}
use Rattle.containers.specs.Sandboxes.{is_sandboxed, declared_origin}
use Rattle.containers.proofs.Laws.{declared-fresh, declared-empty, declared-null, declared-tuple}
use Rattle.decisions.specs.Decisions.Decision.{disabled}
use Rattle.decisions.specs.Masks.{decision_at}
use Rattle.decisions.specs.Policies.{Policy, Frame, question_in, inherited_in, enabled_mask, forecast}
use Rattle.decisions.proofs.Laws.{inherited-as-fresh, mask-back, mask-below, enabled-at, enabled-past, enabled-undeclared, forecast-is, forecast-past}
use Rattle.document_model.specs.Runs.{left_by}
use Rattle.document_model.specs.Model.{Text, is_good_origin, is_null, arrives_at, Identity, Document, values_from, declared_by, policy_of, frame_sandboxed, frame_declared, frame_of, or_fresh, Table, find, Call, framed_load, question, enabled_features, forecast_of, Answer, refused, loaded, decision, features, Outcome, accept, refuse_unless, with_document, texts_fit, load, framed_identity, framed_document, fitting_outcome, outcome, answer_in, answer_to, table_left, table_after}
use Rattle.document_model.specs.Answering.{the_model}
use Rattle.document_model.specs.Claims.{is_accepted, AtDeclared, as_src, as_null}
use Rattle.document_model.proofs.Booleans.{is_true, not-either}
use Rattle.document_model.proofs.OriginTexts.{good-not}
use Rattle.document_model.proofs.Tables.{in-last, find-some, in-find}
use Rattle.document_model.proofs.Effects.{table-append}
use Rattle.document_model.proofs.Invariant.{Invariant, reachable, call_next}

-- `AtDeclared` on a table
pub data DeclaredText (t : Table) (c : ℕ) (a : Attributes) : Text → Type 0 where
  src_text : DeclaredText t c a a.src
  null-text : answer_to (framed_load c [] a.src a) t ≡ refused 5 → DeclaredText t c a null_text

declared-text : {cs : List Call} {c : ℕ} {a : Attributes} {o : Text} → AtDeclared the_model cs c a o → DeclaredText (table_after cs) c a o
declared-text as_src = src_text
declared-text (as_null e) = null-text e

-- the arriving origin is the declared one; or that is fresh and an opaque origin of its own arrives
data Meets (own : Origin) : Origin → Origin → Type 0 where
  at_it : {o : Origin} → Meets own o o
  apart : {k : ℕ} → same_origin own (opaque k) ≡ false → Meets own fresh (opaque k)

inherited-meets : (p : Policy) (f : Frame) (declared arriving : Origin) → f.declared ≡ declared → Meets p.own declared arriving → (n : ℕ) → inherited_in p f arriving n ≡ inherited_in p f f.declared n
inherited-meets p f declared arriving e at_it n = rw e refl
inherited-meets p f declared arriving e (apart {k} h) n = inherited-as-fresh p f k e h n ∙ (rw e refl)

module _ (above : Bool) (a : Attributes) (o : Origin) (n : ℕ) (good : is_good_origin (origin_of a.src) ≡ true) (far : same_origin o (opaque n) ≡ false) where
  src-meets : is_sandboxed above a ≡ false → Meets o (or_fresh (declared_origin above a o)) (arrives_at (origin_of a.src) o n)
  src-meets e = by-src (origin_of a.src) refl
    where
      by-src : (said : OriginSaid) → origin_of a.src ≡ said → Meets o (or_fresh (declared_origin above a o)) (arrives_at (origin_of a.src) o n)
      by-src says_empty k = rw (declared-empty above a o e k, k) at_it
      by-src says_null k = rw (declared-null above a o e k, k) (apart far)
      by-src (says_tuple x) k = rw (declared-tuple above a o e x k, k) at_it
      by-src no_origin k = absurd (good-not (origin_of a.src) good k)

  sandboxed-meets : is_sandboxed above a ≡ true → Meets o (or_fresh (declared_origin above a o)) (opaque n)
  sandboxed-meets e = rw (declared-fresh above a o (good-not (origin_of a.src) good) e) (apart far)

-- ---- what an accepted call shows

unless-passed : (n : Refusal) (b : Bool) (k : Outcome) → is_accepted (answer_in (refuse_unless n b k)) ≡ true → (b ≡ true) × (refuse_unless n b k ≡ k)
unfolding refuse_unless
unless-passed n true k e = (refl, refl)
unless-passed n false k e = clash cc

with-passed : (o : Option Document) (k : Document → Outcome) → is_accepted (answer_in (with_document o k)) ≡ true → (d : Document) × (o ≡ Some d) × (with_document o k ≡ k d)
unfolding with_document
with-passed None k e = clash cc
with-passed (Some d) k e = (d, refl, refl)

-- a refusal that is another one comes later
unless-other : (n : Refusal) (m : ℕ) (b : Bool) (k : Outcome) → (refusal_number n ≡ m → ⊥) → answer_in (refuse_unless n b k) ≡ refused m → answer_in k ≡ refused m
unfolding refuse_unless
unless-other n m true k h e = e
unless-other n m false k h e = absurd (h (cc))

unless-this : (n : Refusal) (b : Bool) (k : Outcome) → (answer_in k ≡ refused (refusal_number n) → ⊥) → answer_in (refuse_unless n b k) ≡ refused (refusal_number n) → b ≡ false
unfolding refuse_unless
unless-this n true k h e = absurd (h e)
unless-this n false k h e = refl

-- an accepted framed load
pub record AcceptedFramed (t : Table) (c : ℕ) (h o : Text) (a : Attributes) : Type 0 where
  pub doc : Document
  pub is : find c t.docs ≡ Some doc
  pub good_src : is_good_origin (origin_of a.src) ≡ true
  pub free : not (frame_sandboxed doc.identity a) || is_null (origin_of o) ≡ true
  pub steps : outcome (framed_load c h o a) t ≡ accept (loaded t.next (is_malformed h)) (record { docs = t.docs ++ (framed_document doc h a (framed_identity doc.identity a (origin_of o) t.next) ∷ []); next = suc t.next })

load-passed : (t : Table) (b : Bool) (make : Identity → Document) (identity : ℕ → Identity) → is_accepted (answer_in (load t b make identity)) ≡ true →
    load t b make identity ≡ accept (loaded t.next b) (record { docs = t.docs ++ (make (identity t.next) ∷ []); next = suc t.next })
unfolding load
load-passed t b make identity e =
    let p = unless-passed Full _ _ e in
    let q = unless-passed Spent _ _ (rw p.1 at e) in
    p.1 ∙ q.1

pub accepted-framed : (t : Table) (c : ℕ) (h o : Text) (a : Attributes) → is_accepted (answer_to (framed_load c h o a) t) ≡ true → AcceptedFramed t c h o a
unfolding answer_to outcome fitting_outcome
accepted-framed t c h o a e =
    let p1 = unless-passed TooLong _ _ e in
    let e1 = rw p1.1 at e in
    let p2 = unless-passed BadOrigin _ _ e1 in
    let e2 = rw p2.1 at e1 in
    let p3 = unless-passed BadOrigin _ _ e2 in
    let e3 = rw p3.1 at e2 in
    let w = with-passed (find c t.docs) _ e3 in
    let e4 = rw w.2 at e3 in
    let p4 = unless-passed Sandbox _ _ e4 in
    let e5 = rw p4.1 at e4 in
    record { doc = w.0; is = w.1; good_src = p3.0; free = p4.0; steps = p1.1 ∙ p2.1 ∙ p3.1 ∙ w.2 ∙ p4.1 ∙ load-passed t (is_malformed h) _ _ e5 }

-- an accepted forecast
pub record AcceptedForecast (t : Table) (c : ℕ) (a : Attributes) : Type 0 where
  pub doc : Document
  pub is : find c t.docs ≡ Some doc
  pub steps : outcome (forecast_of c a) t ≡ accept (features (forecast (policy_of doc) (frame_of doc.identity a))) t

pub accepted-forecast : (t : Table) (c : ℕ) (a : Attributes) → is_accepted (answer_to (forecast_of c a) t) ≡ true → AcceptedForecast t c a
unfolding answer_to outcome fitting_outcome
accepted-forecast t c a e =
    let p1 = unless-passed TooLong _ _ e in
    let e1 = rw p1.1 at e in
    let p2 = unless-passed BadOrigin _ _ e1 in
    let e2 = rw p2.1 at e1 in
    let w = with-passed (find c t.docs) _ e2 in
    record { doc = w.0; is = w.1; steps = p1.1 ∙ p2.1 ∙ w.2 }

-- past the row of 5 a load isn't refused with 5
load-free : (t : Table) (b : Bool) (make : Identity → Document) (identity : ℕ → Identity) → answer_in (load t b make identity) ≡ refused 5 → ⊥
unfolding load
load-free t b make identity e =
    let q = unless-other Spent 5 _ _ (λ z. absurd (omega arith)) (unless-other Full 5 _ _ (λ z. absurd (omega arith)) e) in
    clash cc

refused-sandboxed : (t : Table) (c : ℕ) (h o : Text) (a : Attributes) (d : Document) → find c t.docs ≡ Some d → answer_to (framed_load c h o a) t ≡ refused 5 → frame_sandboxed d.identity a ≡ true
unfolding answer_to outcome fitting_outcome with_document
refused-sandboxed t c h o a d p e =
    let q = unless-other BadOrigin 5 _ _ (λ z. absurd (omega arith)) (unless-other BadOrigin 5 _ _ (λ z. absurd (omega arith)) (unless-other TooLong 5 _ _ (λ z. absurd (omega arith)) e)) in
    (not-either (frame_sandboxed d.identity a) (is_null (origin_of o)) (unless-this Sandbox _ _ (load-free t _ _ _) (rw p at q))).0

-- the number that a document inherits in a frame whose declared origin it arrives at is the forecast
free-cases : (b : Bool) (said : OriginSaid) → not b || is_null said ≡ true → (X : Type 0) → (b ≡ false → X) → (b ≡ true → said ≡ says_null → X) → X
free-cases false said e X f g = f refl
free-cases true says_empty e X f g = clash cc
free-cases true says_null e X f g = g refl refl
free-cases true (says_tuple o) e X f g = clash cc
free-cases true no_origin e X f g = clash cc

arrives-meets : (t : Table) → Invariant t → (c : ℕ) (h o : Text) (a : Attributes) (w : AcceptedFramed t c h o a) → DeclaredText t c a o → Meets w.doc.identity.origin (frame_declared w.doc.identity a) (arrives_at (origin_of o) w.doc.identity.origin t.next)
unfolding frame_declared frame_sandboxed
arrives-meets t i c h o a w src_text =
    let d = w.doc in
    let far : same_origin d.identity.origin (opaque t.next) ≡ false = i.apart d (find-some c t.docs d w.is).0 t.next (omega arith) in
    free-cases (is_sandboxed d.identity.sandboxed a) (origin_of a.src) w.free (Meets d.identity.origin (or_fresh (declared_origin d.identity.sandboxed a d.identity.origin)) (arrives_at (origin_of a.src) d.identity.origin t.next))
    (λ e. src-meets d.identity.sandboxed a d.identity.origin t.next w.good_src far e)
    (λ e z. subst (λ (said : OriginSaid). Meets d.identity.origin (or_fresh (declared_origin d.identity.sandboxed a d.identity.origin)) (arrives_at said d.identity.origin t.next)) (sym z)
    (sandboxed-meets d.identity.sandboxed a d.identity.origin t.next w.good_src far e))
arrives-meets t i c h o a w (null-text e) =
    let d = w.doc in
    let far : same_origin d.identity.origin (opaque t.next) ≡ false = i.apart d (find-some c t.docs d w.is).0 t.next (omega arith) in
    subst (λ (said : OriginSaid). Meets d.identity.origin (or_fresh (declared_origin d.identity.sandboxed a d.identity.origin)) (arrives_at said d.identity.origin t.next)) (sym text-null)
    (sandboxed-meets d.identity.sandboxed a d.identity.origin t.next w.good_src far (refused-sandboxed t c [] a.src a d w.is e))

pub inherits-forecast : (t : Table) → Invariant t → (c : ℕ) (h o : Text) (a : Attributes) (w : AcceptedFramed t c h o a) → DeclaredText t c a o →
    (framed_document w.doc h a (framed_identity w.doc.identity a (origin_of o) t.next)).inherited ≡ forecast (policy_of w.doc) (frame_of w.doc.identity a)
unfolding framed_document framed_identity
inherits-forecast t i c h o a w at =
    let p = policy_of w.doc in
    let f = frame_of w.doc.identity a in
    forecast-is p f (inherited_in p f (arrives_at (origin_of o) w.doc.identity.origin t.next))
    (λ n l. inherited-meets p f f.declared (arrives_at (origin_of o) w.doc.identity.origin t.next) refl (arrives-meets t i c h o a w at) n)

-- ---- a document with an empty header has what it inherits

undeclared : (i k n : ℕ) → get_or (values_from (declares []) i k) n None ≡ None
unfolding values_from
undeclared i zero n = refl
undeclared i (suc k) zero = empty-declares i
undeclared i (suc k) (suc n) = undeclared (suc i) k n

empty-enabled : (x : Document) → x.declared ≡ declared_by [] → same_origin x.identity.origin x.identity.origin ≡ true → x.inherited < 2 ^ feature_count → enabled_mask (policy_of x) ≡ x.inherited
unfolding declared_by
empty-enabled x e s l = enabled-undeclared (policy_of x) s (λ n. rw e (undeclared 0 feature_count n)) ∙ mask-back x.inherited l

answers-enabled : (t : Table) (s : ℕ) (x : Document) → find s t.docs ≡ Some x → answer_to (enabled_features s) t ≡ features (enabled_mask (policy_of x))
unfolding answer_to outcome fitting_outcome refuse_unless texts_fit with_document
answers-enabled t s x e = rw e refl

forecast-keeps : (t : Table) (c : ℕ) (a : Attributes) (m : ℕ) → answer_to (forecast_of c a) t ≡ features m → table_left (forecast_of c a) t ≡ t
unfolding table_left
forecast-keeps t c a m e = let w = accepted-forecast t c a (rw e refl) in rw w.steps refl

forecast-found : (t : Table) (c : ℕ) (a : Attributes) (m : ℕ) (d : Document) → find c t.docs ≡ Some d → answer_to (forecast_of c a) t ≡ features m → m ≡ forecast (policy_of d) (frame_of d.identity a)
unfolding answer_to
forecast-found t c a m d p e =
    let w = accepted-forecast t c a (unfold answer_to in (rw e refl)) in
    let z : w.doc ≡ d = cc in
    let q : features m ≡ features (forecast (policy_of w.doc) (frame_of w.doc.identity a)) = sym e ∙ ap answer_in w.steps in
    let r : m ≡ forecast (policy_of w.doc) (frame_of w.doc.identity a) = cc in
    r ∙ ap (λ (x : Document). forecast (policy_of x) (frame_of x.identity a)) z

-- what an accepted call answers and leaves
outcome-leaves : (c : Call) (t u : Table) (a : Answer) → outcome c t ≡ accept a u → table_left c t ≡ u
unfolding table_left
outcome-leaves c t u a e = rw e refl

outcome-answers : (c : Call) (t u : Table) (a : Answer) → outcome c t ≡ accept a u → answer_to c t ≡ a
unfolding answer_to
outcome-answers c t u a e = rw e refl

-- the document of an accepted framed load, in the table that it leaves
pub record Arrived (u : Table) (h : Text) (s m : ℕ) : Type 0 where
  pub doc : Document
  pub is : find s u.docs ≡ Some doc
  pub inherits : doc.inherited ≡ m
  pub small : doc.inherited < 2 ^ feature_count
  pub declares : doc.declared ≡ declared_by h
  pub equals_itself : same_origin doc.identity.origin doc.identity.origin ≡ true

framed-serial : (d : Document) (h : Text) (a : Attributes) (said : OriginSaid) (n : ℕ) → (framed_document d h a (framed_identity d.identity a said n)).identity.serial ≡ n
unfolding framed_document framed_identity
framed-serial d h a said n = refl

framed-declares : (d : Document) (h : Text) (a : Attributes) (w : Identity) → (framed_document d h a w).declared ≡ declared_by h
unfolding framed_document
framed-declares d h a w = refl

framed-small : (d : Document) (h : Text) (a : Attributes) (w : Identity) → (framed_document d h a w).inherited < 2 ^ feature_count
unfolding framed_document
framed-small d h a w = mask-below (inherited_in (policy_of d) (frame_of d.identity a) w.origin)

arrived : (t : Table) → Invariant t → (c : ℕ) (h o : Text) (a : Attributes) (m s : ℕ) (bad : Bool) → answer_to (forecast_of c a) t ≡ features m → DeclaredText t c a o → answer_to (framed_load c h o a) t ≡ loaded s bad → Arrived (table_left (framed_load c h o a) t) h s m
arrived t i c h o a m s bad e at l =
    let w = accepted-framed t c h o a (rw l refl) in
    let x : Document = framed_document w.doc h a (framed_identity w.doc.identity a (origin_of o) t.next) in
    let v : Table = record { docs = t.docs ++ (x ∷ []); next = suc t.next } in
    let u : table_left (framed_load c h o a) t ≡ v = outcome-leaves (framed_load c h o a) t v (loaded t.next (is_malformed h)) w.steps in
    let k : loaded s bad ≡ loaded t.next (is_malformed h) = sym l ∙ outcome-answers (framed_load c h o a) t v (loaded t.next (is_malformed h)) w.steps in
    let n : t.next ≡ s = cc in
    let j : Invariant v = subst Invariant u (call_next (framed_load c h o a) t i).inv in
    let f : find x.identity.serial (t.docs ++ (x ∷ [])) ≡ Some x = in-find 1 (t.docs ++ (x ∷ [])) (suc t.next) j.rising x (in-last t.docs x) in
    let sx : x.identity.serial ≡ s = framed-serial w.doc h a (origin_of o) t.next ∙ n in
    record {
      doc = x;
      is = subst (λ (z : Table). find s z.docs ≡ Some x) (sym u) (subst (λ (z : ℕ). find z (t.docs ++ (x ∷ [])) ≡ Some x) sx f);
      inherits = inherits-forecast t i c h o a w at ∙ sym (forecast-found t c a m w.doc w.is e);
      small = framed-small w.doc h a (framed_identity w.doc.identity a (origin_of o) t.next);
      declares = framed-declares w.doc h a (framed_identity w.doc.identity a (origin_of o) t.next);
      equals_itself = j.equals_itself x (in-last t.docs x);
    }

-- "A forecast comes true": a forecast is accepted after the calls cs; then a framed load right after it, with the same container and attributes and an empty header,
-- at the declared origin, that is accepted has exactly the forecast's features enabled
pub forecast-comes-true : (cs : List Call) (c : ℕ) (o : Text) (a : Attributes) (m s : ℕ) (bad : Bool) →
    answer_to (forecast_of c a) (table_after cs) ≡ features m →
    AtDeclared the_model cs c a o →
    answer_to (framed_load c [] o a) (table_after (cs ++ (forecast_of c a ∷ []))) ≡ loaded s bad →
    answer_to (enabled_features s) (table_after (cs ++ (forecast_of c a ∷ framed_load c [] o a ∷ []))) ≡ features m
unfolding left_by
forecast-comes-true cs c o a m s bad e at l =
    let t = table_after cs in
    let same : table_left (forecast_of c a) t ≡ t = forecast-keeps t c a m e in
    let first : table_after (cs ++ (forecast_of c a ∷ [])) ≡ t = table-append cs (forecast_of c a ∷ []) ∙ same in
    let both : table_after (cs ++ (forecast_of c a ∷ framed_load c [] o a ∷ [])) ≡ table_left (framed_load c [] o a) t = table-append cs (forecast_of c a ∷ framed_load c [] o a ∷ []) ∙ ap (table_left (framed_load c [] o a)) same in
    let w = arrived t (reachable cs) c [] o a m s bad e (declared-text at) (rw first at l) in
    rw both (answers-enabled (table_left (framed_load c [] o a) t) s w.doc w.is ∙ ap features (empty-enabled w.doc w.declares w.equals_itself w.small ∙ w.inherits))

-- no other bit of a forecast is set
pub forecast_bits : (cs : List Call) (c : ℕ) (a : Attributes) (m n : ℕ) → answer_to (forecast_of c a) (table_after cs) ≡ features m → feature_count ≤ n → decision_at m n ≡ disabled
forecast_bits cs c a m n e l =
    let w = accepted-forecast (table_after cs) c a (rw e refl) in
    let q : m ≡ forecast (policy_of w.doc) (frame_of w.doc.identity a) = forecast-found (table_after cs) c a m w.doc w.is e in
    ap (λ (k : ℕ). decision_at k n) q ∙ forecast-past (policy_of w.doc) (frame_of w.doc.identity a) n l

-- an accepted number of enabled features
enabled-found : (t : Table) (s m : ℕ) (o : Option Document) → find s t.docs ≡ o → answer_in (with_document o λ d. accept (features (enabled_mask (policy_of d))) t) ≡ features m → (d : Document) × (find s t.docs ≡ Some d) × (m ≡ enabled_mask (policy_of d))
unfolding with_document
enabled-found t s m None p q = clash cc
enabled-found t s m (Some d) p q = (d, p, cc)

enabled-in : (t : Table) (s m : ℕ) → answer_to (enabled_features s) t ≡ features m → (d : Document) × (find s t.docs ≡ Some d) × (m ≡ enabled_mask (policy_of d))
unfolding answer_to outcome fitting_outcome refuse_unless texts_fit
enabled-in t s m e = enabled-found t s m (find s t.docs) refl e

own-question : (t : Table) (s n : ℕ) (d : Document) → ltb n feature_count ≡ true → find s t.docs ≡ Some d → answer_to (question s n []) t ≡ decision (question_in (policy_of d) n d.identity.origin)
unfolding answer_to outcome fitting_outcome refuse_unless texts_fit with_document
own-question t s n d l e = rw (text-empty, l, e) refl

-- bit n of the number of enabled features is the answer to the question for n at the own origin
pub bit_answers : (cs : List Call) (s m n : ℕ) → answer_to (enabled_features s) (table_after cs) ≡ features m → n < feature_count → answer_to (question s n []) (table_after cs) ≡ decision (decision_at m n)
bit_answers cs s m n e l =
    let w = enabled-in (table_after cs) s m e in
    own-question (table_after cs) s n w.0 (is_true (ltb n feature_count) (lt→ltb n feature_count l)) w.1
    ∙ ap decision (sym (enabled-at (policy_of w.0) n l) ∙ ap (λ (k : ℕ). decision_at k n) (sym w.2))

-- and no other bit is set
pub no_other_bit : (cs : List Call) (s m n : ℕ) → answer_to (enabled_features s) (table_after cs) ≡ features m → feature_count ≤ n → decision_at m n ≡ disabled
no_other_bit cs s m n e l =
    let w = enabled-in (table_after cs) s m e in
    ap (λ (k : ℕ). decision_at k n) w.2 ∙ enabled-past (policy_of w.0) n l
