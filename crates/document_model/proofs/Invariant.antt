-- What holds of every table that calls leave: serials rise, a container is there and older, and hands on what it is Disabled for. So Disabled flows down in a table. Assumes nothing.
use mathlib.Core.Path.{◌≡◌, refl, sym, subst, ◌∙◌}
use Prim.Native.Nat.{ℕ, suc, ◌≤◌, ◌<◌}
use native.Mathlib.Omega.{arith}
use mathlib.Core.Bool.{Bool, true, false}
use Rattle.std.specs.Prelude.{Option, None, Some}
use mathlib.Core.List.{List, [], ◌∷◌, ◌++◌}
use lib.Dec.{T, ltb, eqb, eqb→eq}
use lib.ListN.{length, length-append}
use Rattle.ascii.proofs.Clash.{clash}
use Rattle.limits.specs.Limits.{document_limit, last_serial}
use Rattle.limits.specs.declared.Refusal.TheVariants.{NoSuchFeature}
use Rattle.features.specs.Features.{feature_count}
use Rattle.origins.specs.Origins.{OriginSaid, origin_of}
use Rattle.origins.specs.Origins.Origin.{opaque}
use Rattle.origins.specs.Matching.{same_origin}
use Rattle.origins.proofs.Laws.{opaque-self, text-empty}
use Rattle.decisions.specs.Decisions.Decision.{disabled}
use Rattle.decisions.specs.Masks.{decision_at}
use Rattle.decisions.specs.Policies.{question_in, inherited_in}
use Rattle.decisions.proofs.Laws.{question-below, disabled-question, mask-disabled}
use Rattle.document_model.specs.Runs.{left_by}
use Rattle.containers.specs.Attributes.{Attributes}
use Rattle.document_model.specs.Model.{Text, is_good_origin, arrives_at, asked_at, Document, policy_of, frame_of, Table, new_table, elem, is_at_or_beneath, find, remaining, Call, question, Answer, decision, Outcome, accept, refuse_unless, with_document, texts_fit, top_identity, framed_identity, top_document, framed_document, fitting_outcome, outcome, answer_in, answer_to, table_left, table_after}
use Rattle.document_model.proofs.Booleans.{or_cases}
use Rattle.document_model.proofs.OriginTexts.{arrives-apart, arrives-itself, empty-good, other-opaque}
use Rattle.document_model.proofs.TwoRuns.{left-append}
use Rattle.document_model.proofs.Effects.{pushed, Effect, nothing_else, top_loaded, frame_loaded, all_removed, effect}
use Rattle.document_model.proofs.Tables.{In, in_left, in-push, in-remaining, remaining-in, Rising, rising-push, rising-remaining, rising-below, rising-one, find-some, in-find, count, container-stays}

-- ---- a later table

-- the documents with an older serial are those of the earlier one
pub record Later (t u : Table) : Type 0 where
  pub grows : t.next ≤ u.next
  pub old : (x : Document) → In x u.docs → x.identity.serial < t.next → In x t.docs

later_refl : (t : Table) → Later t t
later_refl t = record { grows = omega arith; old = λ x m h. m }

later_trans : {t u v : Table} → Later t u → Later u v → Later t v
later_trans {t} {u} a b = record { grows = omega arith; old = λ x m h. a.old x (b.old x m (omega arith)) h }

-- ---- the invariant

-- the document is at the top, or its container is there too, older, and hands on what it is Disabled for at its own origin
pub data Linked (ds : List Document) (x : Document) : Type 0 where
  at_top : x.identity.above ≡ [] → Linked ds x
  in_frame : (c : Document) → In c ds → x.identity.above ≡ c.identity.serial ∷ c.identity.above → c.identity.serial < x.identity.serial
      → ((f : ℕ) → question_in (policy_of c) f c.identity.origin ≡ disabled → decision_at x.inherited f ≡ disabled) → Linked ds x

-- the origin of a document is never fresh: it equals itself
abbrev pub EqualsItself : Document → Type 0
EqualsItself x = same_origin x.identity.origin x.identity.origin ≡ true

-- no opaque origin that a later load can be given is the document's
abbrev pub Apart : ℕ → Document → Type 0
Apart n x = (k : ℕ) → n ≤ k → same_origin x.identity.origin (opaque k) ≡ false

pub record Invariant (t : Table) : Type 0 where
  pub rising : Rising 1 t.docs t.next
  pub linked : (x : Document) → In x t.docs → Linked t.docs x
  pub equals_itself : (x : Document) → In x t.docs → EqualsItself x
  pub apart : (x : Document) → In x t.docs → Apart t.next x
  pub few : length t.docs ≤ document_limit
  pub unspent : t.next ≤ suc last_serial

pub record Next (t u : Table) : Type 0 where
  pub inv : Invariant u
  pub later : Later t u

next-refl : (t : Table) → Invariant t → Next t t
next-refl t i = record { inv = i; later = later_refl t }

linked-left : {ds : List Document} {x : Document} (es : List Document) → Linked ds x → Linked (ds ++ es) x
linked-left es (at_top e) = at_top e
linked-left es (in_frame c m e l h) = in_frame c (in_left es m) e l h

push-next : (t : Table) → Invariant t → (y : Document) → y.identity.serial ≡ t.next → Linked t.docs y → EqualsItself y → Apart (suc t.next) y → length t.docs < document_limit → t.next ≤ last_serial → Next t (record { docs = t.docs ++ (y ∷ []); next = suc t.next })
push-next t i y e l o v p q = record {
  inv = record {
    rising = rw (← e) (rising-push 1 t.docs y (rw e i.rising));
    linked = in-push (λ x. Linked (t.docs ++ (y ∷ [])) x) t.docs y (λ x m. linked-left (y ∷ []) (i.linked x m)) (linked-left (y ∷ []) l);
    equals_itself = in-push EqualsItself t.docs y (λ x m. i.equals_itself x m) o;
    apart = in-push (Apart (suc t.next)) t.docs y (λ x m k le. i.apart x m k (omega arith)) v;
    few = simp length-append (omega arith);
    unspent = omega arith;
  };
  later = record {
    grows = omega arith;
    old = in-push (λ x. x.identity.serial < t.next → In x t.docs) t.docs y (λ x m h. m) (λ h. absurd (omega arith));
  };
}

linked-remaining : (s : ℕ) (ds : List Document) (x : Document) → is_at_or_beneath s x.identity ≡ false → Linked ds x → Linked (remaining s ds) x
linked-remaining s ds x h (at_top e) = at_top e
linked-remaining s ds x h (in_frame c m e l v) = in_frame c (remaining-in s m (container-stays s x c e h)) e l v

unload-next : (t : Table) → Invariant t → (s : ℕ) → Next t (record { docs = remaining s t.docs; next = t.next })
unload-next t i s = record {
  inv = record {
    rising = rising-remaining s 1 t.docs t.next i.rising;
    linked = λ x m. linked-remaining s t.docs x (in-remaining s t.docs x m).safe (i.linked x (in-remaining s t.docs x m).was);
    equals_itself = λ x m. i.equals_itself x (in-remaining s t.docs x m).was;
    apart = λ x m. i.apart x (in-remaining s t.docs x m).was;
    few = omega (arith, i.few, count s t.docs);
    unspent = i.unspent;
  };
  later = record { grows = omega arith; old = λ x m h. (in-remaining s t.docs x m).was };
}

top-next : (t : Table) → Invariant t → (h : Text) (said : OriginSaid) → length t.docs < document_limit → t.next ≤ last_serial → Next t (pushed t (top_document h (top_identity said t.next)))
unfolding top_document top_identity
top-next t i h said p q = push-next t i (top_document h (top_identity said t.next)) refl (at_top refl) (arrives-itself said (opaque t.next) t.next (opaque-self t.next))
    (arrives-apart said (opaque t.next) t.next (λ k l. other-opaque t.next k (same_origin (opaque t.next) (opaque k)) refl l)) p q

framed-next : (t : Table) → Invariant t → (h : Text) (a : Attributes) (said : OriginSaid) (d : Document) → In d t.docs → length t.docs < document_limit → t.next ≤ last_serial →
    Next t (pushed t (framed_document d h a (framed_identity d.identity a said t.next)))
unfolding framed_document framed_identity
framed-next t i h a said d m p q =
    push-next t i (framed_document d h a (framed_identity d.identity a said t.next)) refl
    (in_frame d m refl (rising-below 1 t.docs t.next i.rising d m)
    (λ f e. mask-disabled (inherited_in (policy_of d) (frame_of d.identity a) (arrives_at said d.identity.origin t.next)) f
    (question-below (policy_of d) f (frame_of d.identity a) (arrives_at said d.identity.origin t.next) (i.equals_itself d m) e)))
    (arrives-itself said d.identity.origin t.next (i.equals_itself d m))
    (arrives-apart said d.identity.origin t.next (λ k l. i.apart d m k (omega arith))) p q

effect-next : (t u : Table) (c : Call) (a : Answer) → Invariant t → Effect t c a u → Next t u
effect-next t u c a i (nothing_else g v l r) = next-refl t i
effect-next t u c a i (top_loaded h o m p q) = top-next t i h (origin_of o) p q
effect-next t u c a i (frame_loaded k h o b m d j e p q) = framed-next t i h b (origin_of o) d j p q
effect-next t u c a i (all_removed s) = unload-next t i s

pub call_next : (c : Call) (t : Table) → Invariant t → Next t (table_left c t)
call_next c t i = effect-next t (table_left c t) c (answer_to c t) i (effect c t)

pub calls-next : (cs : List Call) (t : Table) → Invariant t → Next t (left_by table_left cs t)
unfolding left_by
calls-next [] t i = next-refl t i
calls-next (c ∷ cs) t i =
    let n = call_next c t i in
    let m = calls-next cs (table_left c t) n.inv in
    record { inv = m.inv; later = later_trans n.later m.later }

pub new-invariant : Invariant new_table
new-invariant = record { rising = omega arith; linked = λ x m. elim m [ ]; equals_itself = λ x m. elim m [ ]; apart = λ x m. elim m [ ]; few = omega arith; unspent = omega arith }

-- the invariant holds in every table that calls leave
pub reachable : (cs : List Call) → Invariant (table_after cs)
unfolding table_after
reachable cs = (calls-next cs new_table new-invariant).inv

pub later-after : (cs ds : List Call) → Later (table_after cs) (table_after (cs ++ ds))
unfolding table_after
later-after cs ds = rw (left-append table_left cs ds new_table) (calls-next ds (left_by table_left cs new_table) (calls-next cs new_table new-invariant).inv).later

-- ---- Disabled flows down

-- a document hands on what it is Disabled for to all that it is above
pub flows : (t : Table) → Invariant t → (d : Document) → In d t.docs → (f : ℕ) → question_in (policy_of d) f d.identity.origin ≡ disabled →
    (l : List ℕ) (x : Document) → In x t.docs → x.identity.above ≡ l → T (elem d.identity.serial l) → decision_at x.inherited f ≡ disabled
unfolding elem
flows t i d k f off [] x m e q = absurd q
flows t i d k f off (s ∷ l) x m e q = by-link (λ c n v z. flows t i d k f off l c n v z) (i.linked x m)
  where
    by-link : ((c : Document) → In c t.docs → c.identity.above ≡ l → T (elem d.identity.serial l) → decision_at c.inherited f ≡ disabled) → Linked t.docs x → decision_at x.inherited f ≡ disabled
    by-link rec (at_top z) = clash cc
    by-link rec (in_frame c n z older gives) =
        let w : s ≡ c.identity.serial = cc in
        let v : c.identity.above ≡ l = cc in
        gives f
        (or_cases (eqb d.identity.serial s) (elem d.identity.serial l)
        (λ u. let y : d.identity.serial ≡ s = eqb→eq d.identity.serial s u in
        rw (← rising-one 1 t.docs t.next i.rising d c k n (y ∙ w)) off)
        (λ u. disabled-question (policy_of c) f c.identity.origin (rec c n v u)) q)

-- a serial that names a document before and after names the same one
pub same-doc : (t u : Table) → Invariant t → Later t u → (s : ℕ) (x y : Document) → find s t.docs ≡ Some x → find s u.docs ≡ Some y → x ≡ y
same-doc t u i l s x y p q =
    let a = find-some s t.docs x p in
    let b = find-some s u.docs y q in
    let h = rising-below 1 t.docs t.next i.rising x a.0 in
    rising-one 1 t.docs t.next i.rising x y a.0 (l.old y b.0 (omega arith)) (cc)

-- ---- questions

-- what a question that was answered Disabled shows
pub record AskedDisabled (t : Table) (s f : ℕ) (said : OriginSaid) : Type 0 where
  pub doc : Document
  pub is : find s t.docs ≡ Some doc
  pub feature : ltb f feature_count ≡ true
  pub is_disabled : question_in (policy_of doc) f (asked_at said doc.identity.origin) ≡ disabled

-- the question, its origin text being good
unfoldable answered : Table → Option Document → ℕ → OriginSaid → Outcome
answered t o f said = with_document o λ d. accept (decision (question_in (policy_of d) f (asked_at said d.identity.origin))) t

disabled-cases : (t : Table) (s f : ℕ) (said : OriginSaid) (b : Bool) (o : Option Document) → ltb f feature_count ≡ b → find s t.docs ≡ o → answer_in (refuse_unless NoSuchFeature b (answered t o f said)) ≡ decision disabled → AskedDisabled t s f said
unfolding refuse_unless with_document answered
disabled-cases t s f said false o e p q = clash cc
disabled-cases t s f said true None e p q = clash cc
disabled-cases t s f said true (Some d) e p q = record { doc = d; is = p; feature = e; is_disabled = cc }

question-is : (s f : ℕ) (o : Text) (t : Table) → is_good_origin (origin_of o) ≡ true → answer_to (question s f o) t ≡ answer_in (refuse_unless NoSuchFeature (ltb f feature_count) (answered t (find s t.docs) f (origin_of o)))
unfolding answer_to outcome fitting_outcome answered refuse_unless texts_fit
question-is s f o t e = rw e

pub asked-disabled : (t : Table) (s f : ℕ) (o : Text) → is_good_origin (origin_of o) ≡ true → answer_to (question s f o) t ≡ decision disabled → AskedDisabled t s f (origin_of o)
asked-disabled t s f o g e = disabled-cases t s f (origin_of o) (ltb f feature_count) (find s t.docs) refl refl (sym (question-is s f o t g) ∙ e)

pub says-disabled : (t : Table) (s f : ℕ) (o : Text) (y : Document) → is_good_origin (origin_of o) ≡ true → ltb f feature_count ≡ true → find s t.docs ≡ Some y → decision_at y.inherited f ≡ disabled → answer_to (question s f o) t ≡ decision disabled
unfolding refuse_unless with_document answered
says-disabled t s f o y g p q h = question-is s f o t g ∙ (rw (p, q, disabled-question (policy_of y) f (asked_at (origin_of o) y.identity.origin) h))

-- after the calls cs the document d is Disabled for f at its own origin: then, after any further calls, each that stands beneath it in the table is at every origin
pub table-flows-down : (cs ds : List Call) (d f : ℕ) → answer_to (question d f []) (table_after cs) ≡ decision disabled →
    (x y : Document) → find d (table_after (cs ++ ds)).docs ≡ Some y → In x (table_after (cs ++ ds)).docs → T (elem d x.identity.above) →
    (o : Text) → is_good_origin (origin_of o) ≡ true → answer_to (question x.identity.serial f o) (table_after (cs ++ ds)) ≡ decision disabled
table-flows-down cs ds d f q x y p m b o g =
    let t = table_after cs in
    let u = table_after (cs ++ ds) in
    let w = asked-disabled t d f [] empty-good q in
    let i = reachable (cs ++ ds) in
    let z : w.doc ≡ y = same-doc t u (reachable cs) (later-after cs ds) d w.doc y w.is p in
    let k = find-some d u.docs y p in
    let off : question_in (policy_of y) f y.identity.origin ≡ disabled = subst (λ (v : Document). question_in (policy_of v) f v.identity.origin ≡ disabled) z (rw text-empty at w.is_disabled) in
    says-disabled u x.identity.serial f o x g w.feature (in-find 1 u.docs u.next i.rising x m)
    (flows u i y k.0 f off x.identity.above x m refl (rw (← k.1) b))

-- what stands above a document is in the table
pub above-there : (t : Table) → Invariant t → (d : ℕ) (l : List ℕ) (x : Document) → In x t.docs → x.identity.above ≡ l → T (elem d l) → (y : Document) × (find d t.docs ≡ Some y)
unfolding elem
above-there t i d [] x m e q = absurd q
above-there t i d (s ∷ l) x m e q = by-link (λ c n v z. above-there t i d l c n v z) (i.linked x m)
  where
    by-link : ((c : Document) → In c t.docs → c.identity.above ≡ l → T (elem d l) → (y : Document) × (find d t.docs ≡ Some y)) → Linked t.docs x → (y : Document) × (find d t.docs ≡ Some y)
    by-link rec (at_top z) = clash cc
    by-link rec (in_frame c n z older gives) =
        let w : s ≡ c.identity.serial = cc in
        let v : c.identity.above ≡ l = cc in
        or_cases (eqb d s) (elem d l)
        (λ u. let y : d ≡ c.identity.serial = eqb→eq d s u ∙ w in (c, rw y (in-find 1 t.docs t.next i.rising c n)))
        (λ u. rec c n v u) q
