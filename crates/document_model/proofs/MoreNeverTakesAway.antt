-- Claim 2: one item, word or keyword more, and what was Enabled stays Enabled. Each definition that `outcome` is made of has one lemma here, of the same shape. Assumes nothing.
use mathlib.Core.Path.{◌≡◌, refl, sym, ap, subst, ◌∙◌}
use Prim.Native.Nat.{ℕ, zero, suc}
use mathlib.Core.Bool.{Bool, true, false, not, ◌||◌}
use Rattle.std.specs.Prelude.{Option, None, Some}
use mathlib.Core.List.{List, [], ◌∷◌, ◌++◌}
use lib.Dec.{leb, ltb, eqb}
use lib.ListN.{length, get_or}
use Rattle.ascii.proofs.Clash.{clash}
use Rattle.ascii.specs.Bytes.{pick}
use Rattle.limits.specs.Limits.{document_limit, last_serial}
use Rattle.limits.specs.Refusals.{refusal_number}
use Rattle.limits.specs.declared.Refusal.{Refusal}
use Rattle.limits.specs.declared.Refusal.TheVariants.{NotLoaded, NoSuchFeature, BadOrigin, TooLong, Sandbox, Full, Spent, Small}
use Rattle.features.specs.Features.{feature_count}
use Rattle.origins.specs.Origins.{Origin, OriginSaid, origin_of}
use Rattle.dictionaries.specs.OneItemMore.{OneItemMore}
use Rattle.allowlists.specs.Allowlists.{Allowlist}
use Rattle.allowlists.specs.Widening.{AsWide, AsWideOrOpened}
use Rattle.allowlists.specs.Widening.AsWide.{neither}
use Rattle.allowlists.specs.Widening.AsWideOrOpened.{as_wide}
use Rattle.allowlists.proofs.Laws.{as-wide-self}
use Rattle.declarations.specs.Declarations.{declares, is_malformed}
use Rattle.declarations.proofs.Laws.{item-as-wide, item-good}
use Rattle.containers.specs.Policies.{container_policy}
use Rattle.containers.specs.Sandboxes.{is_sandboxed, declared_origin}
use Rattle.containers.specs.Widening.{WordMore, KeywordMore}
use Rattle.containers.specs.Widening.WordMore.{word_more}
use Rattle.containers.specs.Widening.KeywordMore.{keyword_more}
use Rattle.containers.proofs.Laws.{word-as-wide, word-sandboxed, word-declared, keyword-opens, keyword-sandboxed, keyword-declared}
use Rattle.decisions.specs.Masks.{decision_at}
use Rattle.decisions.specs.Policies.{question_in, inherited_in, enabled_mask, forecast}
use Rattle.decisions.specs.Widening.{Stays, WiderPolicy, WiderFrame}
use Rattle.decisions.proofs.Laws.{stays-self, question-in-stays, inherited-in-stays, mask-stays, forecast-stays}
use Rattle.decisions.proofs.Laws as laws
use Rattle.document_model.specs.Runs.{Each, no_more, each}
use Rattle.containers.specs.Attributes.{Attributes}
use Rattle.document_model.specs.Model.{Text, is_good_origin, is_null, asked_at, Identity, Document, values_from, declared_by, policy_of, frame_sandboxed, frame_declared, or_fresh, frame_of, Table, elem, is_at_or_beneath, find, remaining, serials_beneath, removed_count, Call, top_load, framed_load, unload, question, enabled_features, listing, forecast_of, Answer, refused, loaded, decision, features, Outcome, refuse, accept, refuse_unless, with_document, texts_fit, load, top_identity, framed_identity, top_document, framed_document, fitting_outcome, outcome, answer_in, table_in, answer_to, table_left, table_after, answers}
use Rattle.document_model.specs.Claims.{OneMore, item_top, item_framed, word_framed, word_forecast, keyword_framed, keyword_forecast, is_accepted, Keeps, equal, enabled_stays, bits_stay}
use Rattle.document_model.proofs.TwoRuns.{Follow, two_runs}

-- ---- more

pub record HeaderMore (h g : Text) : Type 0 where
  pub same-form : is_malformed h ≡ is_malformed g
  pub declares_more : (n : ℕ) → AsWide (declares h n) (declares g n)

pub record AttributesMore (a b : Attributes) : Type 0 where
  pub allows_more : (n : ℕ) → AsWideOrOpened (container_policy a n) (container_policy b n)
  pub same_src : a.src ≡ b.src
  pub same_sandboxed : (above : Bool) → is_sandboxed above a ≡ is_sandboxed above b
  pub same_declared : (above : Bool) (container : Origin) → declared_origin above a container ≡ declared_origin above b container

pub data ShapeMore : Call → Call → Type 0 where
  top_more : {h g o : Text} → HeaderMore h g → ShapeMore (top_load h o) (top_load g o)
  framed_more : {c : ℕ} {h g o : Text} {a b : Attributes} → HeaderMore h g → AttributesMore a b → ShapeMore (framed_load c h o a) (framed_load c g o b)
  unload_more : {s : ℕ} → ShapeMore (unload s) (unload s)
  question_more : {s f : ℕ} {o : Text} → ShapeMore (question s f o) (question s f o)
  enabled_more : {s : ℕ} → ShapeMore (enabled_features s) (enabled_features s)
  listing_more : {s : ℕ} {run : List ℕ} → ShapeMore (listing s run) (listing s run)
  forecast_more : {c : ℕ} {a b : Attributes} → AttributesMore a b → ShapeMore (forecast_of c a) (forecast_of c b)

-- the second call says at least as much, and 4 falls on both or on neither
pub record CallMore (c d : Call) : Type 0 where
  pub same_fit : texts_fit c ≡ texts_fit d
  pub shape : ShapeMore c d

header-self : (h : Text) → HeaderMore h h
header-self h = record { same-form = refl; declares_more = λ n. as-wide-self (declares h n) }

attributes-self : (a : Attributes) → AttributesMore a a
attributes-self a = record { allows_more = λ n. as_wide (as-wide-self (container_policy a n)); same_src = refl; same_sandboxed = λ above. refl; same_declared = λ above container. refl }

shape-self : (c : Call) → ShapeMore c c
shape-self (top_load h o) = top_more (header-self h)
shape-self (framed_load c h o a) = framed_more (header-self h) (attributes-self a)
shape-self (unload s) = unload_more
shape-self (question s f o) = question_more
shape-self (enabled_features s) = enabled_more
shape-self (listing s run) = listing_more
shape-self (forecast_of c a) = forecast_more (attributes-self a)

pub call-self : (c : Call) → CallMore c c
call-self c = record { same_fit = refl; shape = shape-self c }

item-header : (h g : Text) → OneItemMore h g → HeaderMore h g
item-header h g i = let e = item-good h g i in record { same-form = e.0 ∙ sym e.1; declares_more = item-as-wide h g i }

word-src : {a b : Attributes} → WordMore a b → a.src ≡ b.src
word-src (word_more w) = refl

word-attributes : {a b : Attributes} → WordMore a b → AttributesMore a b
word-attributes w = record { allows_more = λ n. as_wide (word-as-wide w n); same_src = word-src w; same_sandboxed = word-sandboxed w; same_declared = word-declared w }

keyword-src : {a b : Attributes} → KeywordMore a b → a.src ≡ b.src
keyword-src (keyword_more k) = refl

keyword-attributes : {a b : Attributes} → KeywordMore a b → AttributesMore a b
keyword-attributes k = record { allows_more = keyword-opens k; same_src = keyword-src k; same_sandboxed = keyword-sandboxed k; same_declared = keyword-declared k }

pub one-more-shape : {c d : Call} → OneMore c d → ShapeMore c d
one-more-shape (item_top {h = h} {g = g} i) = top_more (item-header h g i)
one-more-shape (item_framed {h = h} {g = g} {a = a} i) = framed_more (item-header h g i) (attributes-self a)
one-more-shape (word_framed {h = h} w) = framed_more (header-self h) (word-attributes w)
one-more-shape (word_forecast w) = forecast_more (word-attributes w)
one-more-shape (keyword_framed {h = h} k) = framed_more (header-self h) (keyword-attributes k)
one-more-shape (keyword_forecast k) = forecast_more (keyword-attributes k)

-- ---- documents

pub data DocumentMore : Document → Document → Type 0 where
  document_more : (w : Identity) (i j : ℕ) (l m : List (Option Allowlist)) → ((n : ℕ) → Stays (decision_at i n) (decision_at j n)) → ((n : ℕ) → AsWide (get_or l n None) (get_or m n None))
      → DocumentMore (record { identity = w; inherited = i; declared = l }) (record { identity = w; inherited = j; declared = m })

pub data DocumentsMore : List Document → List Document → Type 0 where
  none_more : DocumentsMore [] []
  also_more : {x y : Document} {xs ys : List Document} → DocumentMore x y → DocumentsMore xs ys → DocumentsMore (x ∷ xs) (y ∷ ys)

pub data TableMore : Table → Table → Type 0 where
  table_more : (n : ℕ) {ds es : List Document} → DocumentsMore ds es → TableMore (record { docs = ds; next = n }) (record { docs = es; next = n })

data OutcomeMore : Outcome → Outcome → Type 0 where
  alike : (n : Refusal) → OutcomeMore (refuse n) (refuse n)
  more : {a b : Answer} {t u : Table} → Keeps a b → TableMore t u → OutcomeMore (accept a t) (accept b u)

data FoundMore : Option Document → Option Document → Type 0 where
  not_found : FoundMore None None
  found : {x y : Document} → DocumentMore x y → FoundMore (Some x) (Some y)

wider : {x y : Document} → DocumentMore x y → WiderPolicy (policy_of x) (policy_of y)
wider (document_more w i j l m h p) = record { own = refl; inherits = h; declares = p }

frames : (w : Identity) {a b : Attributes} → AttributesMore a b → WiderFrame (frame_of w a) (frame_of w b)
unfolding frame_declared
frames w h = record { declared = ap or_fresh (h.same_declared w.sandboxed w.origin); allows = h.allows_more }

-- the seventeen, place by place
values-more : (f g : ℕ → Option Allowlist) → ((n : ℕ) → AsWide (f n) (g n)) → (i k n : ℕ) → AsWide (get_or (values_from f i k) n None) (get_or (values_from g i k) n None)
unfolding values_from
values-more f g h i zero n = neither
values-more f g h i (suc k) zero = h i
values-more f g h i (suc k) (suc n) = values-more f g h (suc i) k n

declared-more : {h g : Text} → HeaderMore h g → (n : ℕ) → AsWide (get_or (declared_by h) n None) (get_or (declared_by g) n None)
unfolding declared_by
declared-more {h} {g} l n = values-more (declares h) (declares g) l.declares_more 0 feature_count n

-- ---- tables

first_more : (b : Bool) {x y x' y' : Option Document} → FoundMore x y → FoundMore x' y' → FoundMore (pick b x x') (pick b y y')
unfolding pick
first_more true u v = u
first_more false u v = v

find-more : {ds es : List Document} (s : ℕ) → DocumentsMore ds es → FoundMore (find s ds) (find s es)
unfolding find
find-more s none_more = not_found
find-more s (also_more (document_more w i j l m h p) r) = first_more (eqb s w.serial) (found (document_more w i j l m h p)) (find-more s r)

either-more : (b : Bool) {x y x' y' : List Document} → DocumentsMore x y → DocumentsMore x' y' → DocumentsMore (pick b x x') (pick b y y')
unfolding pick
either-more true u v = u
either-more false u v = v

remaining-more : {ds es : List Document} (s : ℕ) → DocumentsMore ds es → DocumentsMore (remaining s ds) (remaining s es)
unfolding remaining
remaining-more s none_more = none_more
remaining-more s (also_more (document_more w i j l m h p) r) = either-more (is_at_or_beneath s w) (remaining-more s r) (also_more (document_more w i j l m h p) (remaining-more s r))

removed-more : {ds es : List Document} (s : ℕ) → DocumentsMore ds es → removed_count s ds ≡ removed_count s es
unfolding removed_count
removed-more s none_more = refl
removed-more s (also_more (document_more w i j l m h p) r) = ap (λ (n : ℕ). pick (is_at_or_beneath s w) (suc n) n) (removed-more s r)

beneath-more : {ds es : List Document} (s : ℕ) → DocumentsMore ds es → serials_beneath s ds ≡ serials_beneath s es
unfolding serials_beneath
beneath-more s none_more = refl
beneath-more s (also_more (document_more w i j l m h p) r) = ap (λ (l : List ℕ). pick (elem s w.above) (w.serial ∷ l) l) (beneath-more s r)

length_more : {ds es : List Document} → DocumentsMore ds es → length ds ≡ length es
length_more none_more = refl
length_more (also_more d r) = ap suc (length_more r)

push-more : {ds es : List Document} {x y : Document} → DocumentsMore ds es → DocumentMore x y → DocumentsMore (ds ++ (x ∷ [])) (es ++ (y ∷ []))
push-more none_more d = also_more d none_more
push-more (also_more e r) d = also_more e (push-more r d)

-- ---- outcomes

unless-more : (n : Refusal) (b : Bool) {k l : Outcome} → OutcomeMore k l → OutcomeMore (refuse_unless n b k) (refuse_unless n b l)
unfolding refuse_unless
unless-more n true h = h
unless-more n false h = alike n

src-more : {a b : Attributes} → AttributesMore a b → {k l : Outcome} → OutcomeMore k l → OutcomeMore (refuse_unless BadOrigin (is_good_origin (origin_of a.src)) k) (refuse_unless BadOrigin (is_good_origin (origin_of b.src)) l)
src-more {a} m {k} {l} h = subst (λ (s : Text). OutcomeMore (refuse_unless BadOrigin (is_good_origin (origin_of a.src)) k) (refuse_unless BadOrigin (is_good_origin (origin_of s)) l)) m.same_src (unless-more BadOrigin _ h)

with-more : {x y : Option Document} {k l : Document → Outcome} → FoundMore x y → ((d e : Document) → DocumentMore d e → OutcomeMore (k d) (l e)) → OutcomeMore (with_document x k) (with_document y l)
unfolding with_document
with-more not_found h = alike NotLoaded
with-more (found d) h = h _ _ d

load-more : {t u : Table} {b c : Bool} {x y : Identity → Document} → TableMore t u → b ≡ c → ((w : Identity) → DocumentMore (x w) (y w)) → (identity other : ℕ → Identity) → ((n : ℕ) → identity n ≡ other n) → OutcomeMore (load t b x identity) (load u c y other)
unfolding load
load-more {b = b} {x = x} {y = y} (table_more n {ds = ds} r) e h identity other same =
    rw (← length_more r, ← e)
    (unless-more Full (ltb (length ds) document_limit) (unless-more Spent (leb n last_serial) (more (equal (loaded n b)) (table_more (suc n) (push-more r (subst (λ (w : Identity). DocumentMore (x (identity n)) (y w)) (same n) (h (identity n))))))))

top-document-more : {h g : Text} → HeaderMore h g → (w : Identity) → DocumentMore (top_document h w) (top_document g w)
unfolding top_document
top-document-more {h} {g} r w = document_more w _ _ (declared_by h) (declared_by g) (λ n. stays-self _) (declared-more r)

framed-document-more : {d e : Document} {h g : Text} {a b : Attributes} → DocumentMore d e → HeaderMore h g → AttributesMore a b → (w : Identity) → DocumentMore (framed_document d h a w) (framed_document e g b w)
unfolding framed_document
framed-document-more {d} {e} {h = x} {g = y} {a} {b} (document_more v i j l m h p) r q w =
    document_more w _ _ (declared_by x) (declared_by y)
    (mask-stays (inherited_in (policy_of d) (frame_of v a) w.origin) (inherited_in (policy_of e) (frame_of v b) w.origin)
    (λ n low. inherited-in-stays (policy_of d) (policy_of e) (wider (document_more v i j l m h p)) (frame_of v a) (frame_of v b) (frames v q) w.origin n))
    (declared-more r)

same-mark : (v : Identity) {a b : Attributes} → AttributesMore a b → frame_sandboxed v a ≡ frame_sandboxed v b
unfolding frame_sandboxed
same-mark v q = q.same_sandboxed v.sandboxed

same-identity : (v : Identity) {a b : Attributes} → AttributesMore a b → (said : OriginSaid) (n : ℕ) → framed_identity v a said n ≡ framed_identity v b said n
unfolding framed_identity
same-identity v q said n = rw (same-mark v q)

framed-load-more : {t u : Table} {d e : Document} {h g : Text} {a b : Attributes} → TableMore t u → DocumentMore d e → HeaderMore h g → AttributesMore a b → (said : OriginSaid) →
    OutcomeMore (refuse_unless Sandbox (not (frame_sandboxed d.identity a) || is_null said) (load t (is_malformed h) (framed_document d h a) (framed_identity d.identity a said)))
    (refuse_unless Sandbox (not (frame_sandboxed e.identity b) || is_null said) (load u (is_malformed g) (framed_document e g b) (framed_identity e.identity b said)))
framed-load-more {a = a} {b = b} t (document_more v i j l m h p) r q said =
    rw (← same-mark v q) (unless-more Sandbox _ (load-more t r.same-form (framed-document-more (document_more v i j l m h p) r q) (framed_identity v a said) (framed_identity v b said) (same-identity v q said)))

question-said-more : {t u : Table} {d e : Document} → TableMore t u → DocumentMore d e → (f : ℕ) (said : OriginSaid) →
    OutcomeMore (accept (decision (question_in (policy_of d) f (asked_at said d.identity.origin))) t) (accept (decision (question_in (policy_of e) f (asked_at said e.identity.origin))) u)
question-said-more {d = d} {e = e} t (document_more w i j l m h p) f said =
    more (enabled_stays (question-in-stays (policy_of d) (policy_of e) (wider (document_more w i j l m h p)) f (asked_at said w.origin))) t

enabled-said-more : {t u : Table} {d e : Document} → TableMore t u → DocumentMore d e → OutcomeMore (accept (features (enabled_mask (policy_of d))) t) (accept (features (enabled_mask (policy_of e))) u)
enabled-said-more {d = d} {e = e} t m = more (bits_stay (laws.enabled_stays (policy_of d) (policy_of e) (wider m))) t

forecast-said-more : {t u : Table} {d e : Document} {a b : Attributes} → TableMore t u → DocumentMore d e → AttributesMore a b →
    OutcomeMore (accept (features (forecast (policy_of d) (frame_of d.identity a))) t) (accept (features (forecast (policy_of e) (frame_of e.identity b))) u)
forecast-said-more {d = d} {e = e} {a = a} {b = b} t (document_more w i j l m h p) q =
    more (bits_stay (forecast-stays (policy_of d) (policy_of e) (frame_of w a) (frame_of w b) (wider (document_more w i j l m h p)) (frames w q))) t

-- a call that says as much, on a table with as much
fitting-more : {c d : Call} {t u : Table} → ShapeMore c d → TableMore t u → OutcomeMore (fitting_outcome c t) (fitting_outcome d u)
unfolding fitting_outcome
fitting-more (top_more {o = o} l) t = unless-more BadOrigin _ (load-more t l.same-form (top-document-more l) (top_identity (origin_of o)) (top_identity (origin_of o)) (λ n. refl))
fitting-more (framed_more {c = c} {o = o} l m) (table_more n r) =
    unless-more BadOrigin _ (src-more m (with-more (find-more c r) λ d e h. framed-load-more (table_more n r) h l m (origin_of o)))
fitting-more (unload_more {s = s}) (table_more n r) =
    with-more (find-more s r) λ d e h. rw (← removed-more s r) (more (equal _) (table_more n (remaining-more s r)))
fitting-more (question_more {s = s} {f = f} {o = o}) (table_more n r) =
    unless-more BadOrigin _ (unless-more NoSuchFeature _ (with-more (find-more s r) λ d e h. question-said-more (table_more n r) h f (origin_of o)))
fitting-more (enabled_more {s = s}) (table_more n r) = with-more (find-more s r) λ d e h. enabled-said-more (table_more n r) h
fitting-more (listing_more {s = s} {run = run}) (table_more n {ds = ds} r) =
    with-more (find-more s r) λ d e h. rw (← beneath-more s r) (unless-more Small _ (more (equal _) (table_more n r)))
fitting-more (forecast_more {c = c} m) (table_more n r) =
    src-more m (with-more (find-more c r) λ d e h. forecast-said-more (table_more n r) h m)

outcome-more : {c d : Call} {t u : Table} → CallMore c d → TableMore t u → OutcomeMore (outcome c t) (outcome d u)
unfolding outcome
outcome-more l r = rw l.same_fit (unless-more TooLong _ (fitting-more l.shape r))

answer-more : {x y : Outcome} → OutcomeMore x y → Keeps (answer_in x) (answer_in y)
answer-more (alike n) = equal (refused (refusal_number n))
answer-more (more a t) = a

left-more : {x y : Outcome} {t u : Table} → OutcomeMore x y → TableMore t u → TableMore (table_in x t) (table_in y u)
left-more (alike n) r = r
left-more (more a t) r = t

call-answer : {c d : Call} {t u : Table} → CallMore c d → TableMore t u → Keeps (answer_to c t) (answer_to d u)
unfolding answer_to
call-answer l r = answer-more (outcome-more l r)

call-table : {c d : Call} {t u : Table} → CallMore c d → TableMore t u → TableMore (table_left c t) (table_left d u)
unfolding table_left
call-table l r = left-more (outcome-more l r) r

-- calls that say as much keep tables that have as much, and what was Enabled
pub more-follows : Follow answer_to table_left answer_to table_left CallMore TableMore Keeps
more-follows = record { answer = call-answer; table = call-table }

-- ---- the claim

-- the texts of an accepted call are short enough
fit : (b : Bool) (k : Outcome) → is_accepted (answer_in (refuse_unless TooLong b k)) ≡ true → b ≡ true
unfolding refuse_unless
fit true k e = refl
fit false k e = clash cc

accepted-fits : (c : Call) (t : Table) → is_accepted (answer_to c t) ≡ true → texts_fit c ≡ true
unfolding answer_to outcome
accepted-fits c t e = fit (texts_fit c) (fitting_outcome c t) e

self-each : (cs : List Call) → Each CallMore cs cs
self-each [] = no_more
self-each (c ∷ cs) = each (call-self c) (self-each cs)

more-at : (before : List Call) {c d : Call} (behind : List Call) → CallMore c d → Each CallMore (before ++ (c ∷ behind)) (before ++ (d ∷ behind))
more-at [] behind m = each m (self-each behind)
more-at (b ∷ before) behind m = each (call-self b) (more-at before behind m)

-- the two lists are related place by place, and so are the answers
pub more-never-takes-away : (before : List Call) (c d : Call) (behind : List Call) → OneMore c d →
    is_accepted (answer_to c (table_after before)) ≡ true → is_accepted (answer_to d (table_after before)) ≡ true →
    Each Keeps (answers (before ++ (c ∷ behind))) (answers (before ++ (d ∷ behind)))
unfolding answers
more-never-takes-away before c d behind r p q =
    two_runs more-follows (more-at before behind (record { same_fit = accepted-fits c (table_after before) p ∙ sym (accepted-fits d (table_after before) q); shape = one-more-shape r })) (table_more 1 none_more)
