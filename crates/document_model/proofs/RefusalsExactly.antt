-- Claim 5: each call's tests stand in the order of the rows, and each test fails exactly where its row's condition holds. Assumes nothing.
use mathlib.Core.Path.{◌≡◌, refl, sym, ap, subst, ◌∙◌}
use Prim.Native.Nat.{ℕ, zero, suc, ◌≤◌, ◌<◌}
use native.Mathlib.Omega.{arith}
use mathlib.Core.Bool.{Bool, true, false, not, ◌&&◌, ◌||◌}
use Rattle.std.specs.Prelude.{Option}
use mathlib.Core.List.{List, [], ◌∷◌, ◌++◌}
use lib.Dec.{leb, ltb}
use lib.ListN.{length}
use borrow.Author.Tests.{ltb-true, ltb-false, leb-true, leb-false}
use Rattle.ascii.proofs.Clash.{clash}
use Rattle.ascii.proofs.Bytes.{and_left, and_right}
use Rattle.limits.specs.Limits.{text_bytes, document_limit, last_serial}
use Rattle.limits.specs.Refusals.{refusal_number}
use Rattle.limits.specs.declared.Refusal.{Refusal}
use Rattle.limits.specs.declared.Refusal.TheVariants.{NotLoaded, NoSuchFeature, BadOrigin, TooLong, Sandbox, Full, Spent, Small}
use Rattle.features.specs.Features.{feature_count}
use Rattle.origins.specs.Origins.{OriginSaid, origin_of}
use Rattle.origins.specs.Origins.OriginSaid.{says_empty, says_null, says_tuple, no_origin}
use Rattle.containers.specs.Attributes.{Attributes}
use Rattle.document_model.specs.Runs.{left_by, answers_by}
use Rattle.document_model.specs.Model.{Text, is_good_origin, is_null, is_good_at_top, Identity, Document, frame_sandboxed, Table, find, serials_beneath, Call, top_load, framed_load, unload, question, enabled_features, listing, forecast_of, Answer, refused, Outcome, refuse, accept, refuse_unless, with_document, is_short, texts_fit, load, fitting_outcome, outcome, answer_in, answer_to, table_left, table_after, answers_after}
use Rattle.document_model.specs.History.{Event, LoadedIn, BeneathIn, history}
use Rattle.document_model.specs.Claims.{is_accepted}
use Rattle.document_model.specs.Refusals.{Row, input_long, bad_origin, bad_src, no_feature, not_loaded, sandboxed, full, spent, not_dictionary, output_long, small, place, refusal_of, Input, top_header, framed_header, framed_allow, framed_sandbox, forecast_allow, forecast_sandbox, Names, framed_names, unload_names, question_names, enabled_names, listing_names, forecast_names, IsLoad, is_top, is_framed, Holds, long, top_bad, top_empty, framed_bad, question_bad, framed_src, forecast_src, over_sixteen, closed, in_container, in_attribute, all_loaded, all_given, short_run, First}
use Rattle.document_model.proofs.Booleans.{and_no, not-either, not-or-true, order}
use Rattle.document_model.proofs.OriginTexts.{good-not, is-null, not_good, not_null}
use Rattle.document_model.proofs.Tables.{In, Finds, missing, hit, finds}
use Rattle.document_model.proofs.Invariant.{reachable}
use Rattle.document_model.proofs.Agreement.{agrees}
use Rattle.document_model.proofs.Effects.{table-append, refused-keeps, given-before}
use Rattle.document_model.proofs.SerialLists.{serials_where, all-where, exactly-one, loaded-list, beneath-list}
use Rattle.document_model.proofs.Sandboxed.{marked-told, told-marked, sandboxed-either, sandboxed-by-container, sandboxed-by-attributes}

row_at : ℕ → Row
row_at zero = input_long
row_at (suc zero) = bad_origin
row_at (suc (suc zero)) = bad_src
row_at (suc (suc (suc zero))) = no_feature
row_at (suc (suc (suc (suc zero)))) = not_loaded
row_at (suc (suc (suc (suc (suc zero))))) = sandboxed
row_at (suc (suc (suc (suc (suc (suc zero)))))) = full
row_at (suc (suc (suc (suc (suc (suc (suc zero))))))) = spent
row_at (suc (suc (suc (suc (suc (suc (suc (suc zero)))))))) = not_dictionary
row_at (suc (suc (suc (suc (suc (suc (suc (suc (suc zero))))))))) = output_long
row_at (suc (suc (suc (suc (suc (suc (suc (suc (suc (suc n)))))))))) = small

row_back : (r : Row) → row_at (place r) ≡ r
unfolding row_at
row_back input_long = refl
row_back bad_origin = refl
row_back bad_src = refl
row_back no_feature = refl
row_back not_loaded = refl
row_back sandboxed = refl
row_back full = refl
row_back spent = refl
row_back not_dictionary = refl
row_back output_long = refl
row_back small = refl

place-one : (q r : Row) → place q ≡ place r → q ≡ r
place-one q r e = sym (row_back q) ∙ ap row_at e ∙ row_back r

-- what the rows from a place on say of an outcome
data Verdict (es : List Event) (c : Call) (lo : ℕ) : Outcome → Type 0 where
  passed : {a : Answer} {u : Table} → is_accepted a ≡ true → ((q : Row) → lo ≤ place q → Holds es c q → ⊥) → Verdict es c lo (accept a u)
  stopped : (r : Row) (n : Refusal) → refusal_number n ≡ refusal_of r → lo ≤ place r → Holds es c r → ((q : Row) → lo ≤ place q → place q < place r → Holds es c q → ⊥) → Verdict es c lo (refuse n)

extend : {es : List Event} {c : Call} {o : Outcome} (lo hi : ℕ) → lo ≤ hi → ((q : Row) → lo ≤ place q → place q < hi → Holds es c q → ⊥) → Verdict es c hi o → Verdict es c lo o
extend lo hi l n (passed e m) = passed e (λ q k h. order (place q) hi (λ s. n q k s h) (λ s. m q s h))
extend lo hi l n (stopped r x y k h m) = stopped r x y (omega arith) h (λ q j b g. order (place q) hi (λ s. n q j s g) (λ s. m q s b g))

unless-verdict : {es : List Event} {c : Call} (r : Row) (n : Refusal) → refusal_number n ≡ refusal_of r → (b : Bool) (k : Outcome) → (b ≡ false → Holds es c r) → (b ≡ true → Holds es c r → ⊥) → Verdict es c (suc (place r)) k → Verdict es c (place r) (refuse_unless n b k)
unfolding refuse_unless
unless-verdict {es} {c} r n y true k f g v = extend (place r) (suc (place r)) (omega arith) (λ q l s h. g refl (subst (Holds es c) (place-one q r (omega arith)) h)) v
unless-verdict r n y false k f g v = stopped r n y (omega arith) (f refl) (λ q l s h. absurd (omega arith))

-- from a verdict on all rows
answer-first : {es : List Event} {c : Call} (o : Outcome) → Verdict es c 0 o → (n : ℕ) → answer_in o ≡ refused n → (r : Row) × First es c r × (refusal_of r ≡ n)
answer-first o (passed e m) n q = clash cc
answer-first o (stopped r x y l h m) n q = (r, record { holds = h; none_before = λ p s g. m p (omega arith) s g }, cc)

first-answer : {es : List Event} {c : Call} (o : Outcome) → Verdict es c 0 o → (r : Row) → First es c r → answer_in o ≡ refused (refusal_of r)
first-answer o (passed e m) r f = absurd (m r (omega arith) f.holds)
first-answer o (stopped q x y l h m) r f =
    let e : place q ≡ place r = order (place q) (place r) (λ s. absurd (f.none_before q s h)) (λ s. order (place r) (place q) (λ b. absurd (m r (omega arith) b f.holds)) (λ b. omega arith)) in
    ap refused (y ∙ ap refusal_of (place-one q r e))

-- ---- the rows of each call

long-text : (x : Text) → is_short x ≡ false → text_bytes < length x
long-text x e = omega (arith, leb-false)

short-text : (x : Text) → is_short x ≡ true → text_bytes < length x → ⊥
short-text x e l = omega (arith, leb-true)

is-long : (es : List Event) (c : Call) → texts_fit c ≡ false → Holds es c input_long
unfolding texts_fit
is-long es (top_load h o) e = long h top_header (long-text h e)
is-long es (framed_load c h o a) e =
    and_no (is_short h && is_short a.allow) (is_short a.sandbox) e
    (λ z. and_no (is_short h) (is_short a.allow) z (λ y. long h framed_header (long-text h y)) (λ y. long a.allow framed_allow (long-text a.allow y)))
    (λ z. long a.sandbox framed_sandbox (long-text a.sandbox z))
is-long es (unload s) e = clash cc
is-long es (question s f o) e = clash cc
is-long es (enabled_features s) e = clash cc
is-long es (listing s run) e = clash cc
is-long es (forecast_of c a) e =
    and_no (is_short a.allow) (is_short a.sandbox) e (λ y. long a.allow forecast_allow (long-text a.allow y)) (λ y. long a.sandbox forecast_sandbox (long-text a.sandbox y))

input-short : (c : Call) (x : Text) → texts_fit c ≡ true → Input c x → is_short x ≡ true
unfolding texts_fit
input-short c x e top_header = e
input-short c x e (framed_header {h = h} {a = a}) = and_left (is_short h) (is_short a.allow) (and_left (is_short h && is_short a.allow) (is_short a.sandbox) e)
input-short c x e (framed_allow {h = h} {a = a}) = and_right (is_short h) (is_short a.allow) (and_left (is_short h && is_short a.allow) (is_short a.sandbox) e)
input-short c x e (framed_sandbox {h = h} {a = a}) = and_right (is_short h && is_short a.allow) (is_short a.sandbox) e
input-short c x e (forecast_allow {a = a}) = and_left (is_short a.allow) (is_short a.sandbox) e
input-short c x e (forecast_sandbox {a = a}) = and_right (is_short a.allow) (is_short a.sandbox) e

not-long : (es : List Event) (c : Call) → texts_fit c ≡ true → Holds es c input_long → ⊥
not-long es c e (long x i l) = short-text x (input-short c x e i) l

top_of : (es : List Event) (h o : Text) (said : OriginSaid) → origin_of o ≡ said → is_good_at_top said ≡ false → Holds es (top_load h o) bad_origin
top_of es h o says_empty z e = top_empty z
top_of es h o says_null z e = clash cc
top_of es h o (says_tuple x) z e = clash cc
top_of es h o no_origin z e = top_bad z

top-not : (es : List Event) (h o : Text) → is_good_at_top (origin_of o) ≡ true → Holds es (top_load h o) bad_origin → ⊥
top-not es h o e (top_bad z) = clash (let y : is_good_at_top no_origin ≡ true = rw z at e in cc)
top-not es h o e (top_empty z) = clash (let y : is_good_at_top says_empty ≡ true = rw z at e in cc)

module _ (cs : List Call) where
  abbrev es : List Event
  es = history cs

  abbrev t : Table
  t = table_after cs

  room : length t.docs ≡ length (serials_where (λ w. true) t.docs)
  room = sym (all-where t.docs)

  load-verdict : (c : Call) → IsLoad c → ((q : Row) → 8 ≤ place q → Holds es c q → ⊥) → (b : Bool) (make : Identity → Document) (identity : ℕ → Identity) → Verdict es c 6 (load t b make identity)
  unfolding load
  load-verdict c is no-later b make identity =
      unless-verdict full Full refl (ltb (length t.docs) document_limit) _
      (λ e. all_loaded (serials_where (λ w. true) t.docs) is (loaded-list cs) (omega (arith, ltb-false, room, (reachable cs).few)))
      (not_full c)
      (unless-verdict spent Spent refl (leb t.next last_serial) _
      (λ e. let w = given-before cs last_serial (omega arith) (omega (arith, leb-false)) in all_given is w.happened w.gave)
      (not-spent c)
      (passed refl no-later))
    where
      not_full : (x : Call) → ltb (length (table_after cs).docs) document_limit ≡ true → Holds (history cs) x full → ⊥
      not_full x e (all_loaded l i a k) =
          let z : l ≡ serials_where (λ w. true) (table_after cs).docs = exactly-one (LoadedIn (history cs)) l (serials_where (λ w. true) (table_after cs).docs) a (loaded-list cs) in
          let y : length l ≡ length (table_after cs).docs = ap length z ∙ all-where (table_after cs).docs in
          omega (arith, ltb-true)

      not-spent : (x : Call) → leb (table_after cs).next last_serial ≡ true → Holds (history cs) x spent → ⊥
      not-spent x e (all_given i h g) = omega (arith, leb-true, (agrees cs).known h g)

  with-verdict : (c : Call) (s : ℕ) → Names c s → ((k : ℕ) → Names c k → k ≡ s) → (k : Document → Outcome) → ((d : Document) → In d t.docs → s ≡ d.identity.serial → Verdict es c 5 (k d)) → (o : Option Document) → Finds s t.docs o → Verdict es c 4 (with_document o k)
  unfolding with_document
  with-verdict c s n only k v o (missing none-there) =
      stopped not_loaded NotLoaded refl (omega arith) (closed s n (λ l. let w = (agrees cs).is_there s l in none-there w.0 w.1 (sym w.2))) (λ q l m h. absurd (omega arith))
  with-verdict c s n only k v o (hit d m e) = extend 4 5 (omega arith) (λ q l b h. not-shut q (place-one q not_loaded (omega arith)) h) (v d m e)
    where
      not-shut : (q : Row) → q ≡ not_loaded → Holds (history cs) c q → ⊥
      not-shut q z h = shut c only (subst (Holds (history cs) c) z h)
        where
          shut : (x : Call) → ((k : ℕ) → Names x k → k ≡ s) → Holds (history cs) x not_loaded → ⊥
          shut x only (closed k' n' f) = f (subst (LoadedIn (history cs)) (sym e ∙ sym (only k' n')) ((agrees cs).told d m))

  -- ---- every call

  sandbox-verdict : (c : ℕ) (h o : Text) (a : Attributes) (d : Document) → In d t.docs → c ≡ d.identity.serial → (k : Outcome) → Verdict es (framed_load c h o a) 6 k →
      Verdict es (framed_load c h o a) 5 (refuse_unless Sandbox (not (frame_sandboxed d.identity a) || is_null (origin_of o)) k)
  sandbox-verdict c h o a d m e k v =
      unless-verdict sandboxed Sandbox refl (not (frame_sandboxed d.identity a) || is_null (origin_of o)) k
      (λ z. let w = not-either (frame_sandboxed d.identity a) (is_null (origin_of o)) z in
      sandboxed-either d.identity a w.0
      (λ y. in_container (rw e (marked-told cs d m y)) (not_null (origin_of o) w.1))
      (λ y. in_attribute y (not_null (origin_of o) w.1)))
      free v
    where
      free : not (frame_sandboxed d.identity a) || is_null (origin_of o) ≡ true → Holds (history cs) (framed_load c h o a) sandboxed → ⊥
      free z (in_container y f) =
          f (is-null (origin_of o) (not-or-true (frame_sandboxed d.identity a) (is_null (origin_of o)) z (sandboxed-by-container d.identity a (told-marked cs d m (rw e at y)))))
      free z (in_attribute y f) =
          f (is-null (origin_of o) (not-or-true (frame_sandboxed d.identity a) (is_null (origin_of o)) z (sandboxed-by-attributes d.identity a y)))

  fitting-verdict : (c : Call) → Verdict es c 1 (fitting_outcome c t)
  unfolding fitting_outcome
  fitting-verdict (top_load h o) =
      unless-verdict bad_origin BadOrigin refl (is_good_at_top (origin_of o)) _ (top_of es h o (origin_of o) refl) (top-not es h o)
      (extend 2 6 (omega arith) gap (load-verdict (top_load h o) is_top end _ _ _))
    where
      gap : (q : Row) → 2 ≤ place q → place q < 6 → Holds (history cs) (top_load h o) q → ⊥
      gap q l b (long x i z) = omega arith
      gap q l b (top_bad z) = omega arith
      gap q l b (top_empty z) = omega arith
      gap q l b (closed s n f) = elim n [ ]
      gap q l b (all_loaded k i a z) = omega arith
      gap q l b (all_given i z g) = omega arith

      end : (q : Row) → 8 ≤ place q → Holds (history cs) (top_load h o) q → ⊥
      end q l (long x i z) = omega arith
      end q l (top_bad z) = omega arith
      end q l (top_empty z) = omega arith
      end q l (closed s n f) = elim n [ ]
      end q l (all_loaded k i a z) = omega arith
      end q l (all_given i z g) = omega arith
  fitting-verdict (framed_load c h o a) =
      unless-verdict bad_origin BadOrigin refl (is_good_origin (origin_of o)) _ (λ z. framed_bad (not_good (origin_of o) z)) good
      (unless-verdict bad_src BadOrigin refl (is_good_origin (origin_of a.src)) _ (λ z. framed_src (not_good (origin_of a.src) z)) src
      (extend 3 4 (omega arith) gap
      (with-verdict (framed_load c h o a) c framed_names only _ (λ d m e. sandbox-verdict c h o a d m e _ (load-verdict (framed_load c h o a) is_framed end _ _ _)) (find c t.docs) (finds c t.docs))))
    where
      good : is_good_origin (origin_of o) ≡ true → Holds (history cs) (framed_load c h o a) bad_origin → ⊥
      good z (framed_bad y) = good-not (origin_of o) z y

      src : is_good_origin (origin_of a.src) ≡ true → Holds (history cs) (framed_load c h o a) bad_src → ⊥
      src z (framed_src y) = good-not (origin_of a.src) z y

      only : (k : ℕ) → Names (framed_load c h o a) k → k ≡ c
      only k framed_names = refl

      gap : (q : Row) → 3 ≤ place q → place q < 4 → Holds (history cs) (framed_load c h o a) q → ⊥
      gap q l b (long x i z) = omega arith
      gap q l b (framed_bad z) = omega arith
      gap q l b (framed_src z) = omega arith
      gap q l b (closed s n f) = omega arith
      gap q l b (in_container y f) = omega arith
      gap q l b (in_attribute y f) = omega arith
      gap q l b (all_loaded k i y z) = omega arith
      gap q l b (all_given i z g) = omega arith

      end : (q : Row) → 8 ≤ place q → Holds (history cs) (framed_load c h o a) q → ⊥
      end q l (long x i z) = omega arith
      end q l (framed_bad z) = omega arith
      end q l (framed_src z) = omega arith
      end q l (closed s n f) = omega arith
      end q l (in_container y f) = omega arith
      end q l (in_attribute y f) = omega arith
      end q l (all_loaded k i y z) = omega arith
      end q l (all_given i z g) = omega arith
  fitting-verdict (unload s) =
      extend 1 4 (omega arith) gap (with-verdict (unload s) s unload_names only _ (λ d m e. passed refl end) (find s t.docs) (finds s t.docs))
    where
      only : (k : ℕ) → Names (unload s) k → k ≡ s
      only k unload_names = refl

      gap : (q : Row) → 1 ≤ place q → place q < 4 → Holds (history cs) (unload s) q → ⊥
      gap q l b (long x i z) = elim i [ ]
      gap q l b (closed k n f) = omega arith
      gap q l b (all_loaded k i y z) = elim i [ ]
      gap q l b (all_given i z g) = elim i [ ]

      end : (q : Row) → 5 ≤ place q → Holds (history cs) (unload s) q → ⊥
      end q l (long x i z) = elim i [ ]
      end q l (closed k n f) = omega arith
      end q l (all_loaded k i y z) = elim i [ ]
      end q l (all_given i z g) = elim i [ ]
  fitting-verdict (question s f o) =
      unless-verdict bad_origin BadOrigin refl (is_good_origin (origin_of o)) _ (λ z. question_bad (not_good (origin_of o) z)) good
      (extend 2 3 (omega arith) gap
      (unless-verdict no_feature NoSuchFeature refl (ltb f feature_count) _ (λ z. over_sixteen (omega (arith, ltb-false))) known
      (with-verdict (question s f o) s question_names only _ (λ d m e. passed refl end) (find s t.docs) (finds s t.docs))))
    where
      good : is_good_origin (origin_of o) ≡ true → Holds (history cs) (question s f o) bad_origin → ⊥
      good z (question_bad y) = good-not (origin_of o) z y

      known : ltb f feature_count ≡ true → Holds (history cs) (question s f o) no_feature → ⊥
      known z (over_sixteen y) = omega (arith, ltb-true)

      only : (k : ℕ) → Names (question s f o) k → k ≡ s
      only k question_names = refl

      gap : (q : Row) → 2 ≤ place q → place q < 3 → Holds (history cs) (question s f o) q → ⊥
      gap q l b (long x i z) = elim i [ ]
      gap q l b (question_bad y) = omega arith
      gap q l b (over_sixteen y) = omega arith
      gap q l b (closed k n g) = omega arith
      gap q l b (all_loaded k i y z) = elim i [ ]
      gap q l b (all_given i z g) = elim i [ ]

      end : (q : Row) → 5 ≤ place q → Holds (history cs) (question s f o) q → ⊥
      end q l (long x i z) = elim i [ ]
      end q l (question_bad y) = omega arith
      end q l (over_sixteen y) = omega arith
      end q l (closed k n g) = omega arith
      end q l (all_loaded k i y z) = elim i [ ]
      end q l (all_given i z g) = elim i [ ]
  fitting-verdict (enabled_features s) =
      extend 1 4 (omega arith) gap (with-verdict (enabled_features s) s enabled_names only _ (λ d m e. passed refl end) (find s t.docs) (finds s t.docs))
    where
      only : (k : ℕ) → Names (enabled_features s) k → k ≡ s
      only k enabled_names = refl

      gap : (q : Row) → 1 ≤ place q → place q < 4 → Holds (history cs) (enabled_features s) q → ⊥
      gap q l b (long x i z) = elim i [ ]
      gap q l b (closed k n f) = omega arith
      gap q l b (all_loaded k i y z) = elim i [ ]
      gap q l b (all_given i z g) = elim i [ ]

      end : (q : Row) → 5 ≤ place q → Holds (history cs) (enabled_features s) q → ⊥
      end q l (long x i z) = elim i [ ]
      end q l (closed k n f) = omega arith
      end q l (all_loaded k i y z) = elim i [ ]
      end q l (all_given i z g) = elim i [ ]
  fitting-verdict (listing s run) =
      extend 1 4 (omega arith) gap
      (with-verdict (listing s run) s listing_names only _
      (λ d m e. extend 5 10 (omega arith) gap' (unless-verdict small Small refl (leb (length (serials_beneath s t.docs)) (length run)) _ (λ z. short_run (serials_beneath s t.docs) (beneath-list cs s) (omega (arith, leb-false))) enough (passed refl end)))
      (find s t.docs) (finds s t.docs))
    where
      only : (k : ℕ) → Names (listing s run) k → k ≡ s
      only k listing_names = refl

      enough : leb (length (serials_beneath s (table_after cs).docs)) (length run) ≡ true → Holds (history cs) (listing s run) small → ⊥
      enough z (short_run l a y) =
          let w : length l ≡ length (serials_beneath s (table_after cs).docs) = ap length (exactly-one (λ k. LoadedIn (history cs) k × BeneathIn (history cs) k s) l (serials_beneath s (table_after cs).docs) a (beneath-list cs s)) in
          omega (arith, leb-true)

      gap : (q : Row) → 1 ≤ place q → place q < 4 → Holds (history cs) (listing s run) q → ⊥
      gap q l b (long x i z) = elim i [ ]
      gap q l b (closed k n f) = omega arith
      gap q l b (all_loaded k i y z) = elim i [ ]
      gap q l b (all_given i z g) = elim i [ ]
      gap q l b (short_run k i z) = omega arith

      gap' : (q : Row) → 5 ≤ place q → place q < 10 → Holds (history cs) (listing s run) q → ⊥
      gap' q l b (long x i z) = elim i [ ]
      gap' q l b (closed k n f) = omega arith
      gap' q l b (all_loaded k i y z) = elim i [ ]
      gap' q l b (all_given i z g) = elim i [ ]
      gap' q l b (short_run k i z) = omega arith

      end : (q : Row) → 11 ≤ place q → Holds (history cs) (listing s run) q → ⊥
      end q l (long x i z) = elim i [ ]
      end q l (closed k n f) = omega arith
      end q l (all_loaded k i y z) = elim i [ ]
      end q l (all_given i z g) = elim i [ ]
      end q l (short_run k i z) = omega arith
  fitting-verdict (forecast_of c a) =
      extend 1 2 (omega arith) gap
      (unless-verdict bad_src BadOrigin refl (is_good_origin (origin_of a.src)) _ (λ z. forecast_src (not_good (origin_of a.src) z)) src
      (extend 3 4 (omega arith) gap'
      (with-verdict (forecast_of c a) c forecast_names only _ (λ d m e. passed refl end) (find c t.docs) (finds c t.docs))))
    where
      src : is_good_origin (origin_of a.src) ≡ true → Holds (history cs) (forecast_of c a) bad_src → ⊥
      src z (forecast_src y) = good-not (origin_of a.src) z y

      only : (k : ℕ) → Names (forecast_of c a) k → k ≡ c
      only k forecast_names = refl

      gap : (q : Row) → 1 ≤ place q → place q < 2 → Holds (history cs) (forecast_of c a) q → ⊥
      gap q l b (long x i z) = omega arith
      gap q l b (forecast_src y) = omega arith
      gap q l b (closed k n f) = omega arith
      gap q l b (all_loaded k i y z) = elim i [ ]
      gap q l b (all_given i z g) = elim i [ ]

      gap' : (q : Row) → 3 ≤ place q → place q < 4 → Holds (history cs) (forecast_of c a) q → ⊥
      gap' q l b (long x i z) = omega arith
      gap' q l b (forecast_src y) = omega arith
      gap' q l b (closed k n f) = omega arith
      gap' q l b (all_loaded k i y z) = elim i [ ]
      gap' q l b (all_given i z g) = elim i [ ]

      end : (q : Row) → 5 ≤ place q → Holds (history cs) (forecast_of c a) q → ⊥
      end q l (long x i z) = omega arith
      end q l (forecast_src y) = omega arith
      end q l (closed k n f) = omega arith
      end q l (all_loaded k i y z) = elim i [ ]
      end q l (all_given i z g) = elim i [ ]

  verdict : (c : Call) → Verdict es c 0 (outcome c t)
  unfolding outcome
  verdict c = unless-verdict input_long TooLong refl (texts_fit c) (fitting_outcome c t) (is-long es c) (not-long es c) (fitting-verdict c)

pub refused_by_first : (cs : List Call) (c : Call) (n : ℕ) → answer_to c (table_after cs) ≡ refused n → (r : Row) × First (history cs) c r × (refusal_of r ≡ n)
unfolding answer_to
refused_by_first cs c n e = answer-first (outcome c (table_after cs)) (verdict cs c) n e

pub first_is_refused : (cs : List Call) (c : Call) (r : Row) → First (history cs) c r → answer_to c (table_after cs) ≡ refused (refusal_of r)
unfolding answer_to
first_is_refused cs c r f = first-answer (outcome c (table_after cs)) (verdict cs c) r f

-- the table after a refusal is the one before, so later answers are as if the call hadn't been made
pub refused_changes_nothing : (cs : List Call) (c : Call) (n : ℕ) (ds : List Call) → answer_to c (table_after cs) ≡ refused n → answers_after (cs ++ (c ∷ [])) ds ≡ answers_after cs ds
unfolding left_by
refused_changes_nothing cs c n ds e = ap (answers_by answer_to table_left ds) (table-append cs (c ∷ []) ∙ refused-keeps c (table_after cs) n e)
