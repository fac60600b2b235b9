-- What each return of the calls answers, in the terms of the code. Assumes nothing.
use Rattle.std.specs.Prelude.{Ok, Err}
use Rattle.std.specs.Prelude.{Some}
use Rattle.std.specs.Prelude.{Option, is_some}
use mathlib.Core.Path.{◌≡◌, refl, ap, sym, ◌∙◌}
use Prim.Native.Nat.{ℕ, suc, ◌*◌, ◌≤◌, ◌<◌}
use native.Mathlib.Omega.{arith}
use mathlib.Core.List.{List, [], ◌∷◌, ◌++◌}
use mathlib.Core.Bool.{Bool, true, false, not}
use Rattle.std.specs.Prelude.{None}
use lib.ListN.{length, take, drop}
use borrow.Author.Tests.{lt-ltb, le-ltb}
use Rattle.ascii.proofs.Clash.{clash}
use Rattle.limits.specs.declared.Refusal.{Refusal}
use Rattle.limits.specs.declared.Refusal.TheVariants.{NotLoaded, NoSuchFeature, BadOrigin, Small}
use Rattle.features.specs.Features.{feature_count}
use Rattle.ascii.specs.Bytes.{pick}
use Rattle.origins.specs.Origins.{OriginSaid, origin_of}
use Rattle.origins.specs.Origins.OriginSaid.{says_empty, says_null, says_tuple, no_origin}
use Rattle.origins.specs.Answers.{origin_as}
use Rattle.origins.specs.declared.OriginText.{OriginText}
use Rattle.decisions.specs.Decisions.{decided}
use Rattle.decisions.specs.Decisions.Decision.{disabled, enabled}
use Rattle.decisions.specs.Policies.{question_in as question_policy, enabled_mask}
use Rattle.decisions.proofs.Everywhere.{decided-on, decided-off}
use Rattle.document_model.specs.Model.{Text, Document, Table as ModelTable, is_good_origin, asked_at, policy_of, remaining, removed_count, serials_beneath, stored, Call, unload, question as ask, enabled_features, listing as list, decision, serials, refused, removed, features, Outcome, accept, refuse, outcome, answer_to, table_left}
use Rattle.document_model.proofs.Laws.{table-one, table_none, serials-ascend, stored-front}
use Rattle.document_model.proofs.RowByRow.{answer-of, table_of, question_bad, question-feature, question-closed, question-answer, enabled-closed, enabled-answer, unload-closed, unload-answer, listing-closed, listing-small, listing-answer}
use Rattle.document_records.specs.Slots.{own_origin, document_in, slot_policy}
use Rattle.document_records.proofs.Laws.{document-policy, document-origin}
use Rattle.document_table.specs.Layout.{table_bytes, count_in, last_in, serial_at, doc_at, docs_in, view, new_run}
use Rattle.document_table.specs.Tables.{Sound, Ascends, IsFound, IsSlot, IsRemoved, no_serials, AreSerials}
use Rattle.document_table.specs.declared.Serials.{Serials}
use Rattle.document_table.proofs.Laws.{doc-at, doc-serial, docs-are, new-sound, new-view}
use Rattle.document_table.proofs.Prefixes.{same-sound, same_view}
use Rattle.documents.specs.Bytes.{bytes_in, bytes_left}
use Rattle.documents.specs.Answers.{Valid, new_refusal, IsNew, Unloads, Lists}

-- ---- what holds of a table that calls left

pub valid-ascends : (run : List ℕ) → Valid run → Ascends run
valid-ascends run v =
    record {
      up = λ i j lt less.
          let h = serials-ascend v.calls (doc_at run) (count_in run) (sym (docs-are run) ∙ ap (λ (t : ModelTable). t.docs) v.left) i j lt less in
          omega (arith, doc-serial run i, doc-serial run j);
    }

-- a table may be moved to other memory, whatever lies past it
pub same-valid : (a b : List ℕ) → take table_bytes b ≡ take table_bytes a → Valid a → Valid b × (view b ≡ view a)
same-valid a b same v =
    let seen = same_view a b same v.sound in
    (record { sound = same-sound a b same v.sound; calls = v.calls; left = seen ∙ v.left }, seen)

-- bytes that say the table which a call leaves
pub valid-next : (c : Call) (run after : List ℕ) → Valid run → Sound after → view after ≡ table_left c (view run) → Valid after
valid-next c run after v s e = record { sound = s; calls = v.calls ++ (c ∷ []); left = e ∙ (ap (table_left c) v.left ∙ sym (table-one v.calls c)) }

-- the bytes that a call leaves, by its outcome
pub bytes-of : (c : Call) (run : List ℕ) (x : Outcome) → outcome c (view run) ≡ x → bytes_left c run ≡ bytes_in c x run
unfolding bytes_left
bytes-of c run x e = ap (λ (y : Outcome). bytes_in c y run) e

-- ---- a new table

pub new-small : (run : List ℕ) → length run < table_bytes → IsNew run run (Err Small)
unfolding pick
new-small run h =
    record {
      answer = rw (lt-ltb (length run) table_bytes h) refl;
      bytes = rw (lt-ltb (length run) table_bytes h) refl;
      valid = λ e. let z : ◌≡◌ {A = ℕ} 0 1 = cc in absurd (omega arith);
      table = λ e. clash cc;
    }

pub new-ready : (run after : List ℕ) → table_bytes ≤ length run → after ≡ new_run run → IsNew run after (Ok tt)
unfolding pick
new-ready run after h e =
    record {
      answer = rw (le-ltb (length run) table_bytes h) refl;
      bytes = rw (le-ltb (length run) table_bytes h) e;
      valid = λ q. rw e (record { sound = new-sound run h; calls = []; left = new-view run h ∙ sym table_none });
      table = λ q. rw e (new-view run h);
    }

-- 02, R-4: "(4 MiB never is)"
pub never-short : (run : List ℕ) → 4 * 1024 * 1024 ≤ length run → new_refusal run ≡ None
unfolding pick
never-short run h = rw (le-ltb (length run) table_bytes (omega arith)) refl

-- ---- a question

-- whether a text is an origin text
some-is : (o : OriginSaid) → is_some (origin_as o) ≡ is_good_origin o
some-is says_empty = refl
some-is says_null = refl
some-is (says_tuple p) = refl
some-is no_origin = refl

pub good-is : (o : Text) (x : Option OriginText) (b c : Bool) → x ≡ origin_as (origin_of o) → is_some x ≡ not b → b ≡ c → is_good_origin (origin_of o) ≡ not c
good-is o x b c e h k = sym (some-is (origin_of o)) ∙ (ap is_some (sym e) ∙ (h ∙ ap not k))

-- the document that is found is that of its slot
pub found_below : (run : List ℕ) (s i : ℕ) (f : Option ℕ) → IsFound run s f → f ≡ Some i → i < count_in run
found_below run s i f h k = (h.some_at i k).0

pub slot-document : (run u : List ℕ) (i : ℕ) → IsSlot run i u → doc_at run i ≡ document_in (serial_at run i) u
slot-document run u i e = doc-at run i ∙ ap (document_in (serial_at run i)) (sym e.is)

pub slot-is-policy : (run u : List ℕ) (i : ℕ) → IsSlot run i u → policy_of (doc_at run i) ≡ slot_policy u
slot-is-policy run u i e = ap policy_of (slot-document run u i e) ∙ document-policy (serial_at run i) u

slot-is-origin : (run u : List ℕ) (i : ℕ) → IsSlot run i u → (doc_at run i).identity.origin ≡ own_origin u
slot-is-origin run u i e = ap (λ (d : Document). d.identity.origin) (slot-document run u i e) ∙ document-origin (serial_at run i) u

module _ (t : List ℕ) (s n : ℕ) (o : Text) (x : Option OriginText) (read : x ≡ origin_as (origin_of o)) where
  pub refused-bad : x ≡ None → refused 3 ≡ answer_to (ask s n o) (view t)
  refused-bad k = sym (answer-of (ask s n o) (view t) (refuse BadOrigin) (question_bad s n o (view t) (good-is o x true true read (ap is_some k) refl)))

  module _ (y : OriginText) (reads : x ≡ Some y) where
    good : is_good_origin (origin_of o) ≡ true
    good = good-is o x false false read (ap is_some reads) refl

    pub refused-feature : feature_count ≤ n → refused 2 ≡ answer_to (ask s n o) (view t)
    refused-feature h = sym (answer-of (ask s n o) (view t) (refuse NoSuchFeature) (question-feature s n o (view t) good h))

    module _ (lt : n < feature_count) (f : Option ℕ) (h : IsFound t s f) where
      pub refused-question : f ≡ None → refused 1 ≡ answer_to (ask s n o) (view t)
      refused-question k = sym (answer-of (ask s n o) (view t) (refuse NotLoaded) (question-closed s n o (view t) good lt (h.none_at k)))

      module _ (i : ℕ) (u : List ℕ) (d : Bool) (k : f ≡ Some i) (e : IsSlot t i u) (asks : decided d ≡ question_policy (slot_policy u) n (asked_at (origin_of o) (own_origin u))) where
        answered : decision (decided d) ≡ answer_to (ask s n o) (view t)
        answered =
            ap decision (asks ∙ rw (← (slot-is-policy t u i e), ← (slot-is-origin t u i e)) refl)
            ∙ sym
            (answer-of (ask s n o) (view t) (accept (decision (question_policy (policy_of (doc_at t i)) n (asked_at (origin_of o) (doc_at t i).identity.origin))) (view t))
            (question-answer s n o (view t) good lt (doc_at t i) (h.some_at i k).1))

        pub answered-enabled : d ≡ true → decision enabled ≡ answer_to (ask s n o) (view t)
        answered-enabled q = ap decision (sym (ap decided q ∙ decided-on)) ∙ answered

        pub answered-disabled : d ≡ false → decision disabled ≡ answer_to (ask s n o) (view t)
        answered-disabled q = ap decision (sym (ap decided q ∙ decided-off)) ∙ answered

-- ---- the number of enabled features

module _ (t : List ℕ) (s : ℕ) (f : Option ℕ) (h : IsFound t s f) where
  pub refused-features : f ≡ None → refused 1 ≡ answer_to (enabled_features s) (view t)
  refused-features k = sym (answer-of (enabled_features s) (view t) (refuse NotLoaded) (enabled-closed s (view t) (h.none_at k)))

  pub answered-features : (i : ℕ) (u : List ℕ) (m : ℕ) → f ≡ Some i → IsSlot t i u → m ≡ enabled_mask (slot_policy u)
      → features m ≡ answer_to (enabled_features s) (view t)
  answered-features i u m k e q =
      ap features (q ∙ ap enabled_mask (sym (slot-is-policy t u i e)))
      ∙ sym (answer-of (enabled_features s) (view t) (accept (features (enabled_mask (policy_of (doc_at t i)))) (view t)) (enabled-answer s (view t) (doc_at t i) (h.some_at i k).1))

-- ---- an unload

-- by its outcome
pub kept-unload : (t : List ℕ) (s : ℕ) (n : Refusal) → Valid t → outcome (unload s) (view t) ≡ refuse n → Unloads (unload s) t t (Err n)
kept-unload t s n valid e =
    record { valid = valid; answer = sym (answer-of (unload s) (view t) (refuse n) e); table = sym (table_of (unload s) (view t) (refuse n) e); bytes = sym (bytes-of (unload s) t (refuse n) e) }

pub removed-unload : (t u : List ℕ) (s n : ℕ) → Valid t → outcome (unload s) (view t) ≡ accept (removed (removed_count s (docs_in t))) (record { docs = remaining s (docs_in t); next = suc (last_in t) }) → IsRemoved t s u n
    → Unloads (unload s) t u (Ok n)
removed-unload t u s n valid e gone =
    let after : ModelTable = record { docs = remaining s (docs_in t); next = suc (last_in t) } in
    let docs : docs_in u ≡ remaining s (docs_in t) = gone.docs in
    let next : suc (last_in u) ≡ suc (last_in t) = ap suc gone.last in
    let seen : view u ≡ after = cc in
    let left : view u ≡ table_left (unload s) (view t) = seen ∙ sym (table_of (unload s) (view t) (accept (removed (removed_count s (docs_in t))) after) e) in
    record {
      valid = valid-next (unload s) t u valid gone.sound left;
      answer = ap removed gone.count ∙ sym (answer-of (unload s) (view t) (accept (removed (removed_count s (docs_in t))) after) e);
      table = left;
      bytes = gone.is ∙ sym (bytes-of (unload s) t (accept (removed (removed_count s (docs_in t))) after) e);
    }

module _ (t : List ℕ) (s : ℕ) (f : Option ℕ) (valid : Valid t) (h : IsFound t s f) where
  pub refused-unload : f ≡ None → Unloads (unload s) t t (Err NotLoaded)
  refused-unload k = kept-unload t s NotLoaded valid (unload-closed s (view t) (h.none_at k))

  pub answered-unload : (i n : ℕ) (u : List ℕ) → f ≡ Some i → IsRemoved t s u n → Unloads (unload s) t u (Ok n)
  answered-unload i n u k gone = removed-unload t u s n valid (unload-answer s (view t) (doc_at t i) (h.some_at i k).1) gone

-- ---- a listing

module _ (t : List ℕ) (s : ℕ) (run : List ℕ) (f : Option ℕ) (h : IsFound t s f) where
  pub refused-listing : f ≡ None → Lists (list s run) t run run (Err NotLoaded)
  refused-listing k = record { answer = sym (answer-of (list s run) (view t) (refuse NotLoaded) (listing-closed s run (view t) (h.none_at k))); refusal = λ n q. refl }

  module _ (i : ℕ) (k : f ≡ Some i) (r : Serials) (are : AreSerials t s r.count r.list) (xs : List ℕ) (front : xs ≡ take r.count r.list) where
    listed-are : xs ≡ serials_beneath s (docs_in t)
    listed-are = front ∙ rw (are.many, are.stands) (stored-front (serials_beneath s (docs_in t)) no_serials)

    pub small-listing : length run < length xs → Lists (list s run) t run run (Err Small)
    small-listing lt =
        let less : length run < length (serials_beneath s (docs_in t)) = rw listed-are at lt in
        record { answer = sym (answer-of (list s run) (view t) (refuse Small) (listing-small s run (view t) (doc_at t i) (h.some_at i k).1 less)); refusal = λ n q. refl }

    stored-whole : (m : List ℕ) → m ≡ xs → m ++ drop (length xs) run ≡ stored xs run
    unfolding stored
    stored-whole m e = rw e

    pub answered-listing : (m : List ℕ) → length xs ≤ length run → m ≡ xs → Lists (list s run) t run (m ++ drop (length xs) run) (Ok (length xs))
    answered-listing m le same =
        let e = stored-whole m same in
        let l = serials_beneath s (docs_in t) in
        let fits : length (serials_beneath s (docs_in t)) ≤ length run = rw listed-are at le in
        record {
          answer =
              ap (serials (length xs)) (e ∙ ap (λ (m : List ℕ). stored m run) listed-are)
              ∙ (ap (λ (m : List ℕ). serials (length m) (stored l run)) listed-are
              ∙ sym (answer-of (list s run) (view t) (accept (serials (length l) (stored l run)) (view t)) (listing-answer s run (view t) (doc_at t i) (h.some_at i k).1 fits)));
          refusal = λ n q. clash cc;
        }
