-- What each call does, in one of four ways; so each property of lists of calls is four cases. With it the counts, and that each document is what its load made of its container. Assumes nothing.
use mathlib.Core.Path.{◌≡◌, refl, ap, ◌∙◌}
use Prim.Native.Nat.{ℕ, suc, ◌+◌, ◌≤◌, ◌<◌}
use native.Mathlib.Omega.{arith}
use mathlib.Core.Bool.{Bool, true, false}
use Rattle.std.specs.Prelude.{Option}
use mathlib.Core.List.{List, [], ◌∷◌, ◌++◌}
use lib.Dec.{ltb→lt, leb→le}
use lib.ListN.{length, length-append}
use Rattle.ascii.proofs.Clash.{clash}
use Rattle.limits.specs.Limits.{document_limit, last_serial}
use Rattle.limits.specs.Refusals.{refusal_number}
use Rattle.limits.specs.declared.Refusal.{Refusal}
use Rattle.limits.specs.declared.Refusal.TheVariants.{NotLoaded, NoSuchFeature, BadOrigin, TooLong, Sandbox, Full, Spent, Small}
use Rattle.origins.specs.Origins.{OriginSaid, origin_of}
use Rattle.document_model.specs.Runs.{left_by, answers_by}
use Rattle.containers.specs.Attributes.{Attributes}
use Rattle.document_model.specs.Model.{Text, Identity, Document, Table, new_table, is_at_or_beneath, find, remaining, removed_count, Call, top_load, framed_load, unload, question, enabled_features, listing, forecast_of, Answer, refused, loaded, removed, Outcome, refuse, accept, refuse_unless, with_document, texts_fit, load, top_identity, framed_identity, top_document, framed_document, fitting_outcome, outcome, answer_in, table_in, answer_to, table_left, table_after, answers, answers_after}
use Rattle.document_model.specs.History.{Event, Gave, gave_top, gave_framed, Unloaded, unloaded, Happened, last, earlier, events_from, history, accepted_load, unload_answer, accepted_loads, unload_sum}
use Rattle.document_model.proofs.Booleans.{order}
use Rattle.document_model.proofs.TwoRuns.{left-append, answers-append}
use Rattle.document_model.proofs.Tables.{In, in_left, in-push, in-remaining, remaining-in, container-stays, Finds, missing, hit, finds, count}

-- further calls go on from the table that the calls before them left
pub table-append : (cs ds : List Call) → table_after (cs ++ ds) ≡ left_by table_left ds (table_after cs)
unfolding table_after
table-append cs ds = left-append table_left cs ds new_table

-- one call more
pub table-one : (cs : List Call) (c : Call) → table_after (cs ++ (c ∷ [])) ≡ table_left c (table_after cs)
unfolding left_by
table-one cs c = table-append cs (c ∷ [])

pub table_none : table_after [] ≡ new_table
unfolding table_after left_by
table_none = refl

pub answers-after : (cs ds : List Call) → answers (cs ++ ds) ≡ answers cs ++ answers_after cs ds
unfolding answers table_after
answers-after cs ds = answers-append answer_to table_left cs ds new_table

-- one call more
pub answers_one : (cs : List Call) (c : Call) → answers (cs ++ (c ∷ [])) ≡ answers cs ++ (answer_to c (table_after cs) ∷ [])
unfolding answers_by
answers_one cs c = answers-after cs (c ∷ [])

-- from the new table on
pub answers-are : (cs : List Call) → answers cs ≡ answers_by answer_to table_left cs new_table
unfolding answers
answers-are cs = refl

pub table_is : (cs : List Call) → table_after cs ≡ left_by table_left cs new_table
unfolding table_after
table_is cs = refl

-- what holds of a call's answer and of the table that it leaves
abbrev pub Ends : (Answer → Table → Type 0) → Table → Outcome → Type 0
Ends P t (refuse n) = P (refused (refusal_number n)) t
Ends P t (accept a u) = P a u

pub unless-ends : (P : Answer → Table → Type 0) (t : Table) (n : Refusal) (b : Bool) (k : Outcome) → ((m : ℕ) → P (refused m) t) → (b ≡ true → Ends P t k) → Ends P t (refuse_unless n b k)
unfolding refuse_unless
unless-ends P t n true k r h = h refl
unless-ends P t n false k r h = r (refusal_number n)

pub with-ends : (P : Answer → Table → Type 0) (t : Table) (s : ℕ) (ds : List Document) (o : Option Document) → Finds s ds o → (k : Document → Outcome) → ((m : ℕ) → P (refused m) t) → ((d : Document) → In d ds → s ≡ d.identity.serial → Ends P t (k d)) → Ends P t (with_document o k)
unfolding with_document
with-ends P t s ds o (missing none-there) k r h = r (refusal_number NotLoaded)
with-ends P t s ds o (hit d m e) k r h = h d m e

pub ends : (P : Answer → Table → Type 0) (t : Table) (o : Outcome) → Ends P t o → P (answer_in o) (table_in o t)
ends P t (refuse n) h = h
ends P t (accept a u) h = h

abbrev pub pushed : Table → Document → Table
pushed t x = record { docs = t.docs ++ (x ∷ []); next = suc t.next }

pub data Effect (t : Table) : Call → Answer → Table → Type 0 where
  -- a refusal, or a question of any kind
  nothing_else : {c : Call} {a : Answer} → ((s : ℕ) → Gave c a s → ⊥) → ((s : ℕ) → Unloaded c a s → ⊥) → accepted_load a ≡ 0 → unload_answer a ≡ 0 → Effect t c a t
  top_loaded : (h o : Text) (m : Bool) → length t.docs < document_limit → t.next ≤ last_serial → Effect t (top_load h o) (loaded t.next m) (pushed t (top_document h (top_identity (origin_of o) t.next)))
  frame_loaded : (c : ℕ) (h o : Text) (a : Attributes) (m : Bool) (d : Document) → In d t.docs → c ≡ d.identity.serial → length t.docs < document_limit → t.next ≤ last_serial →
      Effect t (framed_load c h o a) (loaded t.next m) (pushed t (framed_document d h a (framed_identity d.identity a (origin_of o) t.next)))
  all_removed : (s : ℕ) → Effect t (unload s) (removed (removed_count s t.docs)) (record { docs = remaining s t.docs; next = t.next })

-- a refused call gave no serial and removed nothing
gave-refused : {c : Call} {a : Answer} {s : ℕ} → Gave c a s → (n : ℕ) → a ≡ refused n → ⊥
gave-refused gave_top n e = clash cc
gave-refused gave_framed n e = clash cc

unloaded-refused : {c : Call} {a : Answer} {u : ℕ} → Unloaded c a u → (n : ℕ) → a ≡ refused n → ⊥
unloaded-refused unloaded n e = clash cc

stopped : (t : Table) (c : Call) (n : ℕ) → Effect t c (refused n) t
stopped t c n = nothing_else {c = c} {a = refused n} (λ s g. gave-refused g n refl) (λ s u. unloaded-refused u n refl) refl refl

load-effect : (c : Call) (t : Table) (b : Bool) (make : Identity → Document) (identity : ℕ → Identity) → (length t.docs < document_limit → t.next ≤ last_serial → Effect t c (loaded t.next b) (pushed t (make (identity t.next)))) → Ends (Effect t c) t (load t b make identity)
unfolding load
load-effect c t b make identity f =
    unless-ends (Effect t c) t Full _ _ (stopped t c) λ p. unless-ends (Effect t c) t Spent _ _ (stopped t c) λ q.
    f (ltb→lt (length t.docs) document_limit (rw p tt)) (leb→le t.next last_serial (rw q tt))

fitting-effect : (c : Call) (t : Table) → Ends (Effect t c) t (fitting_outcome c t)
unfolding fitting_outcome
fitting-effect (top_load h o) t =
    let c : Call = top_load h o in
    unless-ends (Effect t c) t BadOrigin _ _ (stopped t c) λ _. load-effect c t _ _ _ (top_loaded h o _)
fitting-effect (framed_load k h o a) t =
    let c : Call = framed_load k h o a in
    let r = stopped t c in
    unless-ends (Effect t c) t BadOrigin _ _ r λ _. unless-ends (Effect t c) t BadOrigin _ _ r λ _.
    with-ends (Effect t c) t k t.docs (find k t.docs) (finds k t.docs) _ r λ d m e.
    unless-ends (Effect t c) t Sandbox _ _ r λ _. load-effect c t _ _ _ (frame_loaded k h o a _ d m e)
fitting-effect (unload s) t = with-ends (Effect t (unload s)) t s t.docs (find s t.docs) (finds s t.docs) _ (stopped t (unload s)) λ d m e. all_removed s
fitting-effect (question s f o) t =
    let r = stopped t (question s f o) in
    unless-ends (Effect t (question s f o)) t BadOrigin _ _ r λ _. unless-ends (Effect t (question s f o)) t NoSuchFeature _ _ r λ _.
    with-ends (Effect t (question s f o)) t s t.docs (find s t.docs) (finds s t.docs) _ r λ d m e. nothing_else (λ s g. elim g [ ]) (λ s u. elim u [ ]) refl refl
fitting-effect (enabled_features s) t = with-ends (Effect t (enabled_features s)) t s t.docs (find s t.docs) (finds s t.docs) _ (stopped t (enabled_features s)) λ d m e. nothing_else (λ s g. elim g [ ]) (λ s u. elim u [ ]) refl refl
fitting-effect (listing s run) t =
    let r = stopped t (listing s run) in
    with-ends (Effect t (listing s run)) t s t.docs (find s t.docs) (finds s t.docs) _ r λ d m e.
    unless-ends (Effect t (listing s run)) t Small _ _ r λ _. nothing_else (λ s g. elim g [ ]) (λ s u. elim u [ ]) refl refl
fitting-effect (forecast_of k a) t =
    let r = stopped t (forecast_of k a) in
    unless-ends (Effect t (forecast_of k a)) t BadOrigin _ _ r λ _.
    with-ends (Effect t (forecast_of k a)) t k t.docs (find k t.docs) (finds k t.docs) _ r λ d m e. nothing_else (λ s g. elim g [ ]) (λ s u. elim u [ ]) refl refl

outcome-effect : (c : Call) (t : Table) → Ends (Effect t c) t (outcome c t)
unfolding outcome
outcome-effect c t = unless-ends (Effect t c) t TooLong (texts_fit c) (fitting_outcome c t) (stopped t c) (λ _. fitting-effect c t)

pub effect : (c : Call) (t : Table) → Effect t c (answer_to c t) (table_left c t)
unfolding answer_to table_left
effect c t = ends (Effect t c) t (outcome c t) (outcome-effect c t)

-- a call that is refused leaves the table as it was
same-table : (t u : Table) (c : Call) (a : Answer) (n : ℕ) → a ≡ refused n → Effect t c a u → u ≡ t
same-table t u c a n e (nothing_else g v l r) = refl
same-table t u c a n e (top_loaded h o m p q) = clash cc
same-table t u c a n e (frame_loaded k h o b m d i q p z) = clash cc
same-table t u c a n e (all_removed s) = clash cc

pub refused-keeps : (c : Call) (t : Table) (n : ℕ) → answer_to c t ≡ refused n → table_left c t ≡ t
refused-keeps c t n e = same-table t (table_left c t) c (answer_to c t) n e (effect c t)

-- and so does a question of any kind
abbrev pub asks_only : Call → Bool
asks_only (top_load h o) = false
asks_only (framed_load c h o a) = false
asks_only (unload s) = false
asks_only (question s f o) = true
asks_only (enabled_features s) = true
asks_only (listing s run) = true
asks_only (forecast_of c a) = true

asked-table : (t u : Table) (c : Call) (a : Answer) → asks_only c ≡ true → Effect t c a u → u ≡ t
asked-table t u c a e (nothing_else g v l r) = refl
asked-table t u c a e (top_loaded h o m p q) = clash cc
asked-table t u c a e (frame_loaded k h o b m d i q p z) = clash cc
asked-table t u c a e (all_removed s) = clash cc

pub asked-keeps : (c : Call) (t : Table) → asks_only c ≡ true → table_left c t ≡ t
asked-keeps c t e = asked-table t (table_left c t) c (answer_to c t) e (effect c t)

-- ---- numbers

pub record Counted (es : List Event) (t : Table) : Type 0 where
  pub number : length t.docs + unload_sum es ≡ accepted_loads es
  pub serial : t.next ≡ suc (accepted_loads es)

counts : (es : List Event) (t u : Table) (c : Call) (a : Answer) → Counted es t → Effect t c a u → Counted (record { call = c; answer = a } ∷ es) u
unfolding accepted_loads unload_sum
counts es t u c b h (nothing_else g v l r) = record { number = rw (l, r) (omega (arith, h.number)); serial = rw l (omega (arith, h.serial)) }
counts es t u c b h (top_loaded hd o m p q) = record { number = simp length-append (omega (arith, h.number)); serial = omega (arith, h.serial) }
counts es t u c b h (frame_loaded k hd o a m d i e p q) = record { number = simp length-append (omega (arith, h.number)); serial = omega (arith, h.serial) }
counts es t u c b h (all_removed s) = record { number = omega (arith, h.number, count s t.docs); serial = omega (arith, h.serial) }

-- an induction over the history, from an effect on
pub history-induction : (P : List Event → Table → Type 0) → ((es : List Event) (t u : Table) (c : Call) (a : Answer) → P es t → Effect t c a u → P (record { call = c; answer = a } ∷ es) u) →
    (cs : List Call) (t : Table) (es : List Event) → P es t → P (events_from cs t es) (left_by table_left cs t)
unfolding events_from left_by
history-induction P f [] t es h = h
history-induction P f (c ∷ cs) t es h = history-induction P f cs (table_left c t) (record { call = c; answer = answer_to c t } ∷ es) (f es t (table_left c t) c (answer_to c t) h (effect c t))

-- the number of documents is accepted loads minus the sum of the unload answers, and the next serial is one more than accepted loads
pub counted : (cs : List Call) → Counted (history cs) (table_after cs)
unfolding history table_after accepted_loads unload_sum
counted cs = history-induction Counted counts cs new_table [] (record { number = refl; serial = refl })

-- an accepted load gave the serial
pub record GivenIn (es : List Event) (s : ℕ) : Type 0 where
  pub by : Call
  pub answered : Answer
  pub happened : Happened by answered es
  pub gave : Gave by answered s

given-later : {es : List Event} {s : ℕ} (e : Event) → GivenIn es s → GivenIn (e ∷ es) s
given-later e g = record { by = g.by; answered = g.answered; happened = earlier g.happened; gave = g.gave }

unfoldable AllGiven : List Event → Table → Type 0
AllGiven es t = (s : ℕ) → 1 ≤ s → s < t.next → GivenIn es s

gives : (es : List Event) (t u : Table) (c : Call) (a : Answer) → AllGiven es t → Effect t c a u → AllGiven (record { call = c; answer = a } ∷ es) u
unfolding AllGiven
gives es t u c b h (nothing_else g v l r) = λ s p q. given-later _ (h s p q)
gives es t u c b h (top_loaded hd o m p q) = λ s l k. order s t.next (λ j. given-later _ (h s l j))
    (λ j. let e : s ≡ t.next = omega arith in rw e (record { by = top_load hd o; answered = loaded t.next m; happened = last; gave = gave_top }))
gives es t u c b h (frame_loaded n hd o a m d i e p q) = λ s l k. order s t.next (λ j. given-later _ (h s l j))
    (λ j. let z : s ≡ t.next = omega arith in rw z (record { by = framed_load n hd o a; answered = loaded t.next m; happened = last; gave = gave_framed }))
gives es t u c b h (all_removed s) = λ k p q. given-later _ (h k p q)

-- each serial below the next was given
pub given-before : (cs : List Call) (s : ℕ) → 1 ≤ s → s < (table_after cs).next → GivenIn (history cs) s
unfolding history table_after AllGiven
given-before cs = history-induction AllGiven gives cs new_table [] (λ s p q. absurd (omega arith))

-- ---- a document is what its load, found among the calls, makes of its container

pub data Made (es : List Event) (ds : List Document) (x : Document) : Type 0 where
  made_top : (h o : Text) (m : Bool) → Happened (top_load h o) (loaded x.identity.serial m) es → x ≡ top_document h (top_identity (origin_of o) x.identity.serial) → Made es ds x
  made_framed : (h o : Text) (a : Attributes) (m : Bool) (d : Document) → In d ds → Happened (framed_load d.identity.serial h o a) (loaded x.identity.serial m) es
      → x ≡ framed_document d h a (framed_identity d.identity a (origin_of o) x.identity.serial) → Made es ds x

framed-above : (d : Document) (h : Text) (a : Attributes) (said : OriginSaid) (n : ℕ) → (framed_document d h a (framed_identity d.identity a said n)).identity.above ≡ d.identity.serial ∷ d.identity.above
unfolding framed_document framed_identity
framed-above d h a said n = refl

made-pushed : {es : List Event} {e : Event} {ds : List Document} {x : Document} (more : List Document) → Made es ds x → Made (e ∷ es) (ds ++ more) x
made-pushed more (made_top h o m p q) = made_top h o m (earlier p) q
made-pushed more (made_framed h o a m d i p q) = made_framed h o a m d (in_left more i) (earlier p) q

made-later : {es : List Event} {e : Event} {ds : List Document} {x : Document} → Made es ds x → Made (e ∷ es) ds x
made-later (made_top h o m p q) = made_top h o m (earlier p) q
made-later (made_framed h o a m d i p q) = made_framed h o a m d i (earlier p) q

made-remaining : {es : List Event} {e : Event} (s : ℕ) {ds : List Document} {x : Document} → is_at_or_beneath s x.identity ≡ false → Made es ds x → Made (e ∷ es) (remaining s ds) x
made-remaining s g (made_top h o m p q) = made_top h o m (earlier p) q
made-remaining s {x = x} g (made_framed h o a m d i p q) =
    made_framed h o a m d (remaining-in s i (container-stays s x d (ap (λ (y : Document). y.identity.above) q ∙ framed-above d h a (origin_of o) x.identity.serial) g)) (earlier p) q

unfoldable AllMade : List Event → Table → Type 0
AllMade es t = (x : Document) → In x t.docs → Made es t.docs x

top-made : (es : List Event) (t : Table) (h o : Text) (m : Bool) → Made (record { call = top_load h o; answer = loaded t.next m } ∷ es) (pushed t (top_document h (top_identity (origin_of o) t.next))).docs (top_document h (top_identity (origin_of o) t.next))
unfolding top_document top_identity
top-made es t h o m = made_top h o m last refl

framed-made : (es : List Event) (t : Table) (h o : Text) (a : Attributes) (m : Bool) (d : Document) → In d t.docs →
    Made (record { call = framed_load d.identity.serial h o a; answer = loaded t.next m } ∷ es) (pushed t (framed_document d h a (framed_identity d.identity a (origin_of o) t.next))).docs (framed_document d h a (framed_identity d.identity a (origin_of o) t.next))
unfolding framed_document framed_identity
framed-made es t h o a m d i = made_framed h o a m d (in_left _ i) last refl

makes : (es : List Event) (t u : Table) (c : Call) (a : Answer) → AllMade es t → Effect t c a u → AllMade (record { call = c; answer = a } ∷ es) u
unfolding AllMade
makes es t u c b h (nothing_else g v l r) = λ x m. made-later (h x m)
makes es t u c b h (top_loaded hd o m p q) = in-push _ t.docs (top_document hd (top_identity (origin_of o) t.next)) (λ x i. made-pushed _ (h x i)) (top-made es t hd o m)
makes es t u c b h (frame_loaded k hd o a m d i e p q) =
    rw e (in-push _ t.docs (framed_document d hd a (framed_identity d.identity a (origin_of o) t.next)) (λ x j. made-pushed _ (h x j)) (framed-made es t hd o a m d i))
makes es t u c b h (all_removed s) = λ x m. made-remaining s (in-remaining s t.docs x m).safe (h x (in-remaining s t.docs x m).was)

-- after any calls each document is what its load call, found among the calls, makes of its container
pub made : (cs : List Call) (x : Document) → In x (table_after cs).docs → Made (history cs) (table_after cs).docs x
unfolding history table_after AllMade
made cs = history-induction AllMade makes cs new_table [] (λ x m. elim m [ ])
