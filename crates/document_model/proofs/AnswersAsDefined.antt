-- Claim 7: each document is what its load makes of its container, so its policy is the one that the calls and answers tell, feature by feature. Assumes nothing.
use mathlib.Core.Path.{◌≡◌, refl, sym, ap, subst, ◌∙◌}
use Prim.Native.Nat.{ℕ, suc, ◌≤◌, ◌<◌}
use native.Mathlib.Omega.{arith}
use mathlib.Core.Bool.{Bool, true, false}
use Rattle.std.specs.Prelude.{Option, None}
use mathlib.Core.List.{List, [], ◌∷◌}
use lib.Dec.{ltb→lt}
use lib.ListN.{get_or}
use Rattle.ascii.proofs.Clash.{clash}
use Rattle.limits.specs.declared.Refusal.TheVariants.{NoSuchFeature, BadOrigin, TooLong}
use Rattle.features.specs.Features.{feature_count}
use Rattle.origins.specs.Origins.{Origin, OriginSaid, origin_of}
use Rattle.origins.specs.Origins.Origin.{opaque}
use Rattle.origins.specs.Origins.OriginSaid.{says_empty, says_null, says_tuple, no_origin}
use Rattle.allowlists.specs.Allowlists.{Allowlist}
use Rattle.declarations.specs.Declarations.{declares}
use Rattle.containers.specs.Attributes.{Attributes}
use Rattle.containers.specs.Sandboxes.{declared_origin}
use Rattle.decisions.specs.Decisions.{Decision, inherited_top}
use Rattle.decisions.specs.Masks.{mask_of, decision_at}
use Rattle.decisions.specs.Policies.{Policy, Frame, question_in, inherited_in, enabled_mask, forecast}
use Rattle.decisions.proofs.Laws.{mask_at, mask-same, value-parts, question-parts, inherited-parts, enabled-parts, forecast-parts}
use Rattle.document_model.specs.Model.{Text, is_good_origin, arrives_at, asked_at, or_fresh, Identity, Document, declared_by, policy_of, frame_declared, frame_of, Table, new_table, find, Call, top_load, framed_load, question, enabled_features, forecast_of, Answer, refused, loaded, decision, features, top_identity, framed_identity, top_document, framed_document, fitting_outcome, outcome, answer_to, table_after}
use Rattle.document_model.specs.History.{Event, Gave, gave_top, gave_framed, Happened, last, earlier, history}
use Rattle.document_model.specs.Claims.{MarkedIn, frame_in, top_policy, framed_policy, PolicyIn, of_top, of_frame, AskedAt, at_own, at_fresh, at_tuple}
use Rattle.document_model.proofs.Values.{values-at}
use Rattle.document_model.proofs.Tables.{In, finds}
use Rattle.document_model.proofs.Effects.{unless-ends, with-ends, ends, Effect, nothing_else, top_loaded, frame_loaded, all_removed, history-induction, Made, made_top, made_framed, made}
use Rattle.document_model.proofs.Sandboxed.{marked-told, told-marked}

-- ---- policies that are the same for each of the seventeen

record SamePolicy (p q : Policy) : Type 0 where
  own : p.own ≡ q.own
  inherits : (n : ℕ) → n < feature_count → p.inherited n ≡ q.inherited n
  declares : (n : ℕ) → n < feature_count → p.declared n ≡ q.declared n

module _ (p q : Policy) (h : SamePolicy p q) where
  question-same : (n : ℕ) → n < feature_count → (x y : Origin) → x ≡ y → question_in p n x ≡ question_in q n y
  question-same n l x y e = rw (question-parts p n x, question-parts q n y, h.inherits n l, h.declares n l, h.own, e)

  inherited-same : (f g : Frame) → f.allowed ≡ g.allowed → f.declared ≡ g.declared → (n : ℕ) → n < feature_count → (x y : Origin) → x ≡ y → inherited_in p f x n ≡ inherited_in q g y n
  inherited-same f g a d n l x y e =
      rw (inherited-parts p n x f, inherited-parts q n y g, value-parts p n x, value-parts p n p.own, value-parts q n y, value-parts q n q.own, h.inherits n l, h.declares n l, h.own, a, d, e)

  enabled-same : enabled_mask p ≡ enabled_mask q
  enabled-same = enabled-parts p ∙ mask-same _ _ (λ n l. question-same n l p.own q.own h.own) ∙ sym (enabled-parts q)

  forecast-same : (f g : Frame) → f.allowed ≡ g.allowed → f.declared ≡ g.declared → forecast p f ≡ forecast q g
  forecast-same f g a d = forecast-parts p f ∙ mask-same _ _ (λ n l. inherited-same f g a d n l f.declared g.declared d) ∙ sym (forecast-parts q g)

-- ---- the policy of a document

declared-at : (h : Text) (n : ℕ) → n < feature_count → get_or (declared_by h) n None ≡ declares h n
unfolding declared_by
declared-at h n l = values-at (declares h) feature_count n None l

frame_same : (i : Identity) (a : Attributes) (own : Origin) → i.origin ≡ own → frame_declared i a ≡ or_fresh (declared_origin i.sandboxed a own)
unfolding frame_declared
frame_same i a own e = ap (λ (o : Origin). or_fresh (declared_origin i.sandboxed a o)) e

-- the parts of a document that a load makes
record Parts (x : Document) (above : List ℕ) (origin : Origin) (inherited : ℕ) (h : Text) : Type 0 where
  is_above : x.identity.above ≡ above
  is_origin : x.identity.origin ≡ origin
  is_inherited : x.inherited ≡ inherited
  is_declared : x.declared ≡ declared_by h

top-parts : (x : Document) (h o : Text) (n : ℕ) → x ≡ top_document h (top_identity (origin_of o) n) → Parts x [] (arrives_at (origin_of o) (opaque n) n) (mask_of (λ k. inherited_top)) h
unfolding top_document top_identity
top-parts x h o n e = record {
  is_above = ap (λ (y : Document). y.identity.above) e;
  is_origin = ap (λ (y : Document). y.identity.origin) e;
  is_inherited = ap (λ (y : Document). y.inherited) e;
  is_declared = ap (λ (y : Document). y.declared) e;
}

framed-parts : (x d : Document) (h o : Text) (a : Attributes) (n : ℕ) → x ≡ framed_document d h a (framed_identity d.identity a (origin_of o) n) →
    Parts x (d.identity.serial ∷ d.identity.above) (arrives_at (origin_of o) d.identity.origin n) (mask_of (inherited_in (policy_of d) (frame_of d.identity a) (arrives_at (origin_of o) d.identity.origin n))) h
unfolding framed_document framed_identity
framed-parts x d h o a n e = record {
  is_above = ap (λ (y : Document). y.identity.above) e;
  is_origin = ap (λ (y : Document). y.identity.origin) e;
  is_inherited = ap (λ (y : Document). y.inherited) e;
  is_declared = ap (λ (y : Document). y.declared) e;
}

-- the policy by such parts
same_parts : (x : Document) (above : List ℕ) (o : Origin) (f : ℕ → Decision) (h : Text) (q : Policy) → Parts x above o (mask_of f) h → o ≡ q.own → ((n : ℕ) → n < feature_count → f n ≡ q.inherited n) → ((n : ℕ) → q.declared n ≡ declares h n) → SamePolicy (policy_of x) q
same_parts x above o f h q w own inherits declared = record {
  own = w.is_origin ∙ own;
  inherits = λ n l. ap (λ (m : ℕ). decision_at m n) w.is_inherited ∙ mask_at f n l ∙ inherits n l;
  declares = λ n l. ap (λ (k : List (Option Allowlist)). get_or k n None) w.is_declared ∙ declared-at h n l ∙ sym (declared n);
}

record Settled (es : List Event) (x : Document) : Type 0 where
  policy : Policy
  told : PolicyIn es x.identity.serial policy
  same : SamePolicy (policy_of x) policy

marked : (cs : List Call) (x : Document) → In x (table_after cs).docs → MarkedIn (history cs) x.identity.serial x.identity.sandboxed
marked cs x m = record { if_set = marked-told cs x m; if_sandboxed = told-marked cs x m }

top-settled : (es : List Event) (x : Document) (h o : Text) → PolicyIn es x.identity.serial (top_policy x.identity.serial h o) → x ≡ top_document h (top_identity (origin_of o) x.identity.serial) → Settled es x
top-settled es x h o t e =
    let q = top_policy x.identity.serial h o in
    record { policy = q; told = t; same = same_parts x [] _ (λ n. inherited_top) h q (top-parts x h o x.identity.serial e) refl (λ n l. refl) (λ n. refl) }

framed-settled : (es : List Event) (x d : Document) (h o : Text) (a : Attributes) (w : Settled es d) →
    PolicyIn es x.identity.serial (framed_policy w.policy d.identity.sandboxed a x.identity.serial h o) →
    x ≡ framed_document d h a (framed_identity d.identity a (origin_of o) x.identity.serial) → Settled es x
framed-settled es x d h o a w t e =
    let s = x.identity.serial in
    let q = framed_policy w.policy d.identity.sandboxed a s h o in
    let arrives : arrives_at (origin_of o) d.identity.origin s ≡ arrives_at (origin_of o) w.policy.own s = ap (λ (z : Origin). arrives_at (origin_of o) z s) w.same.own in
    record {
      policy = q;
      told = t;
      same = same_parts x _ _ (inherited_in (policy_of d) (frame_of d.identity a) (arrives_at (origin_of o) d.identity.origin s)) h q (framed-parts x d h o a s e) arrives
          (λ n l. inherited-same (policy_of d) w.policy w.same (frame_of d.identity a) (frame_in w.policy d.identity.sandboxed a) refl (frame_same d.identity a w.policy.own w.same.own) n l _ _ arrives) (λ n. refl);
    }

settled : (cs : List Call) (l : List ℕ) (x : Document) → In x (table_after cs).docs → x.identity.above ≡ l → Settled (history cs) x
settled cs [] x m e = at_top (made cs x m)
  where
    at_top : Made (history cs) (table_after cs).docs x → Settled (history cs) x
    at_top (made_top h o b p q) = top-settled (history cs) x h o (of_top p) q
    at_top (made_framed h o a b d i p q) = let z = (framed-parts x d h o a x.identity.serial q).is_above in clash cc
settled cs (k ∷ l) x m e = in_frame (λ d i z. settled cs l d i z) (made cs x m)
  where
    in_frame : ((d : Document) → In d (table_after cs).docs → d.identity.above ≡ l → Settled (history cs) d) → Made (history cs) (table_after cs).docs x → Settled (history cs) x
    in_frame rec (made_top h o b p q) = top-settled (history cs) x h o (of_top p) q
    in_frame rec (made_framed h o a b d i p q) =
        let z = (framed-parts x d h o a x.identity.serial q).is_above in
        let w = rec d i (cc) in
        framed-settled (history cs) x d h o a w (of_frame p w.told (marked cs d i)) q

-- ---- the three calls

asked : (own : Origin) (said : OriginSaid) → is_good_origin said ≡ true → AskedAt own said (asked_at said own)
asked own says_empty e = at_own
asked own says_null e = at_fresh
asked own (says_tuple o) e = at_tuple o
asked own no_origin e = clash cc

record Shown (t : Table) (s f : ℕ) (said : OriginSaid) (d : Decision) : Type 0 where
  doc : Document
  is_in : In doc t.docs
  is : s ≡ doc.identity.serial
  good : is_good_origin said ≡ true
  feature : f < feature_count
  answer : d ≡ question_in (policy_of doc) f (asked_at said doc.identity.origin)

question-shown : (t : Table) (s f : ℕ) (o : Text) (d : Decision) → answer_to (question s f o) t ≡ decision d → Shown t s f (origin_of o) d
unfolding answer_to outcome fitting_outcome
question-shown t s f o =
    let P : Answer → Table → Type 0 = λ a u. (d : Decision) → a ≡ decision d → Shown t s f (origin_of o) d in
    let r : (n : ℕ) → (d : Decision) → refused n ≡ decision d → Shown t s f (origin_of o) d = λ n d e. clash cc in
    ends P t (outcome (question s f o) t) (unless-ends P t TooLong _ _ r λ _. unless-ends P t BadOrigin _ _ r λ g. unless-ends P t NoSuchFeature _ _ r λ l.
    with-ends P t s t.docs (find s t.docs) (finds s t.docs) _ r λ x m e. λ d q. record { doc = x; is_in = m; is = e; good = g; feature = ltb→lt f feature_count (rw l tt); answer = cc })

record Numbered (t : Table) (s m : ℕ) (number : Document → ℕ) : Type 0 where
  doc : Document
  is_in : In doc t.docs
  is : s ≡ doc.identity.serial
  answer : m ≡ number doc

enabled-shown : (t : Table) (s m : ℕ) → answer_to (enabled_features s) t ≡ features m → Numbered t s m (λ x. enabled_mask (policy_of x))
unfolding answer_to outcome fitting_outcome
enabled-shown t s =
    let P : Answer → Table → Type 0 = λ a u. (m : ℕ) → a ≡ features m → Numbered t s m (λ x. enabled_mask (policy_of x)) in
    let r : (n : ℕ) → (m : ℕ) → refused n ≡ features m → Numbered t s m (λ x. enabled_mask (policy_of x)) = λ n m e. clash cc in
    ends P t (outcome (enabled_features s) t) (unless-ends P t TooLong _ _ r λ _. with-ends P t s t.docs (find s t.docs) (finds s t.docs) _ r λ x i e. λ m q. record { doc = x; is_in = i; is = e; answer = cc })

forecast-shown : (t : Table) (c : ℕ) (a : Attributes) (m : ℕ) → answer_to (forecast_of c a) t ≡ features m → Numbered t c m (λ x. forecast (policy_of x) (frame_of x.identity a))
unfolding answer_to outcome fitting_outcome
forecast-shown t c a =
    let P : Answer → Table → Type 0 = λ b u. (m : ℕ) → b ≡ features m → Numbered t c m (λ x. forecast (policy_of x) (frame_of x.identity a)) in
    let r : (n : ℕ) → (m : ℕ) → refused n ≡ features m → Numbered t c m (λ x. forecast (policy_of x) (frame_of x.identity a)) = λ n m e. clash cc in
    ends P t (outcome (forecast_of c a) t) (unless-ends P t TooLong _ _ r λ _. unless-ends P t BadOrigin _ _ r λ _.
    with-ends P t c t.docs (find c t.docs) (finds c t.docs) _ r λ x i e. λ m q. record { doc = x; is_in = i; is = e; answer = cc })

pub question_as_defined : (cs : List Call) (s f : ℕ) (o : Text) (d : Decision) → answer_to (question s f o) (table_after cs) ≡ decision d →
    (p : Policy) × PolicyIn (history cs) s p × ((x : Origin) × AskedAt p.own (origin_of o) x × (d ≡ question_in p f x))
question_as_defined cs s f o d e =
    let w = question-shown (table_after cs) s f o d e in
    let z = settled cs w.doc.identity.above w.doc w.is_in refl in
    let x : asked_at (origin_of o) w.doc.identity.origin ≡ asked_at (origin_of o) z.policy.own = ap (asked_at (origin_of o)) z.same.own in
    (z.policy, subst (λ (k : ℕ). PolicyIn (history cs) k z.policy) (sym w.is) z.told, (asked_at (origin_of o) z.policy.own, asked z.policy.own (origin_of o) w.good, w.answer ∙ question-same (policy_of w.doc) z.policy z.same f w.feature _ _ x))

pub enabled_as_defined : (cs : List Call) (s m : ℕ) → answer_to (enabled_features s) (table_after cs) ≡ features m → (p : Policy) × PolicyIn (history cs) s p × (m ≡ enabled_mask p)
enabled_as_defined cs s m e =
    let w = enabled-shown (table_after cs) s m e in
    let z = settled cs w.doc.identity.above w.doc w.is_in refl in
    (z.policy, subst (λ (k : ℕ). PolicyIn (history cs) k z.policy) (sym w.is) z.told, w.answer ∙ enabled-same (policy_of w.doc) z.policy z.same)

pub forecast_as_defined : (cs : List Call) (c : ℕ) (a : Attributes) (m : ℕ) → answer_to (forecast_of c a) (table_after cs) ≡ features m →
    (p : Policy) × PolicyIn (history cs) c p × ((mark : Bool) × MarkedIn (history cs) c mark × (m ≡ forecast p (frame_in p mark a)))
forecast_as_defined cs c a m e =
    let w = forecast-shown (table_after cs) c a m e in
    let z = settled cs w.doc.identity.above w.doc w.is_in refl in (
      z.policy,
      subst (λ (k : ℕ). PolicyIn (history cs) k z.policy) (sym w.is) z.told,
      (
        w.doc.identity.sandboxed,
        subst (λ (k : ℕ). MarkedIn (history cs) k w.doc.identity.sandboxed) (sym w.is) (marked cs w.doc w.is_in),
        w.answer ∙ forecast-same (policy_of w.doc) z.policy z.same (frame_of w.doc.identity a) (frame_in z.policy w.doc.identity.sandboxed a) refl (frame_same w.doc.identity a z.policy.own z.same.own),
      ),
    )

-- ---- a document has one policy

-- serials below a number were given, each by one call
record Once (es : List Event) (n : ℕ) : Type 0 where
  below : {c : Call} {a : Answer} {s : ℕ} → Happened c a es → Gave c a s → s < n
  one : {c d : Call} {a b : Answer} {s : ℕ} → Happened c a es → Gave c a s → Happened d b es → Gave d b s → c ≡ d

once_more : {es : List Event} (n m : ℕ) (c : Call) (a : Answer) → Once es n → n ≤ m → ((s : ℕ) → Gave c a s → (n ≤ s) × (s < m)) → Once (record { call = c; answer = a } ∷ es) m
once_more {es} n m c a h l new = record { below = below-now; one = one-now }
  where
    below-now : {k : Call} {b : Answer} {s : ℕ} → Happened k b (record { call = c; answer = a } ∷ es) → Gave k b s → s < m
    below-now last g = (new _ g).1
    below-now (earlier p) g = omega (arith, h.below p g)

    one-now : {k d : Call} {b e : Answer} {s : ℕ} → Happened k b (record { call = c; answer = a } ∷ es) → Gave k b s → Happened d e (record { call = c; answer = a } ∷ es) → Gave d e s → k ≡ d
    one-now last g last k = refl
    one-now last g (earlier q) k = absurd (omega (arith, (new _ g).0, h.below q k))
    one-now (earlier p) g last k = absurd (omega (arith, (new _ k).0, h.below p g))
    one-now (earlier p) g (earlier q) k = h.one p g q k

abbrev OnceIn : List Event → Table → Type 0
OnceIn es t = Once es t.next

next-top : (n : ℕ) (h o : Text) (m : Bool) (s : ℕ) → Gave (top_load h o) (loaded n m) s → (n ≤ s) × (s < suc n)
next-top n h o m s gave_top = (omega arith, omega arith)

next-framed : (n c : ℕ) (h o : Text) (a : Attributes) (m : Bool) (s : ℕ) → Gave (framed_load c h o a) (loaded n m) s → (n ≤ s) × (s < suc n)
next-framed n c h o a m s gave_framed = (omega arith, omega arith)

effect-once : (es : List Event) (t u : Table) (c : Call) (a : Answer) → OnceIn es t → Effect t c a u → OnceIn (record { call = c; answer = a } ∷ es) u
effect-once es t u c a h (nothing_else g v l r) = once_more t.next t.next c a h (omega arith) (λ s z. absurd (g s z))
effect-once es t u c a h (top_loaded hd o m p q) = once_more t.next (suc t.next) (top_load hd o) (loaded t.next m) h (omega arith) (next-top t.next hd o m)
effect-once es t u c a h (frame_loaded k hd o b m d i e p q) = once_more t.next (suc t.next) (framed_load k hd o b) (loaded t.next m) h (omega arith) (next-framed t.next k hd o b m)
effect-once es t u c a h (all_removed s) = once_more t.next t.next c a h (omega arith) (λ s z. elim z [ ])

once : (cs : List Call) → Once (history cs) (table_after cs).next
unfolding history table_after
once cs = history-induction OnceIn effect-once cs new_table [] (record { below = λ p g. elim p [ ]; one = λ p g q k. elim p [ ] })

one-mark : {es : List Event} {s : ℕ} (b c : Bool) → MarkedIn es s b → MarkedIn es s c → b ≡ c
one-mark true c m n = sym (n.if_sandboxed (m.if_set refl))
one-mark false true m n = m.if_sandboxed (n.if_set refl)
one-mark false false m n = refl

pub one_policy : (cs : List Call) {s : ℕ} {p q : Policy} → PolicyIn (history cs) s p → PolicyIn (history cs) s q → p ≡ q
one_policy cs (of_top {h} {o} {s} x) (of_top {h = h'} {o = o'} y) =
    let e = (once cs).one x gave_top y gave_top in
    let i : h ≡ h' = cc in
    let j : o ≡ o' = cc in
    ap (λ (k : Text). top_policy s k o) i ∙ ap (λ (k : Text). top_policy s h' k) j
one_policy cs (of_top x) (of_frame y w m) = let e = (once cs).one x gave_top y gave_framed in clash cc
one_policy cs (of_frame x v n) (of_top y) = let e = (once cs).one x gave_framed y gave_top in clash cc
one_policy cs (of_frame {c} {h} {o} {a} {s} {p = p} {mark = b} x v n) (of_frame {c = c'} {h = h'} {o = o'} {a = a'} {p = p'} {mark = b'} y w k) =
    let e = (once cs).one x gave_framed y gave_framed in
    let u : c ≡ c' = cc in
    let i : h ≡ h' = cc in
    let j : o ≡ o' = cc in
    let f : a ≡ a' = cc in
    let g : p ≡ p' = one_policy cs v (subst (λ (z : ℕ). PolicyIn (history cs) z p') (sym u) w) in
    let r : b ≡ b' = one-mark b b' n (subst (λ (z : ℕ). MarkedIn (history cs) z b') (sym u) k) in
    ap (λ (z : Policy). framed_policy z b a s h o) g ∙ ap (λ (z : Bool). framed_policy p' z a s h o) r ∙ ap (λ (z : Attributes). framed_policy p' b' z s h o) f ∙ ap (λ (z : Text). framed_policy p' b' a' s z o) i ∙ ap (λ (z : Text). framed_policy p' b' a' s h' z) j
