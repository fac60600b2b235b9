-- The question: what the two numbers of a slot say, and what is left for its lists, in the terms of the code. Assumes nothing.
use Rattle.std.specs.Prelude.{Option, Some, None, unwrap_or}
use mathlib.Core.Path.{◌≡◌, refl, ap, ◌∙◌, sym}
use Prim.Native.Nat.{ℕ, ◌<◌}
use mathlib.Core.List.{List}
use mathlib.Core.Bool.{Bool, true, false, not}
use borrow.Author.Tests.{not-true, not-false}
use Rattle.ascii.proofs.Clash.{clash}
use Rattle.ascii.specs.Texts.{same_bytes}
use Rattle.ascii.proofs.Texts.{bytes_same}
use Rattle.lent_bytes.specs.Numbers.{number_at}
use Rattle.features.specs.Features.{feature_count}
use Rattle.origins.specs.Origins.{OriginSaid, TupleOrigin, origin_of}
use Rattle.origins.specs.Origins.Origin.{tuple, opaque, fresh}
use Rattle.origins.specs.Origins.OriginSaid.{says_empty, says_null, says_tuple, no_origin}
use Rattle.origins.specs.Matching.{same_origin}
use Rattle.origins.proofs.Laws.{same-texts, tuple-range, same-one}
use Rattle.origins.specs.Answers.{origin_as, origin_in, tuple_in, tuple_range}
use Rattle.origins.specs.declared.OriginText.{OriginText}
use Rattle.origins.specs.declared.OriginText.TheVariants as said
use Rattle.origins.specs.declared.OriginRange.TheVariants as range
use Rattle.origins.specs.declared.TupleRange.{TupleRange}
use Rattle.allowlists.specs.Allowlists.{some_admits}
use Rattle.decisions.specs.Decisions.{Decision, decided, by_list}
use Rattle.decisions.specs.Decisions.Decision.{disabled, enabled}
use Rattle.decisions.specs.Masks.{decision_at}
use Rattle.decisions.specs.Policies.{question_in}
use Rattle.decisions.proofs.Laws.{mask_at, enabled-at, disabled-question}
use Rattle.decisions.proofs.Everywhere.{fresh-every, other-by-list, bit-says, bit-clear, bit-set, decided-off, decided-on}
use Rattle.settled.specs.Settled.{declared_in}
use Rattle.document_model.specs.Model.{asked_at}
use Rattle.document_records.specs.Slots.{inherited_place, everywhere_place, enabled_place, opaque_place, own_text, origin_by, own_origin, settled_in, slot_policy, GoodSlot}
use Rattle.documents.specs.Steps.{bit_at, AskedTuple}
use Rattle.document_records.proofs.Laws.{slot-declared, slot-own, slot-inherited}

-- an opaque origin is no tuple
opaque-tuple : (k : ℕ) (o : TupleOrigin) → same_origin (opaque k) (tuple o) ≡ false
opaque-tuple k o = go (same_origin (opaque k) (tuple o)) refl
  where
    go : (b : Bool) → same_origin (opaque k) (tuple o) ≡ b → b ≡ false
    go true e = let q : opaque k ≡ tuple o = same-one (opaque k) (tuple o) e in clash cc
    go false e = refl

-- the own origin against one that a text says
own-other : (u t : List ℕ) (k : ℕ) (o : TupleOrigin) (x : OriginSaid) → origin_of u ≡ x → origin_of t ≡ says_tuple o → same_bytes u t ≡ false → same_origin (origin_by x k) (tuple o) ≡ false
own-other u t k o says_empty e f n = opaque-tuple k o
own-other u t k o says_null e f n = opaque-tuple k o
own-other u t k o (says_tuple a) e f n = same-texts u t a o e f ∙ n
own-other u t k o no_origin e f n = opaque-tuple k o

-- a bit of a slot's two numbers
module _ (slot : List ℕ) (n m : ℕ) (g : GoodSlot slot) (f : n < feature_count) where
  enabled-bit : m ≡ number_at slot enabled_place → decision_at m n ≡ question_in (slot_policy slot) n (own_origin slot)
  enabled-bit e = ap (λ (x : ℕ). decision_at x n) (e ∙ g.enabled) ∙ (enabled-at (slot_policy slot) n f ∙ ap (question_in (slot_policy slot) n) (slot-own slot))

  every-bit : m ≡ number_at slot everywhere_place → decision_at m n ≡ question_in (slot_policy slot) n fresh
  every-bit e = ap (λ (x : ℕ). decision_at x n) (e ∙ g.everywhere) ∙ mask_at (λ k. question_in (slot_policy slot) k fresh) n f

-- what a list answers, and Disabled without one
or-disabled : (w : Option Bool) (r : Bool) → r ≡ unwrap_or w false → decided r ≡ by_list w disabled
unfolding decided by_list
or-disabled (Some true) r e = rw e
or-disabled (Some false) r e = rw e
or-disabled None r e = rw e

-- a tuple origin
module _ (slot : List ℕ) (n : ℕ) (t : List ℕ) (o : TupleRange) (a : AskedTuple slot n t o) (u : List ℕ) (b : Bool) (eu : u ≡ own_text slot) (eb : b ≡ same_bytes u t) where
  pub tuple-own : (m : ℕ) (r : Bool) → b ≡ true → m ≡ number_at slot enabled_place → r ≡ bit_at m n → decided r ≡ question_in (slot_policy slot) n (tuple (tuple_in t o))
  tuple-own m r hit em er =
      let q : own_text slot ≡ t = sym eu ∙ bytes_same u t (sym eb ∙ hit) in
      let own : own_origin slot ≡ tuple (tuple_in t o) = rw (q, a.says) refl in
      bit-says m n r er ∙ (enabled-bit slot n m a.good a.feature em ∙ ap (question_in (slot_policy slot) n) own)

  module _ (no : b ≡ false) (m : ℕ) (h : Bool) (em : m ≡ number_at slot inherited_place) (eh : h ≡ bit_at m n) where
    inherited-is : (d : Decision) → decision_at m n ≡ d → (slot_policy slot).inherited n ≡ d
    inherited-is d e = slot-inherited slot n ∙ (ap (λ (x : ℕ). decision_at x n) (sym em) ∙ e)

    pub tuple-off : not h ≡ true → decided false ≡ question_in (slot_policy slot) n (tuple (tuple_in t o))
    tuple-off x = decided-off ∙ sym (disabled-question (slot_policy slot) n (tuple (tuple_in t o)) (inherited-is disabled (bit-clear m n h eh (not-true h x))))

    pub tuple-list : (d : List ℕ) (w : Option Bool) (r : Bool) → not h ≡ false → d ≡ settled_in slot → w ≡ some_admits (declared_in d n) false false (origin_in t (range.Tuple o)) → r ≡ unwrap_or w false
        → decided r ≡ question_in (slot_policy slot) n (tuple (tuple_in t o))
    tuple-list d w r x ed ew er =
        let p = slot_policy slot in
        let z = tuple (tuple_in t o) in
        let apart : same_origin (slot_policy slot).own (tuple (tuple_in t o)) ≡ false =
        rw (slot-own slot) (own-other (own_text slot) t (number_at slot opaque_place) (tuple_in t o) (origin_of (own_text slot)) refl a.says (rw (← eu, ← eb) no)) in
        let on : (slot_policy slot).inherited n ≡ enabled = inherited-is enabled (bit-set m n h eh (not-false h x)) in
        let listed : w ≡ some_admits ((slot_policy slot).declared n) false false (tuple (tuple_in t o)) = ew ∙ rw (ed, ← (slot-declared slot n)) refl in
        or-disabled w r er ∙ (ap (λ (y : _). by_list y disabled) listed ∙ sym (other-by-list p n z a.rest apart on))

-- what the answer to an origin text says of the text
said-empty : (x : OriginSaid) → (Some said.Empty) ≡ origin_as x → x ≡ says_empty
said-empty says_empty e = refl
said-empty says_null e = clash cc
said-empty (says_tuple o) e = clash cc
said-empty no_origin e = clash cc

said-null : (x : OriginSaid) → (Some said.Null) ≡ origin_as x → x ≡ says_null
said-null says_empty e = clash cc
said-null says_null e = refl
said-null (says_tuple o) e = clash cc
said-null no_origin e = clash cc

said-tuple : (t : List ℕ) (r : TupleRange) (x : OriginSaid) → origin_of t ≡ x → (Some (said.Tuple r)) ≡ origin_as x → origin_of t ≡ says_tuple (tuple_in t r)
said-tuple t r says_empty u e = clash cc
said-tuple t r says_null u e = clash cc
said-tuple t r (says_tuple o) u e = let k : r ≡ tuple_range o = cc in u ∙ ap says_tuple (sym (rw k (tuple-range t o u)))
said-tuple t r no_origin u e = clash cc

-- the question
module _ (slot : List ℕ) (n : ℕ) (t : List ℕ) (y : OriginText) (g : GoodSlot slot) (f : n < feature_count) (eo : Some y ≡ origin_as (origin_of t)) (m : ℕ) (b : Bool) (em : m ≡ number_at slot everywhere_place) (eb : b ≡ bit_at m n) where
  pub at_every : b ≡ true → decided true ≡ question_in (slot_policy slot) n (asked_at (origin_of t) (own_origin slot))
  at_every hit = decided-on ∙ sym (fresh-every (slot_policy slot) n (asked_at (origin_of t) (own_origin slot)) (sym (every-bit slot n m g f em) ∙ bit-set m n b eb hit))

  module _ (no : b ≡ false) where
    rest : question_in (slot_policy slot) n fresh ≡ disabled
    rest = sym (every-bit slot n m g f em) ∙ bit-clear m n b eb no

    pub at-empty : (k : ℕ) (r : Bool) → y ≡ said.Empty → k ≡ number_at slot enabled_place → r ≡ bit_at k n → decided r ≡ question_in (slot_policy slot) n (asked_at (origin_of t) (own_origin slot))
    at-empty k r e ek er = rw (said-empty (origin_of t) (sym (ap Some e) ∙ eo)) (bit-says k n r er ∙ enabled-bit slot n k g f ek)

    pub at_null : y ≡ said.Null → decided false ≡ question_in (slot_policy slot) n (asked_at (origin_of t) (own_origin slot))
    at_null e = rw (said-null (origin_of t) (sym (ap Some e) ∙ eo)) (decided-off ∙ sym rest)

    pub at_tuple : (x : TupleRange) (r : Bool) → y ≡ said.Tuple x → decided r ≡ question_in (slot_policy slot) n (tuple (tuple_in t x)) → decided r ≡ question_in (slot_policy slot) n (asked_at (origin_of t) (own_origin slot))
    at_tuple x r e h = rw (said-tuple t x (origin_of t) refl (sym (ap Some e) ∙ eo)) h

    pub asks-tuple : (x : TupleRange) → y ≡ said.Tuple x → AskedTuple slot n t x
    asks-tuple x e = record { good = g; feature = f; says = said-tuple t x (origin_of t) refl (sym (ap Some e) ∙ eo); rest = rest }
