-- The laws of decisions, for the crates above, here and in Everywhere (Enabled at a fresh origin is Enabled at every one): nothing there opens a definition of this crate. Assumes nothing.
use Rattle.features.specs.declared.DefaultAllowlist.{DefaultAllowlist}
use mathlib.Core.Path.{◌≡◌, refl, ap, ◌∙◌, sym, subst}
use Prim.Native.Nat.{ℕ, zero, suc, ◌+◌, ◌*◌, ◌^◌, ◌/◌, ◌%◌, ◌<◌, ◌≤◌}
use mathlib.Core.Bool.{Bool, true, false}
use Rattle.std.specs.Prelude.{Option, Some, None}
use native.Mathlib.Nat.{add_comm, mod-one, mod-lt, mod-eq_of_lt}
use native.Mathlib.Omega.{arith}
use lib.Pow.{mod-pow-add}
use lib.Dec.{ltb, eqb}
use lib.ListN.{get_or}
use mathlib.Core.List.{List}
use borrow.Author.Tests.{ltb-true, ltb-false}
use Rattle.ascii.proofs.Clash.{clash}
use Rattle.features.specs.Features.{Default, feature_count, default_of}
use Rattle.features.specs.Features.Default.{star, self}
use Rattle.features.specs.Answers.{default_in}
use Rattle.origins.specs.Origins.{Origin}
use Rattle.origins.specs.Origins.Origin.{tuple, opaque, fresh}
use Rattle.origins.specs.Matching.{same_origin}
use Rattle.origins.proofs.Laws.{tuple-self, opaque-self, fresh-left, fresh-right}
use Rattle.allowlists.specs.Allowlists.{Allowlist, empty_list, list_admits, allows, some_admits}
use Rattle.allowlists.specs.Allowlists.Allowlist.{all, listed}
use Rattle.allowlists.specs.Widening.{AsWide, AsWideOrOpened}
use Rattle.allowlists.specs.Widening.AsWide.{neither, both}
use Rattle.allowlists.specs.Widening.AsWideOrOpened.{as_wide, opened}
use Rattle.allowlists.proofs.Laws.{all-admits, empty-list, some-admits, none-admits, fresh-all, opaque-all, allows-fresh, allows-opaque, as-wide-self}
use Rattle.declarations.specs.Declarations.{declared_admits}
use Rattle.declarations.proofs.Laws.{declared-some, declared-none, declared-told, declared-fresh, declared-opaque}
use Rattle.decisions.specs.Decisions.{Decision, decided, unless_disabled, by_list, by_default, value_by, inherited_by, inherited_top, question_by}
use Rattle.decisions.specs.Decisions.Decision.{disabled, enabled}
use Rattle.decisions.specs.Masks.{bit_of, mask_below, mask_of, decision_at}
use Rattle.decisions.specs.Policies.{Policy, Frame, value, inherited_framed, question, value_in, question_in, inherited_in, enabled_mask, forecast}
use Rattle.decisions.specs.Widening.{Stays, WiderPolicy, WiderFrame}
use Rattle.decisions.specs.Answers.{decision_in, decisions_in}
use Rattle.decisions.specs.declared.Decision.{Decision as Answer}
use Rattle.decisions.specs.declared.Decision.TheVariants as answer
use Rattle.decisions.proofs.Masks.{mask_lt, mask-bit, bits-past}

-- the answer of `value`, told what a declared list answered, is *Value*
module _ (d : Option Allowlist) (own o : Origin) (same : Bool) (a : Option Bool) (i r : Answer) (is_same : same ≡ same_origin own o) (admitted : a ≡ some_admits d same false o) where
  answered : a ≡ declared_admits d own o
  answered = admitted ∙ declared-told d same own o is_same

  pub value-says : decision_in r ≡ value_by (decision_in i) a → decision_in r ≡ value (decision_in i) d own o
  unfolding value
  value-says is = is ∙ ap (value_by (decision_in i)) answered

  -- and that of `question` is *Question*
  pub question-says : (default : Option DefaultAllowlist) → decision_in r ≡ question_by (decision_in i) a (default_in default) same → decision_in r ≡ question (decision_in i) d (default_in default) own o
  unfolding question
  question-says default is =
      is
      ∙ ap (λ (x : Option Bool). question_by (decision_in i) x (default_in default) same) answered
      ∙ ap (question_by (decision_in i) (declared_admits d own o) (default_in default)) is_same

-- the answer of `inherited`, told what a container policy answered, is *Inherited*
module _ (allowed : Option Allowlist) (container declared o : Origin) (is-container is_declared : Bool) (a : Option Bool)
    (told-container : is-container ≡ same_origin container o)
    (told-declared : is_declared ≡ same_origin declared o)
    (admitted : a ≡ some_admits allowed is-container is_declared o) where
  pub inherited-says : (value_own value_arriving r : Answer) (default : Option DefaultAllowlist) → decision_in r ≡ inherited_by (decision_in value_own) (decision_in value_arriving) a (default_in default) is-container
      → decision_in r ≡ inherited_framed (decision_in value_own) (decision_in value_arriving) allowed (default_in default) container declared o
  unfolding inherited_framed
  inherited-says value_own value_arriving r default is = rw (← told-container, ← told-declared, ← admitted) is

-- at the own origin of a document *Question* and *Value* agree
own_default : (default : Option Default) → by_default default true ≡ enabled
unfolding by_default decided
own_default (Some star) = refl
own_default (Some self) = refl
own_default None = refl

pub own-agrees : (inherited : Decision) (declared : Option Allowlist) (default : Option Default) (own : Origin) → same_origin own own ≡ true → question inherited declared default own own ≡ value inherited declared own own
unfolding question value question_by value_by
own-agrees inherited declared default own e = rw (e, own_default default)

-- the origin of a document, which is never fresh, equals itself
pub document-self : (o : Origin) → (o ≡ fresh → ⊥) → same_origin o o ≡ true
document-self (tuple x) h = tuple-self x
document-self (opaque n) h = opaque-self n
document-self fresh h = absurd (h refl)

-- Disabled inherited is Disabled for every origin
pub value-disabled : (declared : Option Allowlist) (own o : Origin) → value disabled declared own o ≡ disabled
unfolding value value_by unless_disabled
value-disabled declared own o = refl

pub question-disabled : (declared : Option Allowlist) (default : Option Default) (own o : Origin) → question disabled declared default own o ≡ disabled
unfolding question question_by unless_disabled
question-disabled declared default own o = refl

-- a container's value that is Disabled for its own origin, or for the arriving one, is Disabled inherited, whatever the attributes say
pub inherited-own : (value_arriving : Decision) (allowed : Option Allowlist) (default : Option Default) (container declared arriving : Origin) → inherited_framed disabled value_arriving allowed default container declared arriving ≡ disabled
unfolding inherited_framed inherited_by unless_disabled
inherited-own value_arriving allowed default container declared arriving = refl

pub inherited-arriving : (value_own : Decision) (allowed : Option Allowlist) (default : Option Default) (container declared arriving : Origin) → inherited_framed value_own disabled allowed default container declared arriving ≡ disabled
unfolding inherited_framed inherited_by unless_disabled
inherited-arriving disabled allowed default container declared arriving = refl
inherited-arriving enabled allowed default container declared arriving = refl

-- the same of a document
module _ (p : Policy) (n : ℕ) where
  pub own-agrees-in : same_origin p.own p.own ≡ true → question_in p n p.own ≡ value_in p n p.own
  unfolding question_in value_in
  own-agrees-in e = own-agrees (p.inherited n) (p.declared n) (default_of n) p.own e

  -- what inherits Disabled is Disabled for every origin
  pub disabled-question : (o : Origin) → p.inherited n ≡ disabled → question_in p n o ≡ disabled
  unfolding question_in
  disabled-question o e = rw e (question-disabled (p.declared n) (default_of n) p.own o)

  pub disabled-value : (o : Origin) → p.inherited n ≡ disabled → value_in p n o ≡ disabled
  unfolding value_in
  disabled-value o e = rw e (value-disabled (p.declared n) p.own o)

  -- a value that is Disabled for the own origin is Disabled inherited in every frame, whatever arrives there
  pub value-below : (f : Frame) (arriving : Origin) → value_in p n p.own ≡ disabled → inherited_in p f arriving n ≡ disabled
  unfolding inherited_in
  value-below f arriving e = rw e (inherited-own (value_in p n arriving) (f.allowed n) (default_of n) p.own f.declared arriving)

  -- and so is a question that is
  pub question-below : (f : Frame) (arriving : Origin) → same_origin p.own p.own ≡ true → question_in p n p.own ≡ disabled → inherited_in p f arriving n ≡ disabled
  question-below f arriving own e = value-below f arriving (sym (own-agrees-in own) ∙ e)

  -- what inherits Disabled hands Disabled on
  pub disabled-below : (f : Frame) (arriving : Origin) → p.inherited n ≡ disabled → inherited_in p f arriving n ≡ disabled
  disabled-below f arriving e = value-below f arriving (disabled-value p.own e)

-- a fresh origin is admitted only by `*`: in the container's header
decided-yes : (b : Bool) → decided b ≡ enabled → b ≡ true
unfolding decided
decided-yes true e = refl
decided-yes false e = clash cc

unless-then : (d e : Decision) → unless_disabled d e ≡ enabled → e ≡ enabled
unfolding unless_disabled
unless-then disabled e k = clash cc
unless-then enabled e k = k

decided-some : (x : Option Bool) (b : Bool) → x ≡ Some b → by_list x enabled ≡ enabled → x ≡ Some true
unfolding by_list
decided-some (Some true) b e k = refl
decided-some (Some false) b e k = clash (unfold decided in cc)
decided-some None b e k = clash cc

pub value-fresh : (i : Decision) (l : Allowlist) (own : Origin) → value i (Some l) own fresh ≡ enabled → l ≡ all
unfolding value value_by
value-fresh i l own e =
    declared-fresh l own
    (decided-some (declared_admits (Some l) own fresh) (list_admits l (same_origin own fresh) false fresh) (declared-some l own fresh) (unless-then i (by_list (declared_admits (Some l) own fresh) enabled) e))

-- and in the attribute, whatever the declared origin is
pub inherited-fresh : (c d : Decision) (l : Allowlist) (default : Option Default) (container declared : Origin) → inherited_framed c d (Some l) default container declared fresh ≡ enabled → l ≡ all
unfolding inherited_framed inherited_by
inherited-fresh c d l default container declared e =
    let k = decided (allows l container declared fresh) in
    allows-fresh l container declared
    (decided-yes (allows l container declared fresh) (unless-then d k (unless-then c (unless_disabled d k) (unfold by_list in (rw (some-admits l (same_origin container fresh) (same_origin declared fresh) fresh) at e)))))

-- an opaque origin too, where it is not the container's: a sandboxed document arrives at one, and its frame's declared origin is fresh
pub value-opaque : (i : Decision) (l : Allowlist) (own : Origin) (n : ℕ) → same_origin own (opaque n) ≡ false → value i (Some l) own (opaque n) ≡ enabled → l ≡ all
unfolding value value_by
value-opaque i l own n h e =
    declared-opaque l own n h
    (decided-some (declared_admits (Some l) own (opaque n)) (list_admits l (same_origin own (opaque n)) false (opaque n)) (declared-some l own (opaque n)) (unless-then i (by_list (declared_admits (Some l) own (opaque n)) enabled) e))

pub inherited-opaque : (c d : Decision) (l : Allowlist) (default : Option Default) (container : Origin) (n : ℕ) → same_origin container (opaque n) ≡ false → inherited_framed c d (Some l) default container fresh (opaque n) ≡ enabled → l ≡ all
unfolding inherited_framed inherited_by
inherited-opaque c d l default container n h e =
    let k = decided (allows l container fresh (opaque n)) in
    allows-opaque l container fresh n h (fresh-left (opaque n))
    (decided-yes (allows l container fresh (opaque n)) (unless-then d k (unless-then c (unless_disabled d k) (unfold by_list in (rw (some-admits l (same_origin container (opaque n)) (same_origin fresh (opaque n)) (opaque n)) at e)))))

-- an opaque origin that isn't the container's, where the declared origin is fresh, inherits as a fresh one
list-opaque : (l : Allowlist) (k : ℕ) → list_admits l false false (opaque k) ≡ list_admits l false false fresh
list-opaque all k = all-admits false false (opaque k) ∙ sym (all-admits false false fresh)
list-opaque (listed a b es) k =
    not_so (list_admits (listed a b es) false false (opaque k)) (λ e. opaque-all (listed a b es) k e) ∙ sym (not_so (list_admits (listed a b es) false false fresh) (λ e. fresh-all (listed a b es) e))
  where
    not_so : (x : Bool) → (x ≡ true → listed a b es ≡ all) → x ≡ false
    not_so true f = let e = f refl in clash cc
    not_so false f = refl

some-opaque : (d : Option Allowlist) (k : ℕ) → some_admits d false false (opaque k) ≡ some_admits d false false fresh
some-opaque (Some l) k = rw (some-admits l false false (opaque k), some-admits l false false fresh, list-opaque l k)
some-opaque None k = none-admits false false (opaque k) ∙ sym (none-admits false false fresh)

value-as-fresh : (i : Decision) (d : Option Allowlist) (own : Origin) (k : ℕ) → same_origin own (opaque k) ≡ false → value i d own (opaque k) ≡ value i d own fresh
unfolding value
value-as-fresh i d own k h = ap (value_by i) (sym (declared-told d false own (opaque k) (sym h)) ∙ some-opaque d k ∙ declared-told d false own fresh (sym (fresh-right own)))

framed-as-fresh : (c d : Decision) (l : Option Allowlist) (default : Option Default) (container : Origin) (k : ℕ) → same_origin container (opaque k) ≡ false →
    inherited_framed c d l default container fresh (opaque k) ≡ inherited_framed c d l default container fresh fresh
unfolding inherited_framed
framed-as-fresh c d l default container k h = rw (h, fresh-right container, fresh-left (opaque k), fresh-left fresh, some-opaque l k)

pub inherited-as-fresh : (p : Policy) (f : Frame) (k : ℕ) → f.declared ≡ fresh → same_origin p.own (opaque k) ≡ false → (n : ℕ) → inherited_in p f (opaque k) n ≡ inherited_in p f fresh n
unfolding inherited_in value_in
inherited-as-fresh p f k e h n = rw (e, value-as-fresh (p.inherited n) (p.declared n) p.own k h) (framed-as-fresh _ _ (f.allowed n) (default_of n) p.own k h)

-- *Value* where nothing is declared is what is inherited
value_none : (i : Decision) (own o : Origin) → value i None own o ≡ i
unfolding value value_by by_list unless_disabled
value_none disabled own o = refl
value_none enabled own o = rw (declared-none own o)

pub value-undeclared : (p : Policy) (n : ℕ) (o : Origin) → p.declared n ≡ None → value_in p n o ≡ p.inherited n
unfolding value_in
value-undeclared p n o e = rw e (value_none (p.inherited n) p.own o)

-- without an entry only the default `*` admits an origin that is not the container's
default-star : (default : Option Default) → by_default default false ≡ enabled → default ≡ Some star
unfolding by_default decided
default-star (Some star) e = refl
default-star (Some self) e = clash cc
default-star None e = clash cc

pub inherited-default : (c d : Decision) (default : Option Default) (container declared arriving : Origin) → same_origin container arriving ≡ false → inherited_framed c d None default container declared arriving ≡ enabled → default ≡ Some star
unfolding inherited_framed inherited_by by_list
inherited-default c d default container declared arriving h e =
    let k = by_default default false in
    default-star default (unless-then d k (unless-then c (unless_disabled d k) (rw (none-admits (same_origin container arriving) (same_origin declared arriving) arriving, h) at e)))

-- what stays Enabled: decisions put together from decisions that do
pub stays-self : (d : Decision) → Stays d d
stays-self d = record { keeps = λ e. e }

pub stays_on : {c d e : Decision} → Stays c d → Stays d e → Stays c e
stays_on s t = record { keeps = λ k. t.keeps (s.keeps k) }

unless-keeps : (c d e f : Decision) → (c ≡ enabled → d ≡ enabled) → (e ≡ enabled → f ≡ enabled) → unless_disabled c e ≡ enabled → unless_disabled d f ≡ enabled
unfolding unless_disabled
unless-keeps disabled d e f h g k = clash cc
unless-keeps enabled d e f h g k = rw (h refl) (g k)

unless-stays : {c d e f : Decision} → Stays c d → Stays e f → Stays (unless_disabled c e) (unless_disabled d f)
unless-stays {c} {d} {e} {f} h g = record { keeps = unless-keeps c d e f (λ k. h.keeps k) (λ k. g.keeps k) }

-- two answers of lists: neither has one; or both have and the second admits if the first does; or the first has one, which doesn't admit, and the second none
data Follows : Option Bool → Option Bool → Type 0 where
  no_lists : Follows None None
  lists : {a b : Bool} → (a ≡ true → b ≡ true) → Follows (Some a) (Some b)
  list_gone : Follows (Some false) None

decided-keeps : (a b : Bool) → (a ≡ true → b ≡ true) → decided a ≡ enabled → decided b ≡ enabled
unfolding decided
decided-keeps true b h k = rw (h refl)
decided-keeps false b h k = clash cc

not-decided : {d : Decision} → decided false ≡ enabled → d ≡ enabled
unfolding decided
not-decided k = clash cc

list-stays : {a b : Option Bool} (d : Decision) → Follows a b → Stays (by_list a d) (by_list b d)
unfolding by_list
list-stays d no_lists = stays-self d
list-stays d (lists {a} {b} h) = record { keeps = decided-keeps a b h }
list-stays d list_gone = record { keeps = λ k. not-decided k }

wide-follows : {a b : Option Allowlist} (x y : Bool) (o : Origin) → AsWide a b → Follows (some_admits a x y o) (some_admits b x y o)
wide-follows x y o neither = rw (none-admits x y o) no_lists
wide-follows x y o (both {l} {m} w) = rw (some-admits l x y o, some-admits m x y o) (lists (λ e. w.keeps x y o e))

opened-follows : {a b : Option Allowlist} (x y : Bool) (o : Origin) → AsWideOrOpened a b → Follows (some_admits a x y o) (some_admits b x y o)
opened-follows x y o (as_wide w) = wide-follows x y o w
opened-follows x y o opened = rw (some-admits empty_list x y o, none-admits x y o, empty-list x y o) list_gone

declared-follows : {a b : Option Allowlist} (own o : Origin) → AsWide a b → Follows (declared_admits a own o) (declared_admits b own o)
declared-follows {a} {b} own o wide = rw (← (declared-told a (same_origin own o) own o refl), ← (declared-told b (same_origin own o) own o refl)) (wide-follows (same_origin own o) false o wide)

-- *Value* is monotone in what is inherited and declared
pub value_stays : {i j : Decision} {a b : Option Allowlist} (own o : Origin) → Stays i j → AsWide a b → Stays (value i a own o) (value j b own o)
unfolding value value_by
value_stays own o h more = unless-stays h (list-stays enabled (declared-follows own o more))

-- *Question* is, too
pub question-stays : {i j : Decision} {a b : Option Allowlist} (default : Option Default) (own o : Origin) → Stays i j → AsWide a b → Stays (question i a default own o) (question j b default own o)
unfolding question question_by
question-stays default own o h more = unless-stays h (list-stays (by_default default (same_origin own o)) (declared-follows own o more))

-- *Inherited* is monotone in the container's values and in the container policy's list
pub inherited-stays : {c d e f : Decision} {a b : Option Allowlist} (default : Option Default) (container declared arriving : Origin) → Stays c d → Stays e f → AsWideOrOpened a b
    → Stays (inherited_framed c e a default container declared arriving) (inherited_framed d f b default container declared arriving)
unfolding inherited_framed inherited_by
inherited-stays default container declared arriving h g more =
    unless-stays h (unless-stays g (list-stays (by_default default (same_origin container arriving)) (opened-follows (same_origin container arriving) (same_origin declared arriving) arriving more)))

-- what is the same is as wide
pub wider-self : (p : Policy) → WiderPolicy p p
wider-self p = record { own = refl; inherits = λ n. stays-self (p.inherited n); declares = λ n. as-wide-self (p.declared n) }

pub frame_self : (f : Frame) → WiderFrame f f
frame_self f = record { declared = refl; allows = λ n. as_wide (as-wide-self (f.allowed n)) }

-- the same of a document: a wider policy keeps what is Enabled
module _ (p q : Policy) (wide : WiderPolicy p q) where
  pub value-in-stays : (n : ℕ) (o : Origin) → Stays (value_in p n o) (value_in q n o)
  unfolding value_in
  value-in-stays n o = rw (← wide.own) (value_stays p.own o (wide.inherits n) (wide.declares n))

  pub question-in-stays : (n : ℕ) (o : Origin) → Stays (question_in p n o) (question_in q n o)
  unfolding question_in
  question-in-stays n o = rw (← wide.own) (question-stays (default_of n) p.own o (wide.inherits n) (wide.declares n))

  -- and in its frames, with wider attributes too
  pub inherited-in-stays : (f g : Frame) → WiderFrame f g → (arriving : Origin) (n : ℕ) → Stays (inherited_in p f arriving n) (inherited_in q g arriving n)
  unfolding inherited_in
  inherited-in-stays f g frames arriving n =
      subst (λ (own : Origin). Stays (inherited_in p f arriving n) (inherited_framed (value_in q n own) (value_in q n arriving) (g.allowed n) (default_of n) own g.declared arriving)) wide.own
      (subst (λ (declared : Origin). Stays (inherited_in p f arriving n) (inherited_framed (value_in q n p.own) (value_in q n arriving) (g.allowed n) (default_of n) p.own declared arriving)) frames.declared
      (inherited-stays (default_of n) p.own f.declared arriving (value-in-stays n p.own) (value-in-stays n arriving) (frames.allows n)))

-- bit n of the number is decision n
bit-decides : (d : Decision) → decided (eqb (bit_of d) 1) ≡ d
unfolding decided
bit-decides disabled = refl
bit-decides enabled = refl

pub mask_at : (p : ℕ → Decision) (n : ℕ) → n < feature_count → decision_at (mask_of p) n ≡ p n
unfolding decision_at
mask_at p n h = rw (mask-bit p feature_count n h) (bit-decides (p n))

-- "no other bit": each from 17 on is clear
pub mask-past : (p : ℕ → Decision) (n : ℕ) → feature_count ≤ n → decision_at (mask_of p) n ≡ disabled
mask-past p n h = bits-past (mask_of p) n feature_count (mask_lt p feature_count) h

-- a bit is clear where its decision is Disabled
pub mask-disabled : (p : ℕ → Decision) (n : ℕ) → p n ≡ disabled → decision_at (mask_of p) n ≡ disabled
mask-disabled p n h = go (ltb n feature_count) refl
  where
    go : (b : Bool) → ltb n feature_count ≡ b → decision_at (mask_of p) n ≡ disabled
    go true e = let low : n < feature_count = omega (arith, ltb-true) in mask_at p n low ∙ h
    go false e = let high : feature_count ≤ n = omega (arith, ltb-false) in mask-past p n high

pub mask-below : (p : ℕ → Decision) → mask_of p < 2 ^ feature_count
mask-below p = mask_lt p feature_count

-- each bit stays set where each decision stays Enabled
pub mask-stays : (p q : ℕ → Decision) → ((n : ℕ) → n < feature_count → Stays (p n) (q n)) → (n : ℕ) → Stays (decision_at (mask_of p) n) (decision_at (mask_of q) n)
mask-stays p q h n = go (ltb n feature_count) refl
  where
    go : (b : Bool) → ltb n feature_count ≡ b → Stays (decision_at (mask_of p) n) (decision_at (mask_of q) n)
    go true e = let low : n < feature_count = omega (arith, ltb-true) in rw (mask_at p n low, mask_at q n low) (h n low)
    go false e = let high : feature_count ≤ n = omega (arith, ltb-false) in rw (mask-past p n high, mask-past q n high) (stays-self disabled)

-- the same decisions are the same number
below-same : (p q : ℕ → Decision) (k : ℕ) → ((n : ℕ) → n < k → p n ≡ q n) → mask_below p k ≡ mask_below q k
unfolding mask_below
below-same p q zero h = refl
below-same p q (suc k) h = rw (below-same p q k (λ n lt. h n (omega arith)), h k (omega arith))

pub mask-same : (p q : ℕ → Decision) → ((n : ℕ) → n < feature_count → p n ≡ q n) → mask_of p ≡ mask_of q
mask-same p q h = below-same p q feature_count h

-- the number that `mask` answers, by the decisions at its places
pub mask-places : (l : List Answer) (p : ℕ → Decision) → ((n : ℕ) → n < feature_count → decision_in (get_or l n answer.Disabled) ≡ p n) → mask_of (decisions_in l) ≡ mask_of p
mask-places l p h = mask-same (decisions_in l) p (λ n lt. unfold decisions_in in (h n lt))

-- a number with no bit from 17 on is the number of its bits
bit-read : (b : ℕ) → b < 2 → bit_of (decided (eqb b 1)) ≡ b
unfolding decided
bit-read zero h = refl
bit-read (suc zero) h = refl
bit-read (suc (suc b)) h = absurd (omega arith)

below-back : (m k : ℕ) → mask_below (decision_at m) k ≡ m % 2 ^ k
unfolding mask_below decision_at
below-back m zero = sym (mod-one m)
below-back m (suc k) =
    rw (below-back m k, bit-read (m / 2 ^ k % 2) (mod-lt (m / 2 ^ k) (omega arith)))
    (add_comm (m % 2 ^ k) (m / 2 ^ k % 2 * 2 ^ k) ∙ sym (mod-pow-add m 1 k) ∙ ap (λ (j : ℕ). m % 2 ^ j) (let e : 1 + k ≡ suc k = omega arith in e))

pub mask-back : (m : ℕ) → m < 2 ^ feature_count → mask_of (decision_at m) ≡ m
mask-back m h = below-back m feature_count ∙ mod-eq_of_lt h

-- the features enabled at a document's own origin, bit by bit, and a forecast
pub enabled-at : (p : Policy) (n : ℕ) → n < feature_count → decision_at (enabled_mask p) n ≡ question_in p n p.own
unfolding enabled_mask
enabled-at p n h = mask_at (λ k. question_in p k p.own) n h

pub enabled-past : (p : Policy) (n : ℕ) → feature_count ≤ n → decision_at (enabled_mask p) n ≡ disabled
unfolding enabled_mask
enabled-past p n h = mask-past (λ k. question_in p k p.own) n h

pub forecast-at : (p : Policy) (f : Frame) (n : ℕ) → n < feature_count → decision_at (forecast p f) n ≡ inherited_in p f f.declared n
unfolding forecast
forecast-at p f n h = mask_at (λ k. inherited_in p f f.declared k) n h

pub forecast-past : (p : Policy) (f : Frame) (n : ℕ) → feature_count ≤ n → decision_at (forecast p f) n ≡ disabled
unfolding forecast
forecast-past p f n h = mask-past (λ k. inherited_in p f f.declared k) n h

-- a number of what is inherited at the declared origin is the forecast
pub forecast-is : (p : Policy) (f : Frame) (q : ℕ → Decision) → ((n : ℕ) → n < feature_count → q n ≡ inherited_in p f f.declared n) → mask_of q ≡ forecast p f
unfolding forecast
forecast-is p f q h = mask-same q (λ n. inherited_in p f f.declared n) h

-- where nothing is declared, what is inherited is enabled at the own origin
pub enabled-undeclared : (p : Policy) → same_origin p.own p.own ≡ true → ((n : ℕ) → p.declared n ≡ None) → enabled_mask p ≡ mask_of p.inherited
unfolding enabled_mask
enabled-undeclared p own h = mask-same (λ n. question_in p n p.own) p.inherited (λ n low. own-agrees-in p n own ∙ value-undeclared p n p.own (h n))

-- no bit of either falls with a wider policy
pub enabled_stays : (p q : Policy) → WiderPolicy p q → (n : ℕ) → Stays (decision_at (enabled_mask p) n) (decision_at (enabled_mask q) n)
unfolding enabled_mask
enabled_stays p q wide n =
    mask-stays (λ k. question_in p k p.own) (λ k. question_in q k q.own) (λ k low. subst (λ (o : Origin). Stays (question_in p k p.own) (question_in q k o)) wide.own (question-in-stays p q wide k p.own)) n

pub forecast-stays : (p q : Policy) (f g : Frame) → WiderPolicy p q → WiderFrame f g → (n : ℕ) → Stays (decision_at (forecast p f) n) (decision_at (forecast q g) n)
unfolding forecast
forecast-stays p q f g wide frames n =
    mask-stays (λ k. inherited_in p f f.declared k) (λ k. inherited_in q g g.declared k) (λ k low. subst (λ (o : Origin). Stays (inherited_in p f f.declared k) (inherited_in q g o k)) frames.declared (inherited-in-stays p q wide f g frames f.declared k)) n

-- the decisions of a policy, by its parts
module _ (p : Policy) (n : ℕ) (o : Origin) where
  pub value-parts : value_in p n o ≡ value (p.inherited n) (p.declared n) p.own o
  unfolding value_in
  value-parts = refl

  pub question-parts : question_in p n o ≡ question (p.inherited n) (p.declared n) (default_of n) p.own o
  unfolding question_in
  question-parts = refl

  pub inherited-parts : (f : Frame) → inherited_in p f o n ≡ inherited_framed (value_in p n p.own) (value_in p n o) (f.allowed n) (default_of n) p.own f.declared o
  unfolding inherited_in
  inherited-parts f = refl

pub enabled-parts : (p : Policy) → enabled_mask p ≡ mask_of (λ n. question_in p n p.own)
unfolding enabled_mask
enabled-parts p = refl

pub forecast-parts : (p : Policy) (f : Frame) → forecast p f ≡ mask_of (inherited_in p f f.declared)
unfolding forecast
forecast-parts p f = refl

-- at the top every feature is inherited enabled
pub top_mask : mask_of (λ n. inherited_top) ≡ 131071
unfolding mask_below
top_mask = refl
