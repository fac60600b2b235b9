-- Demand 2: a tidied header, read again, declares the same policy and tidies to the same bytes. Assumes nothing.
use mathlib.Core.Path.{◌≡◌, refl, ap, ◌∙◌, sym}
use Prim.Native.Nat.{ℕ, zero, suc, ◌+◌, ◌≤◌, ◌<◌}
use mathlib.Core.List.{List, [], ◌∷◌, ◌++◌, map}
use mathlib.Core.Bool.{Bool, true, false, ◌||◌}
use Rattle.std.specs.Prelude.{Option, Some, None}
use native.Mathlib.Omega.{arith}
use lib.ListN.{length, drop}
use lib.Dec.{ltb, eqb}
use borrow.Author.Tests.{le-ltb, ltb-false, eqb-true, eqb-false}
use Rattle.ascii.proofs.Clash.{clash}
use Rattle.limits.specs.Limits.{text_bytes}
use Rattle.ascii.specs.Bytes.{pick}
use Rattle.ascii.specs.Literals.{text}
use Rattle.ascii.specs.Texts.{every}
use Rattle.ascii.specs.Reading.{head_of, head_is}
use Rattle.ascii.proofs.Texts.{same-bytes}
use Rattle.features.specs.Features.{name_of, feature_count}
use Rattle.features.proofs.Laws.{name-starts, name-bytes, other_name}
use Rattle.origins.specs.Origins.{Origin}
use Rattle.origins.specs.Expressions.{SourceExpression}
use Rattle.origins.specs.Matching.{admits, same_origin}
use Rattle.origins.specs.NormalForms.{GoodExpression, normal, same_expression}
use Rattle.origins.proofs.Laws.{normal-good, normal-normal, normal-admits, same-expression-is, expression-plain}
use Rattle.items.specs.Items.Item.{token}
use Rattle.dictionaries.specs.Dictionaries.{Value, Plain, members}
use Rattle.dictionaries.specs.Lookup.{into, later, last_value_in}
use Rattle.dictionaries.specs.Written.{All, GoodToken, GoodItem, GoodValue, GoodMember, AllGood, written}
use Rattle.dictionaries.specs.Written.All.{empty, and}
use Rattle.dictionaries.proofs.Laws.{last-fold, fold-nil, fold_same, fold-other}
use Rattle.dictionaries.proofs.ReadBack.{written_back}
use Rattle.allowlists.specs.Allowlists.{Allowlist, any_admits, list_admits, allows, some_admits}
use Rattle.allowlists.specs.Allowlists.Allowlist.{all, listed}
use Rattle.allowlists.proofs.Laws.{any-nil, any-cons, listed-admits, some-admits}
use Rattle.declarations.specs.Declarations.{value_declares, declares, is_malformed, declared_admits}
use Rattle.ascii.proofs.Bytes.{or-false, or-true}
use Rattle.declarations.proofs.Laws.{members-good, declared-told}
use Rattle.declarations.proofs.Written.{list_back, self-list-back, star-back, declares-value, declares-none, declares-good, declares-no-src}
use Rattle.tidying.specs.Tidied.{among, unless, once_after, normals_of, source_item, self_item, tidy_value, with_member, tidy_from, tidy_members, tidied, SamePolicy}
use Rattle.tidying.specs.Tidied.SamePolicy.{undeclared, everything, lists}
use Rattle.tidying.specs.Answers.{tidy_answer, run_after}
use Rattle.tidying.specs.Answers.Answer.{length_is, refusal}

-- expressions that a text can say stay such
good-normals : {es : List SourceExpression} → All GoodExpression es → All GoodExpression (map normal es)
good-normals empty = empty
good-normals (and {x = e} g gs) = and (normal-good e g) (good-normals gs)

good-once : (before : List SourceExpression) {es : List SourceExpression} → All GoodExpression es → All GoodExpression (once_after before es)
unfolding once_after
good-once before empty = empty
good-once before (and {x = e} {xs = es} g gs) = go (among e before) (good-once (e ∷ before) gs)
  where
    go : (b : Bool) → All GoodExpression (once_after (e ∷ before) es) → All GoodExpression (unless b e (once_after (e ∷ before) es))
    go = unfold unless in (elim [ true ↦ λ r. r | false ↦ λ r. and g r ])

good-list : {es : List SourceExpression} → All GoodExpression es → All GoodExpression (normals_of es)
good-list g = good-once [] (good-normals g)

-- the members of a tidied header can be written
self-good : GoodToken (text "self")
unfolding head_is head_of every
self-good = record { starts = refl; bytes = refl }

star-good : GoodToken (text "*")
unfolding head_is head_of every
star-good = record { starts = refl; bytes = refl }

items-good : {es : List SourceExpression} → All GoodExpression es → All GoodItem (map source_item es)
items-good empty = empty
items-good (and {x = e} g gs) = and (expression-plain e g) (items-good gs)

list-good : (own : Bool) {es : List SourceExpression} → All GoodExpression es → All GoodItem (self_item own ++ map source_item es)
unfolding self_item
list-good true g = and {x = token (text "self")} self-good (items-good g)
list-good false g = items-good g

-- an allowlist whose expressions are such as a text can say, without a src-origin
abbrev GoodList : Option Allowlist → Type 0
GoodList (Some all) = Unit {0}
GoodList (Some (listed own src es)) = (src ≡ false) × All GoodExpression es
GoodList None = Unit {0}

declared-good : (s : List ℕ) (n : ℕ) → GoodList (declares s n)
declared-good s n = go (declares s n) refl
  where
    go : (d : Option Allowlist) → declares s n ≡ d → GoodList d
    go (Some all) e = tt
    go (Some (listed own src es)) e = (declares-no-src s n own src es e, declares-good s n own src es e)
    go None e = tt

value-good : (l : Allowlist) → GoodList (Some l) → GoodValue (tidy_value l)
unfolding tidy_value
value-good all g = star-good
value-good (listed own src es) g = list-good own (good-list g.1)

member-good : (n : ℕ) (l : Allowlist) → n < feature_count → GoodList (Some l) → GoodMember (record { key = name_of n; value = tidy_value l })
member-good n l h g = record { key = record { starts = name-starts n h; bytes = name-bytes n h }; value = value-good l g }

with-good : (n : ℕ) (d : Option Allowlist) (ms : List Plain) → n < feature_count → GoodList d → AllGood ms → AllGood (with_member n d ms)
unfolding with_member
with-good n (Some l) ms h g gs = and (member-good n l h g) gs
with-good n None ms h g gs = gs

from-good : (d : ℕ → Option Allowlist) → ((n : ℕ) → GoodList (d n)) → (n k : ℕ) → n + k ≤ feature_count → AllGood (tidy_from d n k)
unfolding tidy_from
from-good d g n zero h = empty
from-good d g n (suc k) h = with-good n (d n) (tidy_from d (suc n) k) (omega arith) (g n) (from-good d g (suc n) k (omega arith))

-- so the tidied form has just these members
pub tidied-members : (s : List ℕ) → members (tidied s) ≡ Some (tidy_members (declares s))
unfolding tidied
tidied-members s = written_back (tidy_members (declares s)) (from-good (declares s) (declared-good s) 0 feature_count (omega arith))

-- the last value of a feature's name among them: names are distinct
abbrev value_in : Option Allowlist → Option Value → Option Value
value_in (Some l) v = Some (tidy_value l)
value_in None v = v

other-fold : (d : Option Allowlist) (i j : ℕ) (v : Option Value) (ms : List Plain) → i < feature_count → j < feature_count → (i ≡ j → ⊥) → into (later (name_of j)) v (with_member i d ms) ≡ into (later (name_of j)) v ms
unfolding with_member
other-fold (Some l) i j v ms h g e = fold-other (name_of j) v (record { key = name_of i; value = tidy_value l }) ms (other_name i j h g e)
other-fold None i j v ms h g e = refl

same_fold : (d : Option Allowlist) (i : ℕ) (v : Option Value) (ms : List Plain) → into (later (name_of i)) v (with_member i d ms) ≡ into (later (name_of i)) (value_in d v) ms
unfolding with_member
same_fold (Some l) i v ms = fold_same (name_of i) v (record { key = name_of i; value = tidy_value l }) ms (same-bytes (name_of i))
same_fold None i v ms = refl

-- past a feature its name comes no more
past-fold : (d : ℕ → Option Allowlist) (j : ℕ) (v : Option Value) (n k : ℕ) → j < n → n + k ≤ feature_count → into (later (name_of j)) v (tidy_from d n k) ≡ v
unfolding tidy_from
past-fold d j v n zero h g = fold-nil (name_of j) v
past-fold d j v n (suc k) h g = other-fold (d n) n j v (tidy_from d (suc n) k) (omega arith) (omega arith) (λ e. omega arith) ∙ past-fold d j v (suc n) k (omega arith) (omega arith)

find-fold : (d : ℕ → Option Allowlist) (j : ℕ) (n k : ℕ) → n ≤ j → j < n + k → n + k ≤ feature_count → into (later (name_of j)) None (tidy_from d n k) ≡ value_in (d j) None
unfolding tidy_from
find-fold d j n zero h g m = absurd (omega arith)
find-fold d j n (suc k) h g m = go (eqb n j) refl (λ a. find-fold d j (suc n) k a (omega arith) (omega arith))
  where
    go : (b : Bool) → eqb n j ≡ b → (suc n ≤ j → into (later (name_of j)) None (tidy_from d (suc n) k) ≡ value_in (d j) None) → into (later (name_of j)) None (with_member n (d n) (tidy_from d (suc n) k)) ≡ value_in (d j) None
    go true e ih =
        let q : n ≡ j = eqb-true n j e in
        rw q (same_fold (d j) j None (tidy_from d (suc j) k) ∙ past-fold d j (value_in (d j) None) (suc j) k (omega arith) (omega arith))
    go false e ih =
        let q : n ≡ j → ⊥ = eqb-false n j e in
        other-fold (d n) n j None (tidy_from d (suc n) k) (omega arith) (omega arith) q ∙ ih (omega arith)

-- what a tidied header declares, feature by feature: the same with normal forms, each once
abbrev canonical : Option Allowlist → Option Allowlist
canonical (Some all) = Some all
canonical (Some (listed own src es)) = Some (listed own false (normals_of es))
canonical None = None

value-back : (l : Allowlist) → GoodList (Some l) → value_declares (tidy_value l) ≡ canonical (Some l)
unfolding tidy_value self_item
value-back all g = star-back
value-back (listed true src es) g = self-list-back (normals_of es) (good-list g.1)
value-back (listed false src es) g = list_back (normals_of es) (good-list g.1)

last-is : (s : List ℕ) (n : ℕ) → n < feature_count → last_value_in (name_of n) (Some (tidy_members (declares s))) ≡ Some (value_in (declares s n) None)
last-is s n h = last-fold (name_of n) (tidy_members (declares s)) ∙ ap Some (find-fold (declares s) n 0 feature_count (omega arith) (omega arith) (omega arith))

tidied-declares : (s : List ℕ) (n : ℕ) → n < feature_count → declares (tidied s) n ≡ canonical (declares s n)
tidied-declares s n h = go (declares s n) (declared-good s n) (last-is s n h)
  where
    go : (d : Option Allowlist) → GoodList d → last_value_in (name_of n) (Some (tidy_members (declares s))) ≡ Some (value_in d None) → declares (tidied s) n ≡ canonical d
    go (Some l) g e = declares-value (tidied s) n (tidy_members (declares s)) (tidied-members s) (tidy_value l) e ∙ value-back l g
    go None g e = declares-none (tidied s) n (tidy_members (declares s)) (tidied-members s) e

-- normal forms, each once, stay as they are
among-at : (e f : SourceExpression) (es : List SourceExpression) → same_expression e f ≡ true → among e es ≡ among f es
among-at e f es h = ap (λ (x : SourceExpression). among x es) (same-expression-is e f h)

-- an expression that is there already adds nothing
or_same : (a b c : Bool) → (a ≡ true → b ≡ c) → c ≡ true → a || b ≡ b
or_same true b c f g = sym (f refl ∙ g)
or_same false b c f g = refl

more-among : (e x : SourceExpression) (es : List SourceExpression) → among e es ≡ true → among x (e ∷ es) ≡ among x es
unfolding among
more-among e x es h = or_same (same_expression x e) (among x es) (among e es) (λ s. among-at x e es s) h

once-same : (b c : List SourceExpression) → ((x : SourceExpression) → among x b ≡ among x c) → (es : List SourceExpression) → once_after b es ≡ once_after c es
unfolding once_after
once-same b c h [] = refl
once-same b c h (e ∷ es) =
    rw (h e)
    (ap (unless (among e c) e) (once-same (e ∷ b) (e ∷ c) (λ x. unfold among in ap (λ (t : Bool). same_expression x e || t) (h x)) es))

once-once : (before es : List SourceExpression) → once_after before (once_after before es) ≡ once_after before es
unfolding once_after
once-once before [] = refl
once-once before (e ∷ es) = go (among e before) refl (once-once (e ∷ before) es)
  where
    go : (b : Bool) → among e before ≡ b → once_after (e ∷ before) (once_after (e ∷ before) es) ≡ once_after (e ∷ before) es → once_after before (unless b e (once_after (e ∷ before) es)) ≡ unless b e (once_after (e ∷ before) es)
    go true u ih = unfold unless in (sym (once-same (e ∷ before) before (λ x. more-among e x before u) (once_after (e ∷ before) es)) ∙ ih)
    go false u ih = unfold unless once_after in (rw u (ap (λ (l : List SourceExpression). e ∷ l) ih))

-- every one of them is its own normal form
abbrev IsNormal : SourceExpression → Type 0
IsNormal e = normal e ≡ e

normals-normal : (es : List SourceExpression) → All IsNormal (map normal es)
normals-normal [] = empty
normals-normal (e ∷ es) = and (normal-normal e) (normals-normal es)

once-normal : (before : List SourceExpression) {es : List SourceExpression} → All IsNormal es → All IsNormal (once_after before es)
unfolding once_after
once-normal before empty = empty
once-normal before (and {x = e} {xs = es} g gs) = go (among e before) (once-normal (e ∷ before) gs)
  where
    go : (b : Bool) → All IsNormal (once_after (e ∷ before) es) → All IsNormal (unless b e (once_after (e ∷ before) es))
    go = unfold unless in (elim [ true ↦ λ r. r | false ↦ λ r. and g r ])

map-normal : {es : List SourceExpression} → All IsNormal es → map normal es ≡ es
map-normal empty = refl
map-normal (and {x = e} {xs = es} g gs) = rw (g, map-normal gs)

pub normals-once : (es : List SourceExpression) → normals_of (normals_of es) ≡ normals_of es
normals-once es = rw (map-normal (once-normal [] (normals-normal es))) (once-once [] (map normal es))

-- demand 2: a tidied header, read again, is a dictionary ...
pub tidied-good : (s : List ℕ) → is_malformed (tidied s) ≡ false
tidied-good s = members-good (tidied s) (tidy_members (declares s)) (tidied-members s)

-- ... and declares the same policy
same-policy : (d : Option Allowlist) → GoodList d → SamePolicy d (canonical d)
same-policy (Some all) g = everything
same-policy (Some (listed own src es)) g = rw g.0 (lists own es (normals_of es) (sym (normals-once es)))
same-policy None g = undeclared

pub tidied-same : (s : List ℕ) (n : ℕ) → n < feature_count → SamePolicy (declares s n) (declares (tidied s) n)
tidied-same s n h = rw (tidied-declares s n h) (same-policy (declares s n) (declared-good s n))

-- dropping repetitions takes no origin away
or-in : (a b : Bool) → (a ≡ true → b ≡ true) → a || b ≡ b
or-in true b f = sym (f refl)
or-in false b f = refl

among-any : (e : SourceExpression) (es : List SourceExpression) (o : Origin) → among e es ≡ true → admits e o || any_admits es o ≡ any_admits es o
unfolding among
among-any e [] o h = clash cc
among-any e (f ∷ fs) o h = go (same_expression e f) refl h (λ g. among-any e fs o g)
  where
    go : (b : Bool) → same_expression e f ≡ b → b || among e fs ≡ true → (among e fs ≡ true → admits e o || any_admits fs o ≡ any_admits fs o) → admits e o || any_admits (f ∷ fs) o ≡ any_admits (f ∷ fs) o
    go true s g ih = rw (same-expression-is e f s, any-cons f fs o) (or-in (admits f o) (admits f o || any_admits fs o) (λ t. rw t))
    go false s g ih = rw (any-cons f fs o) (or_swap (admits e o) (admits f o) (any_admits fs o) (ih g))
      where
        or_swap : (a b c : Bool) → a || c ≡ c → a || (b || c) ≡ b || c
        or_swap true true c k = refl
        or_swap true false c k = k
        or_swap false b c k = refl

bools-kept : (a x y b : Bool) → x || (a || b) ≡ y || (a || b) → (a || x) || b ≡ (a || y) || b
bools-kept true x y b h = refl
bools-kept false x y b h = h

bools-there : (a x y b : Bool) → a || b ≡ b → x || (a || b) ≡ y || (a || b) → x || b ≡ (a || y) || b
bools-there true x y true k h = or-true x
bools-there true x y false k h = clash cc
bools-there false x y b k h = h

any-once : (before es : List SourceExpression) (o : Origin) → any_admits (once_after before es) o || any_admits before o ≡ any_admits es o || any_admits before o
unfolding once_after
any-once before [] o = refl
any-once before (e ∷ es) o = go (among e before) refl (rw (any-cons e before o) at (any-once (e ∷ before) es o))
  where
    go : (b : Bool) → among e before ≡ b → any_admits (once_after (e ∷ before) es) o || (admits e o || any_admits before o) ≡ any_admits es o || (admits e o || any_admits before o) → any_admits (unless b e (once_after (e ∷ before) es)) o || any_admits before o ≡ any_admits (e ∷ es) o || any_admits before o
    go true u ih =
        unfold unless in
        (rw (any-cons e es o) (bools-there (admits e o) (any_admits (once_after (e ∷ before) es) o) (any_admits es o) (any_admits before o) (among-any e before o u) ih))
    go false u ih =
        unfold unless in
        (rw (any-cons e es o, any-cons e (once_after (e ∷ before) es) o) (bools-kept (admits e o) (any_admits (once_after (e ∷ before) es) o) (any_admits es o) (any_admits before o) ih))

any-normal : (es : List SourceExpression) (o : Origin) → any_admits (map normal es) o ≡ any_admits es o
any-normal [] o = refl
any-normal (e ∷ es) o = rw (any-cons (normal e) (map normal es) o, any-cons e es o, normal-admits e o, any-normal es o)

any-normals : (es : List SourceExpression) (o : Origin) → any_admits (normals_of es) o ≡ any_admits es o
any-normals es o =
    let k : any_admits (once_after [] (map normal es)) o || any_admits [] o ≡ any_admits (map normal es) o || any_admits [] o = any-once [] (map normal es) o in
    sym (or-false (any_admits (normals_of es) o)) ∙ ((rw (any-nil o) at k) ∙ (or-false (any_admits (map normal es) o) ∙ any-normal es o))

-- hence the same policy admits the same origins, whatever the self-origin and the src-origin are
same-by : {a b : Option Allowlist} → SamePolicy a b → (l m : Allowlist) → a ≡ Some l → b ≡ Some m → (mine theirs : Bool) (o : Origin) → list_admits l mine theirs o ≡ list_admits m mine theirs o
same-by undeclared l m e f mine theirs o = clash cc
same-by everything l m e f mine theirs o =
    let p : all ≡ l = cc in
    let q : all ≡ m = cc in
    rw (← p, ← q)
same-by (lists b es fs n) l m e f mine theirs o =
    let p : listed b false es ≡ l = cc in
    let q : listed b false fs ≡ m = cc in
    let k : any_admits es o ≡ any_admits fs o = sym (any-normals es o) ∙ (ap (λ (x : List SourceExpression). any_admits x o) n ∙ any-normals fs o) in
    rw (← p, ← q, listed-admits b false es mine theirs o, listed-admits b false fs mine theirs o, k)

pub same-admits : (l m : Allowlist) → SamePolicy (Some l) (Some m) → (own declared o : Origin) → allows l own declared o ≡ allows m own declared o
same-admits l m h own declared o = same-by h l m refl refl (same_origin own o) (same_origin declared o) o

same-answers : {a b : Option Allowlist} → SamePolicy a b → (mine theirs : Bool) (o : Origin) → some_admits a mine theirs o ≡ some_admits b mine theirs o
same-answers undeclared mine theirs o = refl
same-answers everything mine theirs o = refl
same-answers (lists b es fs k) mine theirs o =
    rw (some-admits (listed b false es) mine theirs o, some-admits (listed b false fs) mine theirs o, same-by (lists b es fs k) (listed b false es) (listed b false fs) refl refl mine theirs o)

-- demand 2: "read again, declares the same policy": every feature's list answers alike for every own origin and every origin asked about, and there is no list in one alone
pub tidied-admits : (s : List ℕ) (n : ℕ) → n < feature_count → (own o : Origin) → declared_admits (declares s n) own o ≡ declared_admits (declares (tidied s) n) own o
tidied-admits s n h own o =
    sym (declared-told (declares s n) (same_origin own o) own o refl) ∙ (same-answers (tidied-same s n h) (same_origin own o) false o ∙ declared-told (declares (tidied s) n) (same_origin own o) own o refl)

-- demand 2: and tidies to the same bytes
value_same : (d : Option Allowlist) (n : ℕ) (ms : List Plain) → with_member n (canonical d) ms ≡ with_member n d ms
unfolding with_member tidy_value
value_same (Some all) n ms = refl
value_same (Some (listed own src es)) n ms = rw (normals-once es)
value_same None n ms = refl

from-same : (s : List ℕ) (n k : ℕ) → n + k ≤ feature_count → tidy_from (declares (tidied s)) n k ≡ tidy_from (declares s) n k
unfolding tidy_from
from-same s n zero h = refl
from-same s n (suc k) h =
    rw (tidied-declares s n (omega arith), from-same s (suc n) k (omega arith)) (value_same (declares s n) n (tidy_from (declares s) (suc n) k))

pub tidied-twice : (s : List ℕ) → tidied (tidied s) ≡ tidied s
tidied-twice s = unfold tidied in (ap written (from-same s 0 feature_count (omega arith)))

-- so tidying the tidied text, with a run that is long enough, answers the same length and writes the same bytes
length-said : (s : List ℕ) (room n : ℕ) (a b c d : Bool) → ltb text_bytes (length (tidied s)) ≡ c → pick a (refusal 4) (pick b (refusal 8) (pick c (refusal 4) (pick d (refusal 9) (length_is (length (tidied s)))))) ≡ length_is n → (length (tidied s) ≡ n) × (length (tidied s) ≤ text_bytes)
unfolding pick
length-said s room n true b c d u e = clash cc
length-said s room n false true c d u e = clash cc
length-said s room n false false true d u e = clash cc
length-said s room n false false false true u e = clash cc
length-said s room n false false false false u e = (cc, ltb-false text_bytes (length (tidied s)) u)

module _ (s : List ℕ) (room n : ℕ) (e : tidy_answer s room ≡ length_is n) where
  said : (length (tidied s) ≡ n) × (length (tidied s) ≤ text_bytes)
  said = length-said s room n (ltb text_bytes (length s)) (is_malformed s) (ltb text_bytes (length (tidied s))) (ltb room (length (tidied s))) refl (unfold tidy_answer in e)

  pub tidy-again : (enough : ℕ) → n ≤ enough → tidy_answer (tidied s) enough ≡ length_is n
  unfolding tidy_answer pick
  tidy-again enough h =
      let u : ltb text_bytes (length (tidied s)) ≡ false = le-ltb text_bytes (length (tidied s)) said.1 in
      let v : ltb enough (length (tidied s)) ≡ false = le-ltb enough (length (tidied s)) (omega (arith, said.0)) in
      rw (tidied-twice s, u, tidied-good s, v, said.0)

  pub tidy-again-bytes : (run : List ℕ) → n ≤ length run → run_after (tidy_answer (tidied s) (length run)) (tidied (tidied s)) run ≡ tidied s ++ drop n run
  tidy-again-bytes run h = rw (tidy-again (length run) h, tidied-twice s) (unfold run_after in refl)
