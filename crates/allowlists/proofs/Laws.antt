-- The laws of allowlists, for the crates above, which open no definition of this crate; `Meanings` is a part of them. Assumes nothing.
use mathlib.Core.Path.{◌≡◌, refl, ap, ◌∙◌, sym}
use Prim.Native.Nat.{ℕ}
use mathlib.Core.List.{List, [], ◌∷◌, ◌++◌, map}
use mathlib.Core.Bool.{Bool, true, false, ◌&&◌, ◌||◌}
use Rattle.std.specs.Prelude.{Option, Some, None}
use Rattle.ascii.specs.Bytes.{pick}
use Rattle.ascii.proofs.Bytes.{or-false, and-false, or-on, or-more}
use Rattle.ascii.proofs.Clash.{clash}
use Rattle.origins.specs.Origins.{Origin}
use Rattle.origins.specs.Origins.Origin.{opaque, fresh}
use Rattle.origins.specs.Expressions.{SourceExpression}
use Rattle.origins.specs.Matching.{admits, same_origin}
use Rattle.origins.proofs.Laws.{admits-fresh, admits-opaque, fresh-right}
use Rattle.allowlists.specs.Allowlists.{Allowlist, empty_list, Meaning, is_star, is_self, is_src, source_meaning, with_source, some_is, has_star, has_self, has_src, sources_of, allowlist, allowlist_of, any_admits, list_admits, allows, some_admits, meaning_admits}
use Rattle.allowlists.specs.Allowlists.Allowlist.{all, listed}
use Rattle.allowlists.specs.Allowlists.Meaning.{star, self, src, source, nothing}
use Rattle.allowlists.specs.Widening.{Wider, AsWide, AsWideOrOpened}
use Rattle.allowlists.specs.Widening.AsWide.{neither, both}
use Rattle.allowlists.specs.Widening.AsWideOrOpened.{as_wide, opened}

-- what a list admits, by its parts
pub all-admits : (a b : Bool) (o : Origin) → list_admits all a b o ≡ true
unfolding list_admits
all-admits a b o = refl

pub listed-admits : (x y : Bool) (es : List SourceExpression) (a b : Bool) (o : Origin) → list_admits (listed x y es) a b o ≡ x && a || y && b || any_admits es o
unfolding list_admits
listed-admits x y es a b o = refl

pub empty-list : (a b : Bool) (o : Origin) → list_admits empty_list a b o ≡ false
unfolding list_admits any_admits
empty-list a b o = refl

pub any-nil : (o : Origin) → any_admits [] o ≡ false
unfolding any_admits
any-nil o = refl

pub any-cons : (e : SourceExpression) (es : List SourceExpression) (o : Origin) → any_admits (e ∷ es) o ≡ admits e o || any_admits es o
unfolding any_admits
any-cons e es o = refl

-- whether there is a list or not
pub some-admits : (l : Allowlist) (a b : Bool) (o : Origin) → some_admits (Some l) a b o ≡ Some (list_admits l a b o)
unfolding some_admits
some-admits l a b o = refl

pub none-admits : (a b : Bool) (o : Origin) → some_admits None a b o ≡ None
unfolding some_admits
none-admits a b o = refl

-- a list with `*` is `*`, and one without has its parts
pub star-all : (ms : List Meaning) → has_star ms ≡ true → allowlist_of ms ≡ all
unfolding allowlist_of allowlist pick
star-all ms e = rw e

pub no-star : (ms : List Meaning) → has_star ms ≡ false → allowlist_of ms ≡ listed (has_self ms) (has_src ms) (sources_of ms)
unfolding allowlist_of allowlist pick
no-star ms e = rw e

pub list-star : (x y : Bool) (es : List SourceExpression) → allowlist true x y es ≡ all
unfolding allowlist pick
list-star x y es = refl

pub list-parts : (x y : Bool) (es : List SourceExpression) → allowlist false x y es ≡ listed x y es
unfolding allowlist pick
list-parts x y es = refl

pub listed-sources : (ms : List Meaning) (x y : Bool) (es : List SourceExpression) → allowlist_of ms ≡ listed x y es → sources_of ms ≡ es
unfolding allowlist_of allowlist
listed-sources ms x y es e = go (has_star ms) e
  where
    go : (t : Bool) → pick t all (listed (has_self ms) (has_src ms) (sources_of ms)) ≡ listed x y es → sources_of ms ≡ es
    go true f = clash (unfold pick in cc)
    go false f = unfold pick in cc

pub listed-src : (ms : List Meaning) (x y : Bool) (es : List SourceExpression) → allowlist_of ms ≡ listed x y es → has_src ms ≡ y
unfolding allowlist_of allowlist
listed-src ms x y es e = go (has_star ms) e
  where
    go : (t : Bool) → pick t all (listed (has_self ms) (has_src ms) (sources_of ms)) ≡ listed x y es → has_src ms ≡ y
    go true f = clash (unfold pick in cc)
    go false f = unfold pick in cc

-- whether several meanings pass a test
pub has-nil : (test : Meaning → Bool) → some_is test [] ≡ false
unfolding some_is
has-nil test = refl

pub has-cons : (test : Meaning → Bool) (m : Meaning) (ms : List Meaning) → some_is test (m ∷ ms) ≡ test m || some_is test ms
unfolding some_is
has-cons test m ms = refl

-- a text that is an expression means it
pub source-some : (e : SourceExpression) → source_meaning (Some e) ≡ source e
unfolding source_meaning
source-some e = refl

-- the expressions of several meanings
pub sources-nil : sources_of [] ≡ []
unfolding sources_of
sources-nil = refl

pub sources-cons : (m : Meaning) (ms : List Meaning) → sources_of (m ∷ ms) ≡ with_source m (sources_of ms)
unfolding sources_of
sources-cons m ms = refl

module _ (es : List SourceExpression) where
  pub with-star : with_source star es ≡ es
  unfolding with_source
  with-star = refl

  pub with-self : with_source self es ≡ es
  unfolding with_source
  with-self = refl

  pub with-src : with_source src es ≡ es
  unfolding with_source
  with-src = refl

  pub with_nothing : with_source nothing es ≡ es
  unfolding with_source
  with_nothing = refl

pub with-source : (e : SourceExpression) (es : List SourceExpression) → with_source (source e) es ≡ e ∷ es
unfolding with_source
with-source e es = refl

pub with_append : (m : Meaning) (es : List SourceExpression) → with_source m es ≡ with_source m [] ++ es
unfolding with_source
with_append star es = refl
with_append self es = refl
with_append src es = refl
with_append (source e) es = refl
with_append nothing es = refl

-- a list of expressions alone, and with the self-origin before them; `*` alone
plain-star : (es : List SourceExpression) → has_star (map source es) ≡ false
unfolding some_is
plain-star [] = refl
plain-star (e ∷ es) = plain-star es

plain-self : (es : List SourceExpression) → has_self (map source es) ≡ false
unfolding some_is
plain-self [] = refl
plain-self (e ∷ es) = plain-self es

plain-src : (es : List SourceExpression) → has_src (map source es) ≡ false
unfolding some_is
plain-src [] = refl
plain-src (e ∷ es) = plain-src es

plain-sources : (es : List SourceExpression) → sources_of (map source es) ≡ es
unfolding sources_of with_source
plain-sources [] = refl
plain-sources (e ∷ es) = ap (λ (l : List SourceExpression). e ∷ l) (plain-sources es)

pub sources-plain : (es : List SourceExpression) → allowlist_of (map source es) ≡ listed false false es
unfolding allowlist_of allowlist pick
sources-plain es = rw (plain-star es, plain-self es, plain-src es, plain-sources es)

pub self-sources-plain : (es : List SourceExpression) → allowlist_of (self ∷ map source es) ≡ listed true false es
unfolding allowlist_of allowlist pick some_is sources_of with_source
self-sources-plain es = rw (plain-star es, plain-src es, plain-sources es)

pub star-alone : allowlist_of (star ∷ []) ≡ all
unfolding allowlist_of allowlist pick some_is
star-alone = refl

-- an empty list admits nobody; one meaning more, or what it admits alone
pub empty-admits : (a b : Bool) (o : Origin) → list_admits (allowlist_of []) a b o ≡ false
unfolding allowlist_of allowlist pick some_is sources_of list_admits any_admits
empty-admits a b o = refl

spread : Bool → Bool → Bool → List SourceExpression → Bool → Bool → Origin → Bool
spread any x y es a b o = any || (x && a || y && b || any_admits es o)

list-spread : (any x y : Bool) (es : List SourceExpression) (a b : Bool) (o : Origin) → list_admits (allowlist any x y es) a b o ≡ spread any x y es a b o
unfolding allowlist spread
list-spread true x y es a b o = unfold pick list_admits in refl
list-spread false x y es a b o = unfold pick list_admits in refl

or_self : (any x y r a b : Bool) → any || (a || y && b || r) ≡ a || (any || (x && a || y && b || r))
or_self true x y r true b = refl
or_self true x y r false b = refl
or_self false x y r true b = refl
or_self false true y r false b = refl
or_self false false y r false b = refl

or-src : (any x y r a b : Bool) → any || (x && a || b || r) ≡ b || (any || (x && a || y && b || r))
or-src true x y r a true = refl
or-src true x y r a false = refl
or-src false true y r true true = refl
or-src false true y r false true = refl
or-src false false y r a true = refl
or-src false true y r true false = refl
or-src false true true r false false = refl
or-src false true false r false false = refl
or-src false false true r a false = refl
or-src false false false r a false = refl

or-add : (any w r t : Bool) → any || (w || (t || r)) ≡ t || (any || (w || r))
or-add true w r true = refl
or-add true w r false = refl
or-add false true r true = refl
or-add false true r false = refl
or-add false false r t = refl

spread-cons : (m : Meaning) (any x y : Bool) (es : List SourceExpression) (a b : Bool) (o : Origin) → spread (is_star m || any) (is_self m || x) (is_src m || y) (with_source m es) a b o ≡ meaning_admits m a b o || spread any x y es a b o
unfolding spread meaning_admits with_source
spread-cons star any x y es a b o = refl
spread-cons self any x y es a b o = or_self any x y (any_admits es o) a b
spread-cons src any x y es a b o = or-src any x y (any_admits es o) a b
spread-cons (source e) any x y es a b o = unfold any_admits in (or-add any (x && a || y && b) (any_admits es o) (admits e o))
spread-cons nothing any x y es a b o = refl

cons-spread : (m : Meaning) (ms : List Meaning) (a b : Bool) (o : Origin) → spread (has_star (m ∷ ms)) (has_self (m ∷ ms)) (has_src (m ∷ ms)) (sources_of (m ∷ ms)) a b o ≡ meaning_admits m a b o || spread (has_star ms) (has_self ms) (has_src ms) (sources_of ms) a b o
unfolding some_is sources_of
cons-spread m ms a b o = spread-cons m (has_star ms) (has_self ms) (has_src ms) (sources_of ms) a b o

pub list-cons : (m : Meaning) (ms : List Meaning) (a b : Bool) (o : Origin) → list_admits (allowlist_of (m ∷ ms)) a b o ≡ meaning_admits m a b o || list_admits (allowlist_of ms) a b o
unfolding allowlist_of
list-cons m ms a b o =
    list-spread (has_star (m ∷ ms)) (has_self (m ∷ ms)) (has_src (m ∷ ms)) (sources_of (m ∷ ms)) a b o
    ∙ cons-spread m ms a b o
    ∙ ap (λ (t : Bool). meaning_admits m a b o || t) (sym (list-spread (has_star ms) (has_self ms) (has_src ms) (sources_of ms) a b o))

-- a list of one meaning admits what that admits: the self-origin, the src-origin
pub alone : (m : Meaning) (a b : Bool) (o : Origin) → list_admits (allowlist_of (m ∷ [])) a b o ≡ meaning_admits m a b o
alone m a b o = list-cons m [] a b o ∙ rw (empty-admits a b o) (or-false (meaning_admits m a b o))

pub self-alone : (a b : Bool) (o : Origin) → list_admits (allowlist_of (self ∷ [])) a b o ≡ a
self-alone a b o = alone self a b o ∙ unfold meaning_admits in refl

pub src-alone : (a b : Bool) (o : Origin) → list_admits (allowlist_of (src ∷ [])) a b o ≡ b
src-alone a b o = alone src a b o ∙ unfold meaning_admits in refl

-- only `*` admits a fresh origin
pub sources_fresh : (es : List SourceExpression) → any_admits es fresh ≡ false
unfolding any_admits
sources_fresh [] = refl
sources_fresh (e ∷ es) = rw (admits-fresh e, sources_fresh es)

pub sources-opaque : (es : List SourceExpression) (n : ℕ) → any_admits es (opaque n) ≡ false
unfolding any_admits
sources-opaque [] n = refl
sources-opaque (e ∷ es) n = rw (admits-opaque e n, sources-opaque es n)

no_self : (x y r : Bool) → r ≡ false → x && false || y && false || r ≡ false
no_self x y r e = rw (e, and-false x, and-false y)

pub fresh-all : (l : Allowlist) → list_admits l false false fresh ≡ true → l ≡ all
unfolding list_admits
fresh-all all e = refl
fresh-all (listed x y es) e = let f : x && false || y && false || any_admits es fresh ≡ false = no_self x y (any_admits es fresh) (sources_fresh es) in clash cc

-- and an opaque origin that is neither the self-origin nor the src-origin
pub opaque-all : (l : Allowlist) (n : ℕ) → list_admits l false false (opaque n) ≡ true → l ≡ all
unfolding list_admits
opaque-all all n e = refl
opaque-all (listed x y es) n e = let f : x && false || y && false || any_admits es (opaque n) ≡ false = no_self x y (any_admits es (opaque n)) (sources-opaque es n) in clash cc

-- the same beside the two origins
pub allows-fresh : (l : Allowlist) (own declared : Origin) → allows l own declared fresh ≡ true → l ≡ all
allows-fresh l own declared e = fresh-all l (rw (fresh-right own, fresh-right declared) at e)

pub allows-opaque : (l : Allowlist) (own declared : Origin) (n : ℕ) → same_origin own (opaque n) ≡ false → same_origin declared (opaque n) ≡ false → allows l own declared (opaque n) ≡ true → l ≡ all
allows-opaque l own declared n h k e = opaque-all l n (rw (h, k) at e)

-- one meaning more admits at least as much
meanings-more : (front back : List Meaning) (m : Meaning) (a b : Bool) (o : Origin) → list_admits (allowlist_of (front ++ back)) a b o ≡ true → list_admits (allowlist_of (front ++ (m ∷ back))) a b o ≡ true
meanings-more [] back m a b o e = list-cons m back a b o ∙ or-on (meaning_admits m a b o) (list_admits (allowlist_of back) a b o) e
meanings-more (x ∷ front) back m a b o e =
    list-cons x (front ++ (m ∷ back)) a b o
    ∙ or-more (meaning_admits x a b o) (list_admits (allowlist_of (front ++ back)) a b o) (list_admits (allowlist_of (front ++ (m ∷ back))) a b o) (λ f. meanings-more front back m a b o f) (sym (list-cons x (front ++ back) a b o) ∙ e)

pub meaning-wider : (front back : List Meaning) (m : Meaning) → Wider (allowlist_of (front ++ back)) (allowlist_of (front ++ (m ∷ back)))
meaning-wider front back m = record { keeps = λ a b o e. meanings-more front back m a b o e }

-- what is the same is as wide
pub wider-self : (l : Allowlist) → Wider l l
wider-self l = record { keeps = λ a b o e. e }

pub as-wide-self : (d : Option Allowlist) → AsWide d d
as-wide-self (Some l) = both (wider-self l)
as-wide-self None = neither

-- from the empty list to whatever stands, nothing is taken away
empty-wider : (l : Allowlist) → Wider empty_list l
empty-wider l = record { keeps = λ a b o e. nobody (list_admits empty_list a b o) (empty-list a b o) e }
  where
    nobody : {b : Bool} (x : Bool) → x ≡ false → x ≡ true → b ≡ true
    nobody x f e = clash cc

pub from_empty : (d : Option Allowlist) → AsWideOrOpened (Some empty_list) d
from_empty (Some l) = as_wide (both (empty-wider l))
from_empty None = opened
