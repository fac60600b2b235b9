-- What written headers declare, and that a declared list's expressions are such as a text can say: a part of the laws of this crate. Assumes nothing.
use mathlib.Core.Path.{◌≡◌, refl, ap, ◌∙◌, sym}
use Prim.Native.Nat.{ℕ}
use mathlib.Core.List.{List, [], ◌∷◌, map}
use mathlib.Core.Bool.{Bool, true, false}
use Rattle.std.specs.Prelude.{Option, Some, None}
use Rattle.ascii.specs.Bytes.{pick}
use Rattle.ascii.specs.Literals.{text}
use Rattle.ascii.specs.Texts.{same_by}
use Rattle.ascii.proofs.Clash.{clash}
use Rattle.features.specs.Features.{name_of}
use Rattle.origins.specs.Expressions.{SourceExpression}
use Rattle.origins.specs.NormalForms.{GoodExpression, expression_text}
use Rattle.origins.proofs.Laws.{expression-good, expression-back}
use Rattle.items.specs.Items.{Item}
use Rattle.items.specs.Items.Item.{token, string}
use Rattle.dictionaries.specs.Dictionaries.{Value, Plain, members}
use Rattle.dictionaries.specs.Dictionaries.Value.{one, many}
use Rattle.dictionaries.specs.Lookup.{last_value_in}
use Rattle.dictionaries.specs.Written.{All}
use Rattle.dictionaries.specs.Written.All.{empty, and}
use Rattle.allowlists.specs.Allowlists.{Allowlist, Meaning, is_src, has_src, with_source, sources_of, allowlist_of}
use Rattle.allowlists.specs.Allowlists.Allowlist.{all, listed}
use Rattle.allowlists.specs.Allowlists.Meaning.{star, self, src, source, nothing}
use Rattle.allowlists.proofs.Laws.{sources-plain, self-sources-plain, star-alone, listed-sources, listed-src, has-nil, has-cons, source-some, sources-nil, sources-cons, with-star, with-self, with-src, with-source, with_nothing}
use Rattle.declarations.specs.Declarations.{token_meaning, item_meaning, items_list, lone_declares, value_declares, last_declares, declares}
use Rattle.declarations.proofs.Meanings.{source-item, item-no-src}
use Rattle.declarations.proofs.Laws.{Lone, lone-cases}
use Rattle.declarations.proofs.Laws.Lone.{ignored, counted}

-- an expression as a string
abbrev pub source_string : SourceExpression → Item
source_string e = string (expression_text e)

string-meaning : (e : SourceExpression) → GoodExpression e → item_meaning (source_string e) ≡ source e
unfolding item_meaning
string-meaning e g = rw (expression-back e g) (source-some e)

strings : {es : List SourceExpression} → All GoodExpression es → map item_meaning (map source_string es) ≡ map source es
strings empty = refl
strings (and {x = e} {xs = es} g gs) = rw (string-meaning e g, strings gs)

-- a list of good expressions as strings declares just them; with `self` before them, `self` too
pub list_back : (es : List SourceExpression) → All GoodExpression es → value_declares (many (map source_string es)) ≡ Some (listed false false es)
unfolding value_declares
list_back es g = ap Some (ap allowlist_of (strings g) ∙ sources-plain es)

self-token : item_meaning (token (text "self")) ≡ self
unfolding item_meaning token_meaning same_by pick
self-token = refl

star-token : item_meaning (token (text "*")) ≡ star
unfolding item_meaning token_meaning same_by pick
star-token = refl

pub self-list-back : (es : List SourceExpression) → All GoodExpression es → value_declares (many (token (text "self") ∷ map source_string es)) ≡ Some (listed true false es)
unfolding value_declares
self-list-back es g = ap Some (ap allowlist_of (rw (self-token, strings g)) ∙ self-sources-plain es)

-- the token `*` declares `*`
pub star-back : value_declares (one (token (text "*"))) ≡ Some all
unfolding value_declares lone_declares
star-back = rw star-token (ap Some star-alone)

-- what a header declares, by its members
module _ (s : List ℕ) (n : ℕ) (ms : List Plain) (e : members s ≡ Some ms) where
  pub declares-value : (v : Value) → last_value_in (name_of n) (Some ms) ≡ Some (Some v) → declares s n ≡ value_declares v
  unfolding declares last_declares
  declares-value v f = rw (e, f)

  pub declares-none : last_value_in (name_of n) (Some ms) ≡ Some None → declares s n ≡ None
  unfolding declares last_declares
  declares-none f = rw (e, f)

-- of a declared list: what holds of the list that any items make, and of that of a lone item, holds of it
pub declared-list : (P : Allowlist → Type 0) → ((xs : List Item) → P (items_list xs)) → (s : List ℕ) (n : ℕ) (l : Allowlist) → declares s n ≡ Some l → P l
unfolding declares
declared-list P h s n l e = go (last_value_in (name_of n) (members s)) e
  where
    lone : (x : Item) (d : Option Allowlist) → Lone (item_meaning x) d → d ≡ Some l → P l
    lone x None (ignored k) f = clash cc
    lone x (Some m) counted f = let q : allowlist_of (item_meaning x ∷ []) ≡ l = cc in rw q at (h (x ∷ []))

    value : (v : Value) → value_declares v ≡ Some l → P l
    value (one x) f = lone x (lone_declares (item_meaning x)) (lone-cases (item_meaning x)) (unfold value_declares in f)
    value (many xs) f = let q : items_list xs ≡ l = unfold value_declares in cc in rw q at (h xs)

    go : (o : Option (Option Value)) → last_declares o ≡ Some l → P l
    go (Some (Some v)) f = value v (unfold last_declares in f)
    go (Some None) f = clash (unfold last_declares in cc)
    go None f = clash (unfold last_declares in cc)

-- its expressions are such as a text can say
source-good : (x : Item) (y : SourceExpression) → item_meaning x ≡ source y → GoodExpression y
source-good x y e = let f = source-item x y e in expression-good f.0 y f.2

sources-good : (xs : List Item) → All GoodExpression (sources_of (map item_meaning xs))
sources-good [] = rw sources-nil empty
sources-good (x ∷ xs) = rw (sources-cons (item_meaning x) (map item_meaning xs)) (go (item_meaning x) refl (sources-good xs))
  where
    go : (m : Meaning) → item_meaning x ≡ m → All GoodExpression (sources_of (map item_meaning xs)) → All GoodExpression (with_source m (sources_of (map item_meaning xs)))
    go star e g = rw (with-star (sources_of (map item_meaning xs))) g
    go self e g = rw (with-self (sources_of (map item_meaning xs))) g
    go src e g = rw (with-src (sources_of (map item_meaning xs))) g
    go (source y) e g = rw (with-source y (sources_of (map item_meaning xs))) (and (source-good x y e) g)
    go nothing e g = rw (with_nothing (sources_of (map item_meaning xs))) g

pub declares-good : (s : List ℕ) (n : ℕ) (a b : Bool) (es : List SourceExpression) → declares s n ≡ Some (listed a b es) → All GoodExpression es
declares-good s n a b es e =
    declared-list (λ l. (x y : Bool) (fs : List SourceExpression) → l ≡ listed x y fs → All GoodExpression fs)
    (λ xs x y fs k. rw (listed-sources (map item_meaning xs) x y fs k) at (sources-good xs))
    s n (listed a b es) e a b es refl

-- "`self` is the document's own origin": a header's list has no src-origin
pub no_src : (xs : List Item) → has_src (map item_meaning xs) ≡ false
no_src [] = has-nil is_src
no_src (x ∷ xs) = go (item_meaning x) refl (no_src xs)
  where
    go : (m : Meaning) → item_meaning x ≡ m → has_src (map item_meaning xs) ≡ false → has_src (m ∷ map item_meaning xs) ≡ false
    go star e g = rw (has-cons is_src star (map item_meaning xs)) g
    go self e g = rw (has-cons is_src self (map item_meaning xs)) g
    go src e g = absurd (item-no-src x e)
    go (source y) e g = rw (has-cons is_src (source y) (map item_meaning xs)) g
    go nothing e g = rw (has-cons is_src nothing (map item_meaning xs)) g

pub declares-no-src : (s : List ℕ) (n : ℕ) (a b : Bool) (es : List SourceExpression) → declares s n ≡ Some (listed a b es) → b ≡ false
declares-no-src s n a b es e =
    declared-list (λ l. (x y : Bool) (fs : List SourceExpression) → l ≡ listed x y fs → y ≡ false)
    (λ xs x y fs k. sym (listed-src (map item_meaning xs) x y fs k) ∙ no_src xs)
    s n (listed a b es) e a b es refl
