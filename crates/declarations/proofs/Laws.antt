-- The laws of declarations, for the crates above, which open no definition of this crate; `Meanings`, `Written` and `Few` are parts of them. Assumes nothing.
use mathlib.Core.Path.{◌≡◌, refl, ap, ◌∙◌, sym}
use Prim.Native.Nat.{ℕ, ◌≤◌}
use mathlib.Core.List.{List, [], ◌∷◌, ◌++◌, map}
use mathlib.Core.Bool.{Bool, true, false, not}
use Rattle.std.specs.Prelude.{Option, Some, None}
use Rattle.ascii.proofs.Clash.{clash}
use Rattle.features.specs.Features.{feature_count, name_of}
use Rattle.features.proofs.Laws.{name-none}
use Rattle.origins.specs.Origins.{Origin}
use Rattle.origins.specs.Origins.Origin.{opaque, fresh}
use Rattle.origins.specs.Matching.{same_origin}
use Rattle.origins.proofs.Laws.{fresh-right}
use Rattle.items.specs.Items.{Item}
use Rattle.dictionaries.specs.Dictionaries.{Value, Plain, members}
use Rattle.dictionaries.specs.Dictionaries.Value.{one, many}
use Rattle.dictionaries.specs.Lookup.{last_value_in, is_some}
use Rattle.dictionaries.specs.OneItemMore.{OneItemMore}
use Rattle.dictionaries.proofs.Keys.{no-empty-key}
use Rattle.dictionaries.proofs.Laws.{some-is, empty-members, last-of-empty, last-of-none, Grown, last-grown}
use Rattle.dictionaries.proofs.Laws.Grown.{same, grown}
use Rattle.allowlists.specs.Allowlists.{Allowlist, Meaning, allowlist_of, list_admits, some_admits}
use Rattle.allowlists.specs.Allowlists.Allowlist.{all}
use Rattle.allowlists.specs.Allowlists.Meaning.{star, self, src, source, nothing}
use Rattle.allowlists.specs.Widening.{Wider, AsWide}
use Rattle.allowlists.specs.Widening.AsWide.{both}
use Rattle.allowlists.proofs.Laws.{some-admits, none-admits, meaning-wider, as-wide-self, fresh-all, opaque-all}
use Rattle.declarations.specs.Declarations.{item_meaning, items_list, lone_declares, value_declares, last_declares, declares, is_malformed, declared_admits}

-- what a header declares, by its members
module _ (s : List ℕ) (n : ℕ) where
  pub declares-last : declares s n ≡ last_declares (last_value_in (name_of n) (members s))
  unfolding declares
  declares-last = refl

pub last-value : (v : Value) → last_declares (Some (Some v)) ≡ value_declares v
unfolding last_declares
last-value v = refl

pub last_none : last_declares (Some None) ≡ None
unfolding last_declares
last_none = refl

pub last-malformed : last_declares None ≡ None
unfolding last_declares
last-malformed = refl

pub value-one : (x : Item) → value_declares (one x) ≡ lone_declares (item_meaning x)
unfolding value_declares
value-one x = refl

pub value-many : (xs : List Item) → value_declares (many xs) ≡ Some (items_list xs)
unfolding value_declares
value-many xs = refl

-- a lone item is ignored, or declares what a list of it alone would
pub data Lone (m : Meaning) : Option Allowlist → Type 0 where
  ignored : m ≡ nothing → Lone m None
  counted : Lone m (Some (allowlist_of (m ∷ [])))

pub lone-cases : (m : Meaning) → Lone m (lone_declares m)
unfolding lone_declares
lone-cases star = counted
lone-cases self = counted
lone-cases src = counted
lone-cases (source e) = counted
lone-cases nothing = ignored refl

pub lone-nothing : lone_declares nothing ≡ None
unfolding lone_declares
lone-nothing = refl

-- a header that is no dictionary is malformed
pub malformed-is : (s : List ℕ) (b : Bool) → b ≡ is_some (members s) → not b ≡ is_malformed s
unfolding is_malformed
malformed-is s b h = rw h

pub members-good : (s : List ℕ) (ms : List Plain) → members s ≡ Some ms → is_malformed s ≡ false
unfolding is_malformed
members-good s ms e = rw (e, some-is ms)

-- the empty header is a dictionary that declares nothing
pub empty-declares : (n : ℕ) → declares [] n ≡ None
unfolding declares last_declares
empty-declares n = rw (empty-members, last-of-empty (name_of n))

pub empty-good : is_malformed [] ≡ false
empty-good = members-good [] [] empty-members

-- a malformed header declares nothing
pub malformed-declares : (s : List ℕ) (n : ℕ) → is_malformed s ≡ true → declares s n ≡ None
unfolding declares
malformed-declares s n e = go (members s) refl
  where
    go : (d : Option (List Plain)) → members s ≡ d → last_declares (last_value_in (name_of n) d) ≡ None
    go (Some ms) f = let g : is_malformed s ≡ false = members-good s ms f in clash cc
    go None f = rw (last-of-none (name_of n)) last-malformed

-- a number over 16 is declared by no header
pub declares-past : (s : List ℕ) (n : ℕ) → feature_count ≤ n → declares s n ≡ None
unfolding declares
declares-past s n h = rw (name-none n h) (go (last_value_in [] (members s)) refl)
  where
    go : (o : Option (Option Value)) → last_value_in [] (members s) ≡ o → last_declares o ≡ None
    go (Some (Some v)) e = absurd (no-empty-key s v e)
    go (Some None) e = last_none
    go None e = last-malformed

-- whether what is declared admits an origin
pub declared-some : (l : Allowlist) (own o : Origin) → declared_admits (Some l) own o ≡ Some (list_admits l (same_origin own o) false o)
unfolding declared_admits
declared-some l own o = some-admits l (same_origin own o) false o

pub declared-none : (own o : Origin) → declared_admits None own o ≡ None
unfolding declared_admits
declared-none own o = none-admits (same_origin own o) false o

-- the answer that the code gets, told whether the origin is the document's own
pub declared-told : (d : Option Allowlist) (mine : Bool) (own o : Origin) → mine ≡ same_origin own o → some_admits d mine false o ≡ declared_admits d own o
unfolding declared_admits
declared-told d mine own o e = ap (λ (b : Bool). some_admits d b false o) e

-- only `*` admits a fresh origin, or an opaque one that isn't the document's own
pub declared-fresh : (l : Allowlist) (own : Origin) → declared_admits (Some l) own fresh ≡ Some true → l ≡ all
declared-fresh l own e =
    let f : Some (list_admits l (same_origin own fresh) false fresh) ≡ Some true = sym (declared-some l own fresh) ∙ e in
    let g : list_admits l (same_origin own fresh) false fresh ≡ true = cc in
    fresh-all l (rw (fresh-right own) at g)

pub declared-opaque : (l : Allowlist) (own : Origin) (n : ℕ) → same_origin own (opaque n) ≡ false → declared_admits (Some l) own (opaque n) ≡ Some true → l ≡ all
declared-opaque l own n h e =
    let f : Some (list_admits l (same_origin own (opaque n)) false (opaque n)) ≡ Some true = sym (declared-some l own (opaque n)) ∙ e in
    let g : list_admits l (same_origin own (opaque n)) false (opaque n) ≡ true = cc in
    opaque-all l n (rw h at g)

-- one item more admits at least as much
map-append : (f : Item → Meaning) (xs ys : List Item) → map f (xs ++ ys) ≡ map f xs ++ map f ys
map-append f [] ys = refl
map-append f (x ∷ xs) ys = ap (λ (l : List Meaning). f x ∷ l) (map-append f xs ys)

list-wider : (front back : List Item) (x : Item) → Wider (items_list (front ++ back)) (items_list (front ++ (x ∷ back)))
list-wider front back x =
    rw (map-append item_meaning front back, map-append item_meaning front (x ∷ back)) (meaning-wider (map item_meaning front) (map item_meaning back) (item_meaning x))

grown-wide : {v w : Option Value} → Grown v w → AsWide (last_declares (Some v)) (last_declares (Some w))
unfolding last_declares value_declares
grown-wide (same {v = v}) = as-wide-self (last_declares (Some v))
grown-wide (grown front back x) = both (list-wider front back x)

-- with one item more in a header, each feature is declared in both or in neither, and no list admits less
pub item-as-wide : (s t : List ℕ) → OneItemMore s t → (n : ℕ) → AsWide (declares s n) (declares t n)
unfolding declares
item-as-wide s t h n =
    let g = last-grown s t h (name_of n) in
    rw (g.is_first, g.is_second) (grown-wide g.grows)

-- and neither header is malformed
pub item-good : (s t : List ℕ) → OneItemMore s t → (is_malformed s ≡ false) × (is_malformed t ≡ false)
item-good s t h = (members-good s _ h.first, members-good t _ h.second)
