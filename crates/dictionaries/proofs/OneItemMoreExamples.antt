-- Examples of headers with one item more, and of headers that are not so related, by computation. Assumes nothing.
use mathlib.Core.Path.{◌≡◌, refl, ap, ◌∙◌, sym}
use Prim.Native.Nat.{ℕ, suc, ◌+◌}
use mathlib.Core.List.{List, [], ◌∷◌, ◌++◌}
use Rattle.std.specs.Prelude.{Option, Some, None}
use native.Mathlib.Omega.{arith}
use lib.ListN.{length, length-append}
use Rattle.ascii.proofs.Clash.{clash}
use Rattle.ascii.specs.Literals.{text}
use Rattle.items.specs.Items.{Item}
use Rattle.items.specs.Items.Item.{token, string, other}
use Rattle.dictionaries.specs.Computing.{computing}
use Rattle.dictionaries.specs.Dictionaries.{Value, Plain, members}
use Rattle.dictionaries.specs.Dictionaries.Value.{one, many}
use Rattle.dictionaries.specs.OneItemMore.{OneItemMore}

-- what one item more leaves and adds: the keys stay, and the items of all lists are one more
unfoldable keys_of : List Plain → List (List ℕ)
keys_of [] = []
keys_of (m ∷ ms) = m.key ∷ keys_of ms

unfoldable item_count : Value → ℕ
item_count (one x) = 0
item_count (many xs) = length xs

unfoldable items_of : List Plain → ℕ
items_of [] = 0
items_of (m ∷ ms) = item_count m.value + items_of ms

unfoldable keys_held : Option (List Plain) → List (List ℕ)
keys_held (Some ms) = keys_of ms
keys_held None = []

unfoldable items_held : Option (List Plain) → ℕ
items_held (Some ms) = items_of ms
items_held None = 0

keys-same : (before behind : List Plain) (k : List ℕ) (v w : Value) → keys_of (before ++ (record { key = k; value = v } ∷ behind)) ≡ keys_of (before ++ (record { key = k; value = w } ∷ behind))
unfolding keys_of
keys-same [] behind k v w = refl
keys-same (m ∷ ms) behind k v w = ap (λ (z : List (List ℕ)). m.key ∷ z) (keys-same ms behind k v w)

items_more : (before behind : List Plain) (k : List ℕ) (front back : List Item) (x : Item) → items_of (before ++ (record { key = k; value = many (front ++ (x ∷ back)) } ∷ behind)) ≡ suc (items_of (before ++ (record { key = k; value = many (front ++ back) } ∷ behind)))
unfolding items_of item_count
items_more [] behind k front back x = omega (arith, length-append front (x ∷ back), length-append front back)
items_more (m ∷ ms) behind k front back x = omega (arith, items_more ms behind k front back x)

-- the keys are the same in the same order
added-keys : (s t : List ℕ) → OneItemMore s t → keys_held (members s) ≡ keys_held (members t)
unfolding keys_held
added-keys s t o = ap keys_held o.first ∙ (keys-same o.before o.behind o.key _ _ ∙ sym (ap keys_held o.second))

-- there is one item more in all
added-items : (s t : List ℕ) → OneItemMore s t → items_held (members t) ≡ suc (items_held (members s))
unfolding items_held
added-items s t o = ap items_held o.second ∙ (items_more o.before o.behind o.key o.front o.back o.item ∙ ap suc (sym (ap items_held o.first)))

-- an item first: `a=(b c)` and `a=(d b c)`
item-first : OneItemMore (text "a=(b c)") (text "a=(d b c)")
unfolding computing
item-first =
    record {
      before = ([]);
      behind = ([]);
      key = text "a";
      front = ([]);
      back = (token (text "b") ∷ token (text "c") ∷ []);
      item = token (text "d");
      first = refl;
      second = refl;
    }

-- an item in the middle: `a=(b c)` and `a=(b "d" c)`
item-between : OneItemMore (text "a=(b c)") (text "a=(b \"d\" c)")
unfolding computing
item-between =
    record {
      before = ([]);
      behind = ([]);
      key = text "a";
      front = (token (text "b") ∷ []);
      back = (token (text "c") ∷ []);
      item = string (text "d");
      first = refl;
      second = refl;
    }

-- an item last: `a=(b c)` and `a=(b c d)`
item-last : OneItemMore (text "a=(b c)") (text "a=(b c d)")
unfolding computing
item-last =
    record {
      before = ([]);
      behind = ([]);
      key = text "a";
      front = (token (text "b") ∷ token (text "c") ∷ []);
      back = ([]);
      item = token (text "d");
      first = refl;
      second = refl;
    }

-- an item into an empty list: `a=()` and `a=(b)`
item-alone : OneItemMore (text "a=()") (text "a=(b)")
unfolding computing
item-alone =
    record {
      before = ([]);
      behind = ([]);
      key = text "a";
      front = ([]);
      back = ([]);
      item = token (text "b");
      first = refl;
      second = refl;
    }

-- an item in a member that a later one replaces: `a=(b), a=1` and `a=(b c), a=1`
item-replaced : OneItemMore (text "a=(b), a=1") (text "a=(b c), a=1")
unfolding computing
item-replaced =
    record {
      before = ([]);
      behind = (record { key = text "a"; value = one other } ∷ []);
      key = text "a";
      front = (token (text "b") ∷ []);
      back = ([]);
      item = token (text "c");
      first = refl;
      second = refl;
    }

-- an item of kind other with parameters: `z=*, a=(b)` and `z=*, a=(b 2.5;x;y=1)`
item-other : OneItemMore (text "z=*, a=(b)") (text "z=*, a=(b 2.5;x;y=1)")
unfolding computing
item-other =
    record {
      before = (record { key = text "z"; value = one (token (text "*")) } ∷ []);
      behind = ([]);
      key = text "a";
      front = (token (text "b") ∷ []);
      back = ([]);
      item = other;
      first = refl;
      second = refl;
    }

-- headers that differ in spacing too: `a=(b),c` and ` a=( b  d ) ,\tc`
item-spaced : OneItemMore (text "a=(b),c") (text " a=( b  d ) ,\tc")
unfolding computing
item-spaced =
    record {
      before = ([]);
      behind = (record { key = text "c"; value = one other } ∷ []);
      key = text "a";
      front = (token (text "b") ∷ []);
      back = ([]);
      item = token (text "d");
      first = refl;
      second = refl;
    }

-- an item removed: `a=(b c)` and `a=(b)`
item-removed : OneItemMore (text "a=(b c)") (text "a=(b)") → ⊥
unfolding computing items_held items_of item_count
item-removed o = let e : ◌≡◌ {A = ℕ} 1 3 = added-items _ _ o in omega arith

-- a key renamed: `a=(b)` and `c=(b d)`
key-renamed : OneItemMore (text "a=(b)") (text "c=(b d)") → ⊥
unfolding computing keys_held keys_of
key-renamed o = let e : ◌≡◌ {A = List (List ℕ)} ((text "a") ∷ []) ((text "c") ∷ []) = added-keys _ _ o in let z : ◌≡◌ {A = ℕ} 97 99 = cc in omega arith

-- a header that is not a dictionary: `a=(b)` and `a=(b,c)`
not-read : OneItemMore (text "a=(b)") (text "a=(b,c)") → ⊥
unfolding computing
not-read o = let e : None ≡ Some _ = o.second in clash cc
