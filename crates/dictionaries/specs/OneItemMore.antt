-- 01, "What demand 3 speaks of": the added item.
use Rattle.std.specs.Prelude.{ℕ, ◌≡◌, List, ◌∷◌, ◌++◌}
use Rattle.std.specs.Prelude.{Some}
use Rattle.items.specs.Items.{Item}
use Rattle.dictionaries.specs.Dictionaries.{Plain, members}
use Rattle.dictionaries.specs.Dictionaries.Value.{many}

-- "both headers are dictionaries; read with repeated keys kept, their members are the same in the same order, but one feature's inner list has
-- one item more, anywhere in it": the list may be of any key, of a member that a later one replaces too, and the item may be any. Wider than the
-- paper's, since parameters, and which number, boolean or byte sequence an item is, may differ besides: a law over it says more
pub record OneItemMore (s t : List ℕ) : Type 0 where
  -- the members before and past the one whose list has the item more
  pub before : List Plain
  pub behind : List Plain
  pub key : List ℕ
  -- the items of its list before and past the added one
  pub front : List Item
  pub back : List Item
  pub item : Item
  pub first : members s ≡ Some (before ++ (record { key = key; value = many (front ++ back) } ∷ behind))
  pub second : members t ≡ Some (before ++ (record { key = key; value = many (front ++ (item ∷ back)) } ∷ behind))
