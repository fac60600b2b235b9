-- What the code's answers, places of a text, say of items.
use Rattle.items.specs.declared.ItemFound.{ItemFound}
use Rattle.std.specs.Prelude.{Option, Some, None}
use Rattle.std.specs.Prelude.{ℕ, ◌+◌, ◌-◌, ◌≤◌, ◌<◌, ◌≡◌, List, length}
use Rattle.ascii.specs.Texts.{part_in}
use Rattle.ascii.specs.Reading.{Parsed}
use Rattle.ascii.specs.Reading.Parsed.{parsed, malformed}
use Rattle.ascii.specs.Places.{rest_of, left_at, low, high}
use Rattle.items.specs.Items.{Item}
use Rattle.items.specs.Items.Item.{token, string, other}
use Rattle.items.specs.declared.ItemKind.{ItemKind}
use Rattle.items.specs.declared.ItemKind.TheVariants as kind
use Rattle.items.specs.declared.ItemRange.{ItemRange}

-- where the text of an item stands that was read at a place: a string's past its quote; another item has none
unfoldable pub item_range : ℕ → Item → ItemRange
item_range at (token t) = record { kind = kind.Token; text = record { from = at; to = at + length t } }
item_range at (string t) = record { kind = kind.String; text = record { from = at + 1; to = at + 1 + length t } }
item_range at other = record { kind = kind.Other; text = record { from = at; to = at } }

-- the answer that a reading at a place has: the item's range, and the place past it, known by what is left there
unfoldable pub item_found : List ℕ → ℕ → Parsed Item → Option ItemFound
item_found s at (parsed x l) = Some (record { range = item_range at x; next = length s - length l })
item_found s at malformed = None

-- the item that a kind and a text make
unfoldable pub item_by : ItemKind → List ℕ → Item
item_by kind.Token t = token t
item_by kind.String t = string t
item_by kind.Other t = other

-- the item that a range says
unfoldable pub item_in : List ℕ → ItemRange → Item
item_in s p = item_by p.kind (part_in s p.text)

-- the place past an item
abbrev pub end_of : Option ItemFound → Option ℕ
end_of (Some f) = Some f.next
end_of None = None

-- the answer is the reading's; it lies past its start, and within the text
pub record IsItem (s : List ℕ) (at : ℕ) (r : Option ItemFound) (want : Parsed Item) : Type 0 where
  pub is : r ≡ item_found s at want
  pub left : left_at s (end_of r) ≡ rest_of want
  pub past : at < low (end_of r)
  pub upto : high (end_of r) ≤ length s
