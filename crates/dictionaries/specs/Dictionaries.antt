-- RFC 8941 section 4.2: inner lists, members and dictionaries, read from the front of a text.
use Rattle.std.specs.Prelude.{ℕ, List, [], ◌∷◌, ◌||◌, length, eqb}
use Rattle.std.specs.Prelude.{Option, Some, None}
use Rattle.ascii.specs.Bytes.{pick, is_space, is_blank}
use Rattle.ascii.specs.Reading.{Parsed, Step, head_of, is_empty, next, skip, after, mapped, going, turns_of}
use Rattle.ascii.specs.Reading.Parsed.{parsed, malformed}
use Rattle.ascii.specs.Reading.Step.{more, done, fail}
use Rattle.items.specs.Items.{Item, Parameter, key_of, bare_of, params_of, item_of}
use Rattle.items.specs.Items.Item.{other}

-- a member's value: an item, or an inner list of items
pub data Value : Type 0 where
  one : Item → Value
  many : List Item → Value

abbrev pub value_items : Value → List Item
value_items (one x) = x ∷ []
value_items (many xs) = xs

-- a value and its parameters, repeated keys kept, as they stand in a text; a place is said by how many bytes are left there: where an item or
-- the first item of a list may start, and where the member's parameters start and end
pub record Placed : Type 0 where
  pub value : Value
  pub parameters : List Parameter
  pub start : ℕ
  pub params_from : ℕ
  pub params_to : ℕ

-- a member: its key, and where that starts
pub record Member : Type 0 where
  pub key : List ℕ
  pub from : ℕ
  pub placed : Placed

-- 4.2.1.2, an item of an inner list, which a space or ")" must follow, or the list's end
unfoldable pub inner_turn : List ℕ → Step Item
inner_turn l =
    skip is_space l
    (λ m.
    pick (eqb (head_of m) 41) (next m (λ n. done [] n))
    (going (item_of m) (λ x n. pick (eqb (head_of n) 32 || eqb (head_of n) 41) (more (x ∷ []) n) fail)))

-- 4.2.1.2, an inner list, past its "("
unfoldable pub inner_of : List ℕ → Parsed (List Item)
inner_of l = turns_of inner_turn l

-- the parameters of a member, past its value
unfoldable pub closed_of : Value → List ℕ → List ℕ → Parsed Placed
closed_of v l m =
    after (params_of m)
    (λ ps n. parsed (record { value = v; parameters = ps; start = length l; params_from = length m; params_to = length n }) n)

-- 4.2.1.2, an inner list past its "(", and its parameters
unfoldable pub list_of : List ℕ → Parsed Placed
list_of l = after (inner_of l) (λ xs m. closed_of (many xs) l m)

-- 4.2.3, an item and its parameters
unfoldable pub lone_of : List ℕ → Parsed Placed
lone_of l = after (bare_of l) (λ x m. closed_of (one x) l m)

-- 4.2.1.1, an item or an inner list: a list exactly if "(" comes first
unfoldable pub value_of : List ℕ → Parsed Placed
value_of l = pick (eqb (head_of l) 40) (next l (λ m. list_of m)) (lone_of l)

-- 4.2.2, a key alone: the boolean true, and parameters
unfoldable pub bare_key : List ℕ → Parsed Placed
bare_key l = closed_of (one other) l l

-- 4.2.2, past a key: "=" and a value, or neither
unfoldable pub assigned_of : List ℕ → Parsed Placed
assigned_of l = pick (eqb (head_of l) 61) (next l (λ m. value_of m)) (bare_key l)

-- 4.2.2, one member
unfoldable pub member_of : List ℕ → Parsed Member
member_of l = after (key_of l) (λ k m. mapped (λ v. record { key = k; from = length l; placed = v }) (assigned_of m))

-- 4.2.2, past a member: OWS and the end; or OWS, a comma, OWS, and not the end
unfoldable pub parted_of : {A : Type 0} → A → List ℕ → Step A
parted_of x l =
    skip is_blank l
    (λ m.
    pick (is_empty m) (done (x ∷ []) m)
    (pick (eqb (head_of m) 44)
    (next m (λ n. skip is_blank n (λ o. pick (is_empty o) fail (more (x ∷ []) o))))
    fail))

-- the same, whatever the member is
abbrev pub parted_by : List ℕ → Step (Unit {0})
parted_by l = parted_of tt l

unfoldable pub dict_turn : List ℕ → Step Member
dict_turn l = going (member_of l) (λ x m. parted_of x m)

-- 4.2, for a dictionary: leading spaces, and the members; a space or tab after the last one was taken with it
unfoldable pub read_all : List ℕ → Parsed (List Member)
read_all s = skip is_space s (λ l. pick (is_empty l) (parsed [] l) (turns_of dict_turn l))

unfoldable pub data_of : {A : Type 0} → Parsed A → Option A
data_of (parsed a l) = Some a
data_of malformed = None

-- the members of a text in order, repeated keys kept, each with its parameters and places; none where it is not a dictionary
abbrev pub dictionary : List ℕ → Option (List Member)
dictionary s = data_of (read_all s)

-- a member without its parameters and places
pub record Plain : Type 0 where
  pub key : List ℕ
  pub value : Value

abbrev pub plain : Member → Plain
plain m = record { key = m.key; value = m.placed.value }

unfoldable pub plains : List Member → List Plain
plains [] = []
plains (m ∷ ms) = plain m ∷ plains ms

unfoldable pub plainly : Option (List Member) → Option (List Plain)
plainly (Some ms) = Some (plains ms)
plainly None = None

-- the members of a text in order, repeated keys kept; none where it is not a dictionary
abbrev pub members : List ℕ → Option (List Plain)
members s = plainly (dictionary s)
