-- The last member of a key, and the items of a list one after the other: as data, and as the code's answers.
use Rattle.items.specs.declared.ItemFound.{ItemFound}
use Rattle.std.specs.Prelude.{ℕ, zero, suc, ◌-◌, ◌^◌, ◌≤◌, ◌<◌, ◌≡◌, List, [], ◌∷◌, ◌++◌, Bool, true, false, ◌||◌, length, drop, eqb}
use Rattle.std.specs.Prelude.{Option, Some, None, Result, Ok, Err}
use Rattle.ascii.specs.Bytes.{pick, is_space}
use Rattle.ascii.specs.Texts.{same_bytes}
use Rattle.ascii.specs.declared.TextRange.{TextRange}
use Rattle.ascii.specs.Reading.{Parsed, Step, head_of, skip}
use Rattle.ascii.specs.Reading.Parsed.{parsed, malformed}
use Rattle.ascii.specs.Reading.Step.{more, done, fail}
use Rattle.items.specs.Items.{Item, Parameter, params_of, item_of}
use Rattle.items.specs.Found.{item_range, item_in}
use Rattle.dictionaries.specs.Dictionaries.{Value, Placed, Member, Plain, inner_turn, data_of, dictionary, members}
use Rattle.dictionaries.specs.Dictionaries.Value.{one, many}
use Rattle.dictionaries.specs.declared.ValueRange.{ValueRange}
use Rattle.dictionaries.specs.declared.ValueRange.TheVariants as range
use Rattle.dictionaries.specs.declared.MemberValue.{MemberValue}
use Rattle.dictionaries.specs.declared.NotADictionary.{NotADictionary}

-- a fold from the left
unfoldable pub into : {A B : Type 0} → (B → A → B) → B → List A → B
into k b [] = b
into k b (x ∷ xs) = into k (k b x) xs

-- whether there is something: a text is a dictionary exactly if it has members
unfoldable pub is_some : {A : Type 0} → Option A → Bool
is_some (Some a) = true
is_some None = false

-- 01, "Header and attribute": "A repeated key keeps only its last value"
unfoldable pub latest : List ℕ → Option Member → Member → Option Member
latest key b m = pick (same_bytes m.key key) (Some m) b

unfoldable pub last_in : List ℕ → Option (List Member) → Option (Option Member)
last_in key (Some ms) = Some (into (latest key) None ms)
last_in key None = None

-- the same of members without their places
unfoldable pub later : List ℕ → Option Value → Plain → Option Value
later key b m = pick (same_bytes m.key key) (Some m.value) b

unfoldable pub last_value_in : List ℕ → Option (List Plain) → Option (Option Value)
last_value_in key (Some ms) = Some (into (later key) None ms)
last_value_in key None = None

-- the parameters of the last member of a key
unfoldable pub parameters_of : Option Member → Option (List Parameter)
parameters_of (Some m) = Some m.placed.parameters
parameters_of None = None

unfoldable pub last_parameters_in : List ℕ → Option (List Member) → Option (Option (List Parameter))
last_parameters_in key (Some ms) = Some (parameters_of (into (latest key) None ms))
last_parameters_in key None = None

-- where a value stands that starts at a place, as the code has it
unfoldable pub range_at : ℕ → Value → ValueRange
range_at at (one x) = range.Item (item_range at x)
range_at at (many xs) = range.List at

-- a value and its places as the code has them, by what is left there
unfoldable pub placed_at : List ℕ → Placed → MemberValue
placed_at s p =
    record {
      range = range_at (length s - p.start) p.value;
      params = record { from = length s - p.params_from; to = length s - p.params_to };
    }

-- what is answered of a text that is not a dictionary
abbrev pub refused : (A : Type 0) → Result A NotADictionary
refused A = Err (record {})

unfoldable pub answer_of : List ℕ → Option (Option Member) → Result (Option MemberValue) NotADictionary
answer_of s None = refused (Option MemberValue)
answer_of s (Some None) = Ok None
answer_of s (Some (Some m)) = Ok (Some (placed_at s m.placed))

-- the answer for the last member of a key
abbrev pub last_found : List ℕ → List ℕ → Result (Option MemberValue) NotADictionary
last_found s key = answer_of s (last_in key (dictionary s))

-- what is read at a cursor of an inner list: an item, or nothing where ")" stands or the text is malformed
unfoldable pub pointed_at : List ℕ → List ℕ → Parsed Item → Option ItemFound
pointed_at s m (parsed x n) =
    pick (eqb (head_of n) 32 || eqb (head_of n) 41)
    (Some (record { range = item_range (length s - length m) x; next = length s - length n }))
    None
pointed_at s m malformed = None

unfoldable pub cursor_at : List ℕ → ℕ → Option ItemFound
cursor_at s c = skip is_space (drop c s) (λ m. pick (eqb (head_of m) 41) None (pointed_at s m (item_of m)))

-- the items of an inner list from a cursor on, up to ")" or to where the text is malformed
unfoldable pub onward : Step Item → (List ℕ → List Item) → List Item
onward (more xs l) f = xs ++ f l
onward (done xs l) f = xs
onward fail f = []

unfoldable pub walk : ℕ → List ℕ → List Item
walk zero l = []
walk (suc n) l = onward (inner_turn l) (λ m. walk n m)

abbrev pub items_from : List ℕ → ℕ → List Item
items_from s c = walk (suc (length (drop c s))) (drop c s)

-- what a value with its places says beside the text
unfoldable pub range_in : List ℕ → ValueRange → Value
range_in s (range.Item x) = one (item_in s x)
range_in s (range.List first) = many (items_from s first)

abbrev pub value_in : List ℕ → MemberValue → Value
value_in s v = range_in s v.range

-- what an answer for a key says: none where the text is not a dictionary, some none where it has no such member
unfoldable pub found_in : List ℕ → Result (Option MemberValue) NotADictionary → Option (Option Value)
found_in s (Err e) = None
found_in s (Ok None) = Some None
found_in s (Ok (Some v)) = Some (Some (value_in s v))

-- the parameters that stand in a range: those that are read from its start on
unfoldable pub parameters_in : List ℕ → TextRange → Option (List Parameter)
parameters_in s p = data_of (params_of (drop p.from s))

unfoldable pub found_parameters_in : List ℕ → Result (Option MemberValue) NotADictionary → Option (Option (List Parameter))
found_parameters_in s (Err e) = None
found_parameters_in s (Ok None) = Some None
found_parameters_in s (Ok (Some v)) = Some (parameters_in s v.params)

-- "A repeated key keeps only its last value": the answer says the last value of the key and its parameters, and has
-- that member's places
pub record IsLast (s key : List ℕ) (r : Result (Option MemberValue) NotADictionary) : Type 0 where
  pub says : found_in s r ≡ last_value_in key (members s)
  pub parameters : found_parameters_in s r ≡ last_parameters_in key (dictionary s)
  pub is : r ≡ last_found s key

-- what an answer at a cursor of an inner list says: the items from there on
unfoldable pub list_in : List ℕ → Option ItemFound → List Item
list_in s (Some f) = item_in s f.range ∷ items_from s f.next
list_in s None = []

-- the next cursor, as a bound from below and from above
abbrev pub low_next : Option ItemFound → ℕ
low_next (Some f) = f.next
low_next None = 2 ^ 64

abbrev pub high_next : Option ItemFound → ℕ
high_next (Some f) = f.next
high_next None = 0

-- the answer says the items of the list from the cursor on, and is what is read there; the next cursor lies past it, and within the text
pub record IsPointed (s : List ℕ) (c : ℕ) (r : Option ItemFound) : Type 0 where
  pub says : list_in s r ≡ items_from s c
  pub is : r ≡ cursor_at s c
  pub past : c < low_next r
  pub upto : high_next r ≤ length s
