-- RFC 8941 section 4.1, serialising, for what tidied headers have: members whose value is a token or a string, or an inner list of them, without
-- parameters.
use Rattle.std.specs.Prelude.{ℕ, ◌≡◌, List, [], ◌∷◌, ◌++◌, map, true}
use Rattle.ascii.specs.Bytes.{is_key_start, is_key_byte, is_token_start, is_token_byte}
use Rattle.ascii.specs.Literals.{text}
use Rattle.ascii.specs.Texts.{every}
use Rattle.ascii.specs.Reading.{head_is}
use Rattle.items.specs.Items.{Item, is_unescaped}
use Rattle.items.specs.Items.Item.{token, string, other}
use Rattle.dictionaries.specs.Dictionaries.{Value, Plain}
use Rattle.dictionaries.specs.Dictionaries.Value.{one, many}

-- each text with a separator before it
unfoldable pub each_after : List ℕ → List (List ℕ) → List ℕ
each_after c [] = []
each_after c (t ∷ ts) = c ++ (t ++ each_after c ts)

-- texts joined by a separator
unfoldable pub joined_by : List ℕ → List (List ℕ) → List ℕ
joined_by c [] = []
joined_by c (t ∷ ts) = t ++ each_after c ts

-- 4.1.7, a token as it is; 4.1.6, a string between quotes, its text as written; no other item is written
unfoldable pub item_text : Item → List ℕ
item_text (token t) = t
item_text (string t) = text "\"" ++ (t ++ text "\"")
item_text other = []

-- 4.1.1.1, an inner list: between brackets, its items parted by a space
unfoldable pub value_text : Value → List ℕ
value_text (one x) = item_text x
value_text (many xs) = text "(" ++ (joined_by (text " ") (map item_text xs) ++ text ")")

-- 4.1.2, a member: key, "=" and value
unfoldable pub member_text : Plain → List ℕ
member_text m = m.key ++ (text "=" ++ value_text m.value)

-- 4.1.2, members parted by a comma and a space
unfoldable pub written : List Plain → List ℕ
written ms = joined_by (text ", ") (map member_text ms)

-- 4.1.1.3, what a key can be
pub record GoodKey (k : List ℕ) : Type 0 where
  pub starts : head_is is_key_start k ≡ true
  pub bytes : every is_key_byte k ≡ true

-- 4.1.7, what a token can be
pub record GoodToken (t : List ℕ) : Type 0 where
  pub starts : head_is is_token_start t ≡ true
  pub bytes : every is_token_byte t ≡ true

-- items that can be written
abbrev pub GoodItem : Item → Type 0
GoodItem (token t) = GoodToken t
GoodItem (string t) = every is_unescaped t ≡ true
GoodItem other = ⊥

-- a property of every element of a list
pub data All {A : Type 0} (P : A → Type 0) : List A → Type 0 where
  empty : All P []
  and : {x : A} {xs : List A} → P x → All P xs → All P (x ∷ xs)

-- values that can be written
abbrev pub GoodValue : Value → Type 0
GoodValue (one x) = GoodItem x
GoodValue (many xs) = All GoodItem xs

pub record GoodMember (m : Plain) : Type 0 where
  pub key : GoodKey m.key
  pub value : GoodValue m.value

-- members that can be written
abbrev pub AllGood : List Plain → Type 0
AllGood ms = All GoodMember ms
