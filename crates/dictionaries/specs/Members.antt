-- The members of a text one after the other, by a cursor: as data, and as the code's answers. The cursor of the first member is 0.
use Rattle.std.specs.Prelude.{ℕ, ◌+◌, ◌-◌, ◌^◌, ◌≤◌, ◌<◌, ◌≡◌, List, [], ◌∷◌, length, drop}
use Rattle.std.specs.Prelude.{Option, Some, None, Result, Ok, Err}
use Rattle.ascii.specs.Bytes.{pick, is_space}
use Rattle.ascii.specs.Texts.{part_in}
use Rattle.ascii.specs.Reading.{Parsed, Step, is_empty, skip}
use Rattle.ascii.specs.Reading.Parsed.{parsed, malformed}
use Rattle.ascii.specs.Reading.Step.{more, done, fail}
use Rattle.dictionaries.specs.Dictionaries.{Member, Plain, member_of, parted_by, members}
use Rattle.dictionaries.specs.Lookup.{into, refused, placed_at, value_in}
use Rattle.dictionaries.specs.declared.MemberAt.{MemberAt}
use Rattle.dictionaries.specs.declared.NotADictionary.{NotADictionary}

-- the members from a cursor on, repeated keys kept; none where the text is not a dictionary from there on
abbrev pub members_from : List ℕ → ℕ → Option (List Plain)
members_from s c = members (drop c s)

-- a member that is read before others
unfoldable pub with_first : {A : Type 0} → A → Option (List A) → Option (List A)
with_first m (Some ms) = Some (m ∷ ms)
with_first m None = None

-- what a member with its places says beside the text
abbrev pub member_in : List ℕ → MemberAt → Plain
member_in s m = record { key = part_in s m.key; value = value_in s m.value }

-- what an answer at a cursor says: the members from there on
unfoldable pub next_in : List ℕ → Result (Option MemberAt) NotADictionary → Option (List Plain)
next_in s (Ok (Some m)) = with_first (member_in s m) (members_from s m.next)
next_in s (Ok None) = Some []
next_in s (Err e) = None

-- a member and its places as the code has them, by what is left there, and the place past it
unfoldable pub member_at : List ℕ → Member → ℕ → MemberAt
member_at s m n =
    record {
      key = record { from = length s - m.from; to = length s - m.from + length m.key };
      value = placed_at s m.placed;
      next = n;
    }

-- RFC 8941 section 4.2.2: a member counts if the end stands past it, or a comma and not the end; there the next is read
unfoldable pub parted_at : List ℕ → Member → Step (Unit {0}) → Result (Option MemberAt) NotADictionary
parted_at s m (more u l) = Ok (Some (member_at s m (length s - length l)))
parted_at s m (done u l) = Ok (Some (member_at s m (length s - length l)))
parted_at s m fail = refused (Option MemberAt)

unfoldable pub read_at : List ℕ → Parsed Member → Result (Option MemberAt) NotADictionary
read_at s (parsed m l) = parted_at s m (parted_by l)
read_at s malformed = refused (Option MemberAt)

-- what is read at a cursor: leading spaces (4.2), and the end or a member
unfoldable pub next_at : List ℕ → ℕ → Result (Option MemberAt) NotADictionary
next_at s c = skip is_space (drop c s) (λ l. pick (is_empty l) (Ok None) (read_at s (member_of l)))

-- the next cursor, as a bound from below and from above
abbrev pub low_member : Result (Option MemberAt) NotADictionary → ℕ
low_member (Ok (Some m)) = m.next
low_member (Ok None) = 2 ^ 64
low_member (Err e) = 2 ^ 64

abbrev pub high_member : Result (Option MemberAt) NotADictionary → ℕ
high_member (Ok (Some m)) = m.next
high_member (Ok None) = 0
high_member (Err e) = 0

-- the answer says the members from the cursor on, and is what is read there; the next cursor lies past it, and within the text
pub record IsNext (s : List ℕ) (c : ℕ) (r : Result (Option MemberAt) NotADictionary) : Type 0 where
  pub says : next_in s r ≡ members_from s c
  pub is : r ≡ next_at s c
  pub past : c < low_member r
  pub upto : high_member r ≤ length s

-- a fold over members, if the text is a dictionary
unfoldable pub fold_members : {A B : Type 0} → (B → A → B) → B → Option (List A) → Option B
fold_members k b (Some ms) = Some (into k b ms)
fold_members k b None = None
