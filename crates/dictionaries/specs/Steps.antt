-- What the steps of a reading and of a lookup promise of one another.
use Rattle.std.specs.Prelude.{ℕ, ◌-◌, ◌≤◌, ◌<◌, ◌≡◌, List, length, drop}
use Rattle.std.specs.Prelude.{Option, Some, None, Result, Ok}
use Rattle.ascii.specs.Bytes.{pick}
use Rattle.ascii.specs.Texts.{same_bytes, part_in}
use Rattle.ascii.specs.Reading.{Parsed, Step}
use Rattle.ascii.specs.Reading.Parsed.{parsed, malformed}
use Rattle.ascii.specs.Reading.Step.{more, done, fail}
use Rattle.items.specs.Items.{params_of, item_of}
use Rattle.items.specs.declared.ItemFound.{ItemFound}
use Rattle.ascii.specs.Places.{rest_of, left_at, low, high}
use Rattle.dictionaries.specs.Dictionaries.{Value, Placed, Member, closed_of}
use Rattle.dictionaries.specs.Lookup.{range_at, placed_at, refused, pointed_at, low_next, high_next}
use Rattle.dictionaries.specs.Members.{member_at}
use Rattle.dictionaries.specs.declared.ValueRange.{ValueRange}
use Rattle.dictionaries.specs.declared.MemberValue.{MemberValue}
use Rattle.dictionaries.specs.declared.MemberAt.{MemberAt}
use Rattle.dictionaries.specs.declared.NotADictionary.{NotADictionary}

-- the answer is what is read at a place of an inner list, past spaces; the next cursor lies past it, and within the text
pub record IsInnerItem (s : List ℕ) (at : ℕ) (r : Option ItemFound) : Type 0 where
  pub is : r ≡ pointed_at s (drop at s) (item_of (drop at s))
  pub past : at < low_next r
  pub upto : high_next r ≤ length s

-- the place past a value and its parameters
abbrev pub value_end : Option MemberValue → Option ℕ
value_end (Some v) = Some v.params.to
value_end None = None

unfoldable pub value_found : List ℕ → Parsed Placed → Option MemberValue
value_found s (parsed p l) = Some (placed_at s p)
value_found s malformed = None

-- the answer is the reading's, does not end before its start, and lies within the text
pub record IsValue (s : List ℕ) (at : ℕ) (r : Option MemberValue) (want : Parsed Placed) : Type 0 where
  pub is : r ≡ value_found s want
  pub left : left_at s (value_end r) ≡ rest_of want
  pub from : at ≤ low (value_end r)
  pub upto : high (value_end r) ≤ length s

-- the answer is a value that stands where it is said, with the parameters that stand at a place
pub record IsClosed (s : List ℕ) (range : ValueRange) (at : ℕ) (r : Option MemberValue) : Type 0 where
  pub is : (v : Value) (l : List ℕ) → range ≡ range_at (length s - length l) v → r ≡ value_found s (closed_of v l (drop at s))
  pub left : left_at s (value_end r) ≡ rest_of (params_of (drop at s))
  pub from : at ≤ low (value_end r)
  pub upto : high (value_end r) ≤ length s

abbrev pub member_end : Option MemberAt → Option ℕ
member_end (Some m) = Some m.next
member_end None = None

unfoldable pub member_found : List ℕ → Parsed Member → Option MemberAt
member_found s (parsed m l) = Some (member_at s m (length s - length l))
member_found s malformed = None

-- the same of a member, which takes at least a byte
pub record IsMember (s : List ℕ) (at : ℕ) (r : Option MemberAt) (want : Parsed Member) : Type 0 where
  pub is : r ≡ member_found s want
  pub left : left_at s (member_end r) ≡ rest_of want
  pub past : at < low (member_end r)
  pub upto : high (member_end r) ≤ length s

-- what is left past what parts a member from the next
unfoldable pub parted_rest : Step (Unit {0}) → Option (List ℕ)
parted_rest (more u l) = Some l
parted_rest (done u l) = Some l
parted_rest fail = None

pub record IsParted (s : List ℕ) (at : ℕ) (r : Option ℕ) (want : Step (Unit {0})) : Type 0 where
  pub is : left_at s r ≡ parted_rest want
  pub from : at ≤ low r
  pub upto : high r ≤ length s

-- a member against the newest so far, with its places
abbrev pub newer_of : List ℕ → MemberAt → List ℕ → Option MemberValue → Option MemberValue
newer_of s m key best = pick (same_bytes (part_in s m.key) key) (Some m.value) best

-- the newest of two answers, as data
unfoldable pub newest : List ℕ → List ℕ → Option MemberValue → Member → Option MemberValue
newest s key b m = pick (same_bytes m.key key) (Some (placed_at s m.placed)) b

unfoldable pub answered : Option (Option MemberValue) → Result (Option MemberValue) NotADictionary
answered (Some r) = Ok r
answered None = refused (Option MemberValue)
