-- What the code's answers say, in the terms of documents 01 and 02.
use Rattle.std.specs.Prelude.{ℕ, ◌<◌, ◌≡◌, List, [], ◌∷◌, length}
use Rattle.std.specs.Prelude.{Option, Some, None}
use Rattle.features.specs.Features.{Default, feature_count, name_of, feature_of}
use Rattle.features.specs.Features.Default.{star, self}
use Rattle.features.specs.Discarding.{third_of}
use Rattle.features.specs.Packing.{front_of, back_of}
use Rattle.features.specs.declared.DefaultAllowlist.{DefaultAllowlist}
use Rattle.features.specs.declared.DefaultAllowlist.TheVariants as list
use Rattle.features.specs.declared.Packed.{Packed}

-- the longest name has 33 bytes
abbrev pub name_bytes : ℕ
name_bytes = 33

-- the default list that is answered; none for a "number over 16"
abbrev pub default_in : Option DefaultAllowlist → Option Default
default_in (Some list.All) = Some star
default_in (Some list.SelfOnly) = Some self
default_in None = None

-- the number that is answered, as a bound
abbrev pub number_in : Option ℕ → ℕ
number_in (Some n) = n
number_in None = 0

-- the answer is the definition's, and its number is a feature's
pub record IsLookup (word : List ℕ) (r : Option ℕ) : Type 0 where
  pub is : r ≡ feature_of word
  pub below : number_in r < feature_count

-- the numbers of the names that are answered as left to compare
abbrev pub left_in : Option ℕ → List ℕ
left_in (Some n) = n ∷ []
left_in None = []

-- a name in numbers: those of a number over 16 are 0, as its name is empty
pub record IsPacked (n : ℕ) (r : Packed) : Type 0 where
  pub len : r.len ≡ length (name_of n)
  pub third : r.third ≡ third_of (name_of n)
  pub front : r.front ≡ front_of (name_of n)
  pub back : r.back ≡ back_of (name_of n)

-- no name but that of one number has this length and this third byte
pub record OnlyNumber (len third r : ℕ) : Type 0 where
  pub only : (n : ℕ) → n < feature_count → length (name_of n) ≡ len → third_of (name_of n) ≡ third → n ≡ r
