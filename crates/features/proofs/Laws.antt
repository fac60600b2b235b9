-- Laws of the features for the crates above. Assumes nothing.
use Rattle.std.specs.Prelude.{Option}
use mathlib.Core.Path.{◌≡◌, refl}
use mathlib.Core.Bool.{Bool, true, false}
use mathlib.Core.List.{List, []}
use Rattle.std.specs.Prelude.{Some, None}
use Prim.Native.Nat.{ℕ, ◌<◌, ◌≤◌}
use native.Mathlib.Nat.{zero-add, not-suc-le-zero}
use native.Mathlib.Omega.{arith}
use lib.ListN.{length, get_or, get_or-eq_default}
use lib.Dec.{leb, ltb}
use borrow.Author.Tests.{leb-true, ltb-true, ltb-false}
use Rattle.ascii.proofs.Clash.{clash}
use Rattle.ascii.specs.Bytes.{pick, is_key_start, is_key_byte}
use Rattle.ascii.specs.Reading.{head_of, head_is}
use Rattle.ascii.specs.Texts.{every, same_by, same_bytes}
use Rattle.ascii.proofs.Texts.{every-at, bytes_same}
use Rattle.ascii.proofs.Bytes.{and_left, and_right}
use Rattle.features.specs.Features.{Default, features, feature_count, row_default, names, name_of, default_of, place_from, feature_of, precedes, ascending, is_key}
use Rattle.features.specs.Answers.{name_bytes, number_in}
use Rattle.features.proofs.Rules.{no_row, rows, ascending-at, found_at, At, stands, map-some, map-none}

-- there are seventeen
pub count : length names ≡ feature_count
unfolding features names
count = refl

-- the names ascend
pub names-ascend : ascending names ≡ true
unfolding features names ascending every precedes pick
names-ascend = refl

-- a feature's name stands before that of each later one
pub name-order : (i j : ℕ) → i < j → j < feature_count → precedes (name_of i) (name_of j) ≡ true
unfolding name_of
name-order i j h g = ascending-at names i j names-ascend h (omega (arith, count))

-- a feature is found by its name
pub found : (n : ℕ) → n < feature_count → feature_of (name_of n) ≡ Some n
unfolding name_of feature_of
found n h = rw zero-add at (found_at names 0 n names-ascend (omega (arith, count)))

-- two features have two names
pub distinct : (i j : ℕ) → i < feature_count → j < feature_count → name_of i ≡ name_of j → i ≡ j
distinct i j h g e = let a : feature_of (name_of i) ≡ Some i = found i h in let b : feature_of (name_of j) ≡ Some j = found j g in cc

-- compared byte for byte, they differ
pub other_name : (i j : ℕ) → i < feature_count → j < feature_count → (i ≡ j → ⊥) → same_bytes (name_of i) (name_of j) ≡ false
other_name i j h g d = go (same_bytes (name_of i) (name_of j)) refl
  where
    go : (b : Bool) → same_bytes (name_of i) (name_of j) ≡ b → b ≡ false
    go true t = absurd (d (distinct i j h g (bytes_same (name_of i) (name_of j) t)))
    go false t = refl

-- what is found has that name, and is one of the seventeen
pub found_name : (word : List ℕ) (n : ℕ) → feature_of word ≡ Some n → word ≡ name_of n
unfolding name_of feature_of
found_name word n e = let s : At (λ x. word ≡ x) names 0 n = stands names 0 n word e in let u : s.place ≡ n = omega arith in rw u at s.holds

pub found_below : (word : List ℕ) (n : ℕ) → feature_of word ≡ Some n → n < feature_count
unfolding feature_of
found_below word n e = let s : At (λ x. word ≡ x) names 0 n = stands names 0 n word e in omega (arith, count)

-- an unknown word is no feature's name
pub unknown : (word : List ℕ) (n : ℕ) → feature_of word ≡ None → n < feature_count → word ≡ name_of n → ⊥
unknown word n e h w = let a : feature_of (name_of n) ≡ Some n = found n h in clash cc

-- a number over 16 has no name and no default list
pub name-none : (n : ℕ) → feature_count ≤ n → name_of n ≡ []
unfolding name_of
name-none n h = get_or-eq_default names [] (omega (arith, count))

pub default_none : (n : ℕ) → feature_count ≤ n → default_of n ≡ None
unfolding default_of
default_none n h = map-none row_default features n (omega (arith, rows))

-- every feature has a default list
pub default-some : (n : ℕ) → n < feature_count → (d : Default) × (default_of n ≡ Some d)
unfolding default_of
default-some n h = (row_default (get_or features n no_row), map-some row_default no_row features n (omega (arith, rows)))

-- every name has a third byte
pub names-three : every (λ s. leb 3 (length s)) names ≡ true
unfolding features names every
names-three = refl

pub name-three : (n : ℕ) → n < feature_count → 3 ≤ length (name_of n)
unfolding name_of
name-three n h = leb-true 3 (length (name_of n)) (every-at (λ s. leb 3 (length s)) [] names n names-three (omega (arith, count)))

-- only a feature's number has a name that isn't empty
pub named-below : (n : ℕ) → 0 < length (name_of n) → n < feature_count
named-below n h = go (ltb n feature_count) refl
  where
    go : (b : Bool) → ltb n feature_count ≡ b → n < feature_count
    go true t = ltb-true n feature_count t
    go false t = absurd (not-suc-le-zero (rw (name-none n (ltb-false n feature_count t)) at h))

-- a name has at most 33 bytes
pub names-short : every (λ s. leb (length s) name_bytes) names ≡ true
unfolding features names every
names-short = refl

short : (n : ℕ) → n < feature_count → length (name_of n) ≤ name_bytes
unfolding name_of
short n h = leb-true (length (name_of n)) name_bytes (every-at (λ s. leb (length s) name_bytes) [] names n names-short (omega (arith, count)))

pub name-short : (n : ℕ) → length (name_of n) ≤ name_bytes
name-short n = go (ltb n feature_count) refl
  where
    go : (b : Bool) → ltb n feature_count ≡ b → length (name_of n) ≤ name_bytes
    go true t = short n (ltb-true n feature_count t)
    go false t = rw (name-none n (ltb-false n feature_count t)) (omega arith)

pub named-short : (n : ℕ) (s : List ℕ) → s ≡ name_of n → length s ≤ name_bytes
named-short n s e = rw e (name-short n)

pub ruleset name_lengths = (name-short, named-short)

-- a name is an RFC 8941 key
pub names-keys : every is_key names ≡ true
unfolding features names every is_key head_is head_of
names-keys = refl

pub name-key : (n : ℕ) → n < feature_count → is_key (name_of n) ≡ true
unfolding name_of
name-key n h = every-at is_key [] names n names-keys (omega (arith, count))

-- it begins with a key start
pub name-starts : (n : ℕ) → n < feature_count → head_is is_key_start (name_of n) ≡ true
unfolding is_key
name-starts n h = and_left (head_is is_key_start (name_of n)) (every is_key_byte (name_of n)) (name-key n h)

-- and has key bytes alone
pub name-bytes : (n : ℕ) → n < feature_count → every is_key_byte (name_of n) ≡ true
unfolding is_key
name-bytes n h = and_right (head_is is_key_start (name_of n)) (every is_key_byte (name_of n)) (name-key n h)

-- an empty word is no name
pub no-feature : feature_of [] ≡ None
unfolding feature_of place_from features names same_by pick
no-feature = refl

-- the number that a lookup answers, as omega reads it
pub number-known : (r : Option ℕ) (n : ℕ) → r ≡ Some n → number_in r ≡ n
number-known r n e = rw e

pub ruleset numbers = (arith, number-known)
