-- Which name is left to compare with a word, and whether it is the word, as the code finds both. Assumes nothing.
use mathlib.Core.Path.{◌≡◌, refl, sym, ◌∙◌}
use mathlib.Core.Bool.{Bool, true, false, ◌&&◌, ◌||◌}
use mathlib.Core.List.{List, [], ◌∷◌}
use Rattle.std.specs.Prelude.{Option, Some, None}
use Prim.Native.Nat.{ℕ, ◌<◌, ◌≤◌}
use native.Mathlib.Omega.{arith}
use lib.Dec.{eqb, leb, ltb}
use lib.ListN.{length, get_or, get_or-eq_default}
use borrow.Author.Tests.{eqb-true, eq-eqb, ltb-true, ltb-false, lt-leb}
use Rattle.ascii.proofs.Bytes.{and_left, and_right, or-false}
use Rattle.ascii.proofs.Clash.{clash}
use Rattle.ascii.proofs.Texts.{every-at, bytes_same, same-bytes}
use Rattle.ascii.specs.Literals.{text}
use Rattle.ascii.specs.Texts.{every, same_bytes}
use Rattle.features.specs.Features.{feature_count, names, name_of, feature_of}
use Rattle.features.specs.Discarding.{third_of, left_to_compare, is_among}
use Rattle.features.specs.Packing.{front_of, back_of}
use Rattle.features.specs.Computing.{computing}
use Rattle.features.specs.Answers.{IsLookup, IsPacked, OnlyNumber}
use Rattle.features.specs.declared.Packed.{Packed}
use Rattle.features.proofs.Laws.{count, found, found_name, found_below, named-below, name-three}
use Rattle.features.proofs.Packing.{Bytes, packed-same}
use Rattle.features.proofs.Discarding.{agree-length, agree-third, agreeing, discarded-differs, left_below, left-agrees, none_left, one_left}

-- which name is left: none for a short word, else the only one that may agree, if it does
module _ (word : List ℕ) where
  pub left-short : length word < 3 → [] ≡ left_to_compare word
  left-short h = none_left word (λ n l e. omega (arith, name-three n l, agree-length word (name_of n) e))

  module _ (n : ℕ) (name : Packed) (is : IsPacked n name) (only : OnlyNumber (length word) (third_of word) n) (least : 3 ≤ length word) where
    pub left-hit : eqb name.len (length word) && eqb name.third (third_of word) ≡ true → n ∷ [] ≡ left_to_compare word
    left-hit e =
        let len : name.len ≡ length word = eqb-true name.len (length word) (and_left (eqb name.len (length word)) (eqb name.third (third_of word)) e) in
        let third : name.third ≡ third_of word = eqb-true name.third (third_of word) (and_right (eqb name.len (length word)) (eqb name.third (third_of word)) e) in
        one_left word n (named-below n (omega (arith, is.len))) (agreeing word (name_of n) (cc is.len) (cc is.third))

    pub left-miss : eqb name.len (length word) && eqb name.third (third_of word) ≡ false → [] ≡ left_to_compare word
    left-miss e =
        none_left word
        (λ m l f.
        let len : length word ≡ length (name_of m) = agree-length word (name_of m) f in
        let third : third_of word ≡ third_of (name_of m) = agree-third word (name_of m) f in
        let u : m ≡ n = only.only m l (sym len) (sym third) in
        let a : eqb name.len (length word) ≡ true = eq-eqb name.len (length word) (cc is.len) in
        let b : eqb name.third (third_of word) ≡ true = eq-eqb name.third (third_of word) (cc is.third) in
        clash cc)

-- the one name that is shorter than 4 bytes, and the one that is longer than 16
abbrev pub shortest_name : List ℕ
shortest_name = text "usb"

abbrev pub longest_name : List ℕ
longest_name = text "downloads-without-user-activation"

shortest : every (λ s. leb 4 (length s) || same_bytes s shortest_name) names ≡ true
unfolding computing
shortest = refl

longest : every (λ s. leb (length s) 16 || same_bytes s longest_name) names ≡ true
unfolding computing
longest = refl

all_but : (p : List ℕ → Bool) (t : List ℕ) → every (λ s. p s || same_bytes s t) names ≡ true → (n : ℕ) → n < feature_count → p (name_of n) ≡ false → name_of n ≡ t
unfolding name_of
all_but p t e n h f = bytes_same (name_of n) t (rw f at (every-at (λ s. p s || same_bytes s t) [] names n e (omega (arith, count))))

-- every element of a name is below 256
names-octets : every (every (λ b. ltb b 256)) names ≡ true
unfolding computing
names-octets = refl

name-octets : (n : ℕ) → n < feature_count → Bytes (name_of n)
unfolding name_of
name-octets n h i = go (ltb i (length (name_of n))) refl
  where
    go : (b : Bool) → ltb i (length (name_of n)) ≡ b → get_or (name_of n) i 0 < 256
    go true t =
        ltb-true (get_or (name_of n) i 0) 256
        (every-at (λ b. ltb b 256) 0 (name_of n) i (every-at (every (λ b. ltb b 256)) [] names n names-octets (omega (arith, count))) (ltb-true i (length (name_of n)) t))
    go false t = rw (get_or-eq_default (name_of n) 0 (ltb-false i (length (name_of n)) t)) (omega arith)

-- what is answered where one name is left, and where none is
unknown-is : (word : List ℕ) → ((n : ℕ) → n < feature_count → word ≡ name_of n → ⊥) → IsLookup word None
unknown-is word h = record { is = go (feature_of word) refl; below = omega arith }
  where
    go : (r : Option ℕ) → feature_of word ≡ r → None ≡ r
    go (Some n) e = absurd (h n (found_below word n e) (found_name word n e))
    go None e = refl

module _ (word : List ℕ) (n : ℕ) (left : n ∷ [] ≡ left_to_compare word) where
  among : (m : ℕ) → eqb m n ≡ is_among m (left_to_compare word)
  unfolding is_among
  among m = rw (← left) (sym (or-false (eqb m n)))

  one_below : n < feature_count
  one_below = left_below word n (sym (among n) ∙ eq-eqb n n refl)

  one-length : length word ≡ length (name_of n)
  one-length = agree-length word (name_of n) (left-agrees word n (sym (among n) ∙ eq-eqb n n refl))

  pub under-four : length word < 4 → name_of n ≡ shortest_name
  under-four h = all_but (λ s. leb 4 (length s)) shortest_name shortest n one_below (lt-leb 4 (length (name_of n)) (rw one-length at h))

  pub over_sixteen : 16 < length word → name_of n ≡ longest_name
  over_sixteen h = all_but (λ s. leb (length s) 16) longest_name longest n one_below (lt-leb (length (name_of n)) 16 (rw one-length at h))

  module _ (t : List ℕ) (is : name_of n ≡ t) where
    pub text-test : (r : Bool) → r ≡ same_bytes word t → r ≡ same_bytes word (name_of n)
    text-test r e = rw is e

  -- a word of 4 to 16 bytes is the name exactly if its two numbers are the name's
  pub packed-test : (name : Packed) (f b : ℕ) → IsPacked n name → Bytes word → 4 ≤ length word → length word ≤ 16 → f ≡ front_of word → b ≡ back_of word → eqb f name.front && eqb b name.back ≡ same_bytes word (name_of n)
  packed-test name f b is bytes from to d e = rw (d, e) (go (eqb (front_of word) name.front && eqb (back_of word) name.back) (same_bytes word (name_of n)) refl refl)
    where
      go : (x y : Bool) → eqb (front_of word) name.front && eqb (back_of word) name.back ≡ x → same_bytes word (name_of n) ≡ y → x ≡ y
      go true true e f = refl
      go false false e f = refl
      go true false e f =
          let front : front_of word ≡ name.front = eqb-true _ _ (and_left (eqb (front_of word) name.front) (eqb (back_of word) name.back) e) in
          let back : back_of word ≡ name.back = eqb-true _ _ (and_right (eqb (front_of word) name.front) (eqb (back_of word) name.back) e) in
          let u : word ≡ name_of n = packed-same word (name_of n) bytes (name-octets n one_below) one-length from to (front ∙ is.front) (back ∙ is.back) in
          sym (same-bytes (name_of n)) ∙ (rw u at f)
      go false true e f =
          let u : word ≡ name_of n = bytes_same word (name_of n) f in
          let x : eqb (front_of word) name.front ≡ true = eq-eqb (front_of word) name.front (rw (u, is.front)) in
          let y : eqb (back_of word) name.back ≡ true = eq-eqb (back_of word) name.back (rw (u, is.back)) in
          clash cc

  -- the lookup's answers
  pub known_is : (b : Bool) → b ≡ same_bytes word (name_of n) → b ≡ true → IsLookup word (Some n)
  known_is b e t = record { is = rw (bytes_same word (name_of n) (sym e ∙ t)) (sym (found n one_below)); below = one_below }

  pub other-is : (b : Bool) → b ≡ same_bytes word (name_of n) → b ≡ false → IsLookup word None
  other-is b e t = unknown-is word (λ m l u. go (eqb m n) m refl l u)
    where
      go : (x : Bool) (m : ℕ) → eqb m n ≡ x → m < feature_count → word ≡ name_of m → ⊥
      go true m x l u =
          let v : m ≡ n = eqb-true m n x in
          let w : word ≡ name_of n = rw v at u in
          let y : same_bytes (name_of n) (name_of n) ≡ true = same-bytes (name_of n) in
          clash cc
      go false m x l u = discarded-differs word m l (sym (among m) ∙ x) u

pub none_is : (word : List ℕ) → [] ≡ left_to_compare word → IsLookup word None
unfolding is_among
none_is word e = unknown-is word (λ n l u. discarded-differs word n l (rw (← e)) u)

-- the lookup's three answers, what is left to compare, and the compared names
pub ruleset lookups = (known_is, other-is, none_is)

pub ruleset left = (left-short, left-hit, left-miss)
