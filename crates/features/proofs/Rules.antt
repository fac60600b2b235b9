-- From what is computed over the whole list to the rule at each entry. Assumes nothing.
use mathlib.Core.Path.{◌≡◌, refl}
use mathlib.Core.Bool.{Bool, true, false}
use mathlib.Core.List.{List, [], ◌∷◌, map}
use Rattle.std.specs.Prelude.{slice_get, Some, None}
use Prim.Native.Nat.{ℕ, zero, suc, ◌+◌, ◌<◌, ◌≤◌}
use native.Mathlib.Nat.{add-zero, add-suc, suc-add, le_of_suc-le-suc, not-suc-le-zero}
use native.Mathlib.Omega.{arith}
use lib.ListN.{length, get_or}
use borrow.Author.Tests.{eq-eqb}
use Rattle.ascii.proofs.Clash.{clash}
use Rattle.ascii.specs.Bytes.{pick}
use Rattle.ascii.specs.Texts.{every, same_bytes}
use Rattle.ascii.proofs.Texts.{every-at, bytes_same, same-bytes}
use Rattle.ascii.proofs.Bytes.{and_left, and_right}
use Rattle.features.specs.Features.{Row, features, feature_count, precedes, ascending, place_from}
use Rattle.features.specs.Features.Default.{self}
use Rattle.features.specs.Features.Row.{feature}

-- in an ascending list each stands before each later one
pub ascending-at : (xs : List (List ℕ)) (i j : ℕ) → ascending xs ≡ true → i < j → j < length xs → precedes (get_or xs i []) (get_or xs j []) ≡ true
unfolding ascending
ascending-at [] i j e h g = absurd (not-suc-le-zero g)
ascending-at (x ∷ xs) i zero e h g = absurd (not-suc-le-zero h)
ascending-at (x ∷ xs) zero (suc j) e h g = every-at (precedes x) [] xs j (and_left (every (precedes x) xs) (ascending xs) e) (le_of_suc-le-suc g)
ascending-at (x ∷ xs) (suc i) (suc j) e h g = ascending-at xs i j (and_right (every (precedes x) xs) (ascending xs) e) (le_of_suc-le-suc h) (le_of_suc-le-suc g)

-- no text stands before itself
pub not-precedes : (x : List ℕ) → precedes x x ≡ false
unfolding precedes pick
not-precedes [] = refl
not-precedes (x ∷ xs) = rw (eq-eqb x x refl) (not-precedes xs)

-- in an ascending list each is found at its place
pub found_at : (xs : List (List ℕ)) (k i : ℕ) → ascending xs ≡ true → i < length xs → place_from k (get_or xs i []) xs ≡ Some (k + i)
unfolding ascending place_from pick
found_at [] k i e h = absurd (not-suc-le-zero h)
found_at (x ∷ xs) k zero e h = rw (same-bytes x, add-zero k)
found_at (x ∷ xs) k (suc i) e h =
    go (same_bytes (get_or xs i []) x) refl
    (every-at (precedes x) [] xs i (and_left (every (precedes x) xs) (ascending xs) e) (le_of_suc-le-suc h))
    (found_at xs (suc k) i (and_right (every (precedes x) xs) (ascending xs) e) (le_of_suc-le-suc h))
  where
    go : (b : Bool) → same_bytes (get_or xs i []) x ≡ b → precedes x (get_or xs i []) ≡ true → place_from (suc k) (get_or xs i []) xs ≡ Some (suc k + i) → pick b (Some k) (place_from (suc k) (get_or xs i []) xs) ≡ Some (k + suc i)
    go true t later rest = absurd (let u : get_or xs i [] ≡ x = bytes_same (get_or xs i []) x t in clash (cc (not-precedes x)))
    go false t later rest = rw (add-suc k i, ← suc-add k i) rest

-- at a place of a list, counted from a number, stands one of which something holds
pub record At (P : List ℕ → Type 0) (xs : List (List ℕ)) (k n : ℕ) : Type 0 where
  pub place : ℕ
  pub sum : n ≡ k + place
  pub below : place < length xs
  pub holds : P (get_or xs place [])

pub at_head : (P : List ℕ → Type 0) (x : List ℕ) (xs : List (List ℕ)) (k n : ℕ) → n ≡ k → P x → At P (x ∷ xs) k n
at_head P x xs k n e p = record { place = 0; sum = omega arith; below = omega arith; holds = p }

pub at_tail : (P : List ℕ → Type 0) (x : List ℕ) (xs : List (List ℕ)) (k n : ℕ) → At P xs (suc k) n → At P (x ∷ xs) k n
at_tail P x xs k n s = record { place = suc s.place; sum = omega arith; below = omega arith; holds = s.holds }

-- what is found at a place stands there
pub stands : (xs : List (List ℕ)) (k n : ℕ) (word : List ℕ) → place_from k word xs ≡ Some n → At (λ x. word ≡ x) xs k n
unfolding place_from pick
stands [] k n word e = clash cc
stands (x ∷ xs) k n word e = go (same_bytes word x) refl e (λ h. stands xs (suc k) n word h)
  where
    go : (b : Bool) → same_bytes word x ≡ b → pick b (Some k) (place_from (suc k) word xs) ≡ Some n → (place_from (suc k) word xs ≡ Some n → At (λ x. word ≡ x) xs (suc k) n) → At (λ x. word ≡ x) (x ∷ xs) k n
    go true t h ih = let u : n ≡ k = cc in at_head (λ x. word ≡ x) x xs k n u (bytes_same word x t)
    go false t h ih = at_tail (λ x. word ≡ x) x xs k n (ih h)

-- the rows of the features
abbrev pub no_row : Row
no_row = feature [] self

pub rows : length features ≡ feature_count
unfolding features
rows = refl

-- what a row of a list is mapped to
pub map_at : {A B : Type 0} (f : A → B) (a : A) (b : B) (xs : List A) (k : ℕ) → k < length xs → get_or (map f xs) k b ≡ f (get_or xs k a)
map_at f a b [] k h = absurd (not-suc-le-zero h)
map_at f a b (x ∷ xs) zero h = refl
map_at f a b (x ∷ xs) (suc k) h = map_at f a b xs k (le_of_suc-le-suc h)

pub map-some : {A B : Type 0} (f : A → B) (a : A) (xs : List A) (k : ℕ) → k < length xs → slice_get (map f xs) k ≡ Some (f (get_or xs k a))
map-some f a [] k h = absurd (not-suc-le-zero h)
map-some f a (x ∷ xs) zero h = refl
map-some f a (x ∷ xs) (suc k) h = map-some f a xs k (le_of_suc-le-suc h)

pub map-none : {A B : Type 0} (f : A → B) (xs : List A) (k : ℕ) → length xs ≤ k → slice_get (map f xs) k ≡ None
map-none f [] k h = refl
map-none f (x ∷ xs) zero h = absurd (not-suc-le-zero h)
map-none f (x ∷ xs) (suc k) h = map-none f xs k (le_of_suc-le-suc h)
