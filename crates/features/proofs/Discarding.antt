-- Laws of the names that are left to compare: at most one is, and a discarded one is never the word. Assumes nothing.
use Rattle.std.specs.Prelude.{Option}
use mathlib.Core.Path.{◌≡◌, refl, sym}
use mathlib.Core.Logic.{⊎_elim}
use mathlib.Core.Bool.{Bool, true, false, not, ◌&&◌}
use mathlib.Core.List.{List, [], ◌∷◌}
use Prim.Native.Nat.{ℕ, zero, suc, ◌+◌, ◌<◌, ◌≤◌, suc-le-suc}
use native.Mathlib.Nat.{zero-add, add-zero, add-suc, suc-add, le_of_suc-le-suc, zero-lt-suc, not-suc-le-zero}
use native.Mathlib.Omega.{arith}
use lib.Dec.{eqb}
use lib.ListN.{length, get_or}
use borrow.Author.Tests.{eqb-true, eq-eqb}
use Rattle.ascii.proofs.Clash.{clash}
use Rattle.ascii.proofs.Bytes.{and_left, and_right, or-on, or_cases, or-false}
use Rattle.ascii.proofs.Texts.{every-at}
use Rattle.ascii.specs.Bytes.{pick}
use Rattle.ascii.specs.Texts.{every}
use Rattle.features.specs.Features.{features, feature_count, names, name_of}
use Rattle.features.specs.Discarding.{third_of, agree, left_from, left_to_compare, is_among}
use Rattle.features.specs.Answers.{left_in}
use Rattle.features.proofs.Rules.{At, at_head, at_tail}
use Rattle.features.proofs.Laws.{count}

-- what it is to agree
module _ (a b : List ℕ) where
  pub agree-length : agree a b ≡ true → length a ≡ length b
  unfolding agree
  agree-length e = eqb-true (length a) (length b) (and_left (eqb (length a) (length b)) (eqb (third_of a) (third_of b)) e)

  pub agree-third : agree a b ≡ true → third_of a ≡ third_of b
  unfolding agree
  agree-third e = eqb-true (third_of a) (third_of b) (and_right (eqb (length a) (length b)) (eqb (third_of a) (third_of b)) e)

  pub agreeing : length a ≡ length b → third_of a ≡ third_of b → agree a b ≡ true
  unfolding agree
  agreeing e f = rw (eq-eqb (length a) (length b) e, eq-eqb (third_of a) (third_of b) f)

-- two that agree with one word agree with each other
agree-both : (word a b : List ℕ) → agree word a ≡ true → agree word b ≡ true → agree a b ≡ true
agree-both word a b e f = agreeing a b (cc (agree-length word a e, agree-length word b f)) (cc (agree-third word a e, agree-third word b f))

-- where no name agrees, none is left
none_from : (xs : List (List ℕ)) (k : ℕ) (word : List ℕ) → ((i : ℕ) → i < length xs → agree word (get_or xs i []) ≡ true → ⊥) → left_from k word xs ≡ []
unfolding left_from pick
none_from [] k word h = refl
none_from (x ∷ xs) k word h = go (agree word x) refl (none_from xs (suc k) word (λ i l. h (suc i) (suc-le-suc l)))
  where
    go : (b : Bool) → agree word x ≡ b → left_from (suc k) word xs ≡ [] → pick b (k ∷ left_from (suc k) word xs) (left_from (suc k) word xs) ≡ []
    go true t e = absurd (h zero (zero-lt-suc (length xs)) t)
    go false t e = e

-- no two of a list agree
unfoldable apart : List (List ℕ) → Bool
apart [] = true
apart (x ∷ xs) = every (λ y. not (agree x y)) xs && apart xs

-- of the seventeen no two do
names_apart : apart names ≡ true
unfolding features names apart every agree
names_apart = refl

-- so at most one is left
one_from : (xs : List (List ℕ)) (k : ℕ) (word : List ℕ) → apart xs ≡ true → length (left_from k word xs) ≤ 1
unfolding left_from apart pick
one_from [] k word e = omega arith
one_from (x ∷ xs) k word e = go (agree word x) refl (one_from xs (suc k) word (and_right (every (λ y. not (agree x y)) xs) (apart xs) e))
  where
    go : (b : Bool) → agree word x ≡ b → length (left_from (suc k) word xs) ≤ 1 → length (pick b (k ∷ left_from (suc k) word xs) (left_from (suc k) word xs)) ≤ 1
    go true t h = rw (none_from xs (suc k) word (λ i l f. clash (cc (agree-both word x (get_or xs i []) t f, every-at (λ y. not (agree x y)) [] xs i (and_left (every (λ y. not (agree x y)) xs) (apart xs) e) l)))) (omega arith)
    go false t h = h

-- a name that agrees is left
among-from : (xs : List (List ℕ)) (k i : ℕ) (word : List ℕ) → i < length xs → agree word (get_or xs i []) ≡ true → is_among (k + i) (left_from k word xs) ≡ true
unfolding left_from is_among pick
among-from [] k i word l e = absurd (not-suc-le-zero l)
among-from (x ∷ xs) k zero word l e = rw (e, eq-eqb (k + zero) k (add-zero k))
among-from (x ∷ xs) k (suc i) word l e = rw (add-suc k i) (go (agree word x) (rw (suc-add k i) at (among-from xs (suc k) i word (le_of_suc-le-suc l) e)))
  where
    go : (b : Bool) → is_among (suc (k + i)) (left_from (suc k) word xs) ≡ true → is_among (suc (k + i)) (pick b (k ∷ left_from (suc k) word xs) (left_from (suc k) word xs)) ≡ true
    go true h = or-on (eqb (suc (k + i)) k) (is_among (suc (k + i)) (left_from (suc k) word xs)) h
    go false h = h

-- and what is left agrees
left-at : (xs : List (List ℕ)) (k n : ℕ) (word : List ℕ) → is_among n (left_from k word xs) ≡ true → At (λ x. agree word x ≡ true) xs k n
unfolding left_from is_among pick
left-at [] k n word e = clash cc
left-at (x ∷ xs) k n word e = go (agree word x) refl e (λ f. left-at xs (suc k) n word f)
  where
    go : (b : Bool) → agree word x ≡ b → is_among n (pick b (k ∷ left_from (suc k) word xs) (left_from (suc k) word xs)) ≡ true → (is_among n (left_from (suc k) word xs) ≡ true → At (λ x. agree word x ≡ true) xs (suc k) n) → At (λ x. agree word x ≡ true) (x ∷ xs) k n
    go true t e ih =
        ⊎_elim
        (λ u. at_head (λ x. agree word x ≡ true) x xs k n (eqb-true n k u) t)
        (λ u. at_tail (λ x. agree word x ≡ true) x xs k n (ih u))
        (or_cases (eqb n k) (is_among n (left_from (suc k) word xs)) e)
    go false t e ih = at_tail (λ x. agree word x ≡ true) x xs k n (ih e)

-- R-2: "by length and one byte alone": words of one length and one third byte are left the same names
same_from : (xs : List (List ℕ)) (k : ℕ) (a b : List ℕ) → length a ≡ length b → third_of a ≡ third_of b → left_from k a xs ≡ left_from k b xs
unfolding left_from agree
same_from [] k a b e f = refl
same_from (x ∷ xs) k a b e f = rw (e, f, same_from xs (suc k) a b e f)

pub by-length-and-third : (a b : List ℕ) → length a ≡ length b → third_of a ≡ third_of b → left_to_compare a ≡ left_to_compare b
unfolding left_to_compare
by-length-and-third a b e f = same_from names 0 a b e f

module _ (word : List ℕ) where
  -- R-2: "for any word at most two of the seventeen may be left to compare": at most one is
  pub at_most_one : length (left_to_compare word) ≤ 1
  unfolding left_to_compare
  at_most_one = one_from names 0 word names_apart

  pub at_most_two : length (left_to_compare word) ≤ 2
  at_most_two = omega (arith, at_most_one)

  pub is-left : (n : ℕ) → n < feature_count → agree word (name_of n) ≡ true → is_among n (left_to_compare word) ≡ true
  unfolding left_to_compare name_of
  is-left n l e = rw zero-add at (among-from names 0 n word (omega (arith, count)) e)

  -- R-2: "one discarded never equals the word"
  pub discarded-differs : (n : ℕ) → n < feature_count → is_among n (left_to_compare word) ≡ false → word ≡ name_of n → ⊥
  discarded-differs n l e w = clash (cc (is-left n l (rw w (agreeing (name_of n) (name_of n) refl refl))))

  -- a name that is left is a feature's, and agrees
  pub left_below : (n : ℕ) → is_among n (left_to_compare word) ≡ true → n < feature_count
  unfolding left_to_compare
  left_below n e = let s : At (λ x. agree word x ≡ true) names 0 n = left-at names 0 n word e in omega (arith, count)

  pub left-agrees : (n : ℕ) → is_among n (left_to_compare word) ≡ true → agree word (name_of n) ≡ true
  unfolding left_to_compare name_of
  left-agrees n e = let s : At (λ x. agree word x ≡ true) names 0 n = left-at names 0 n word e in let u : s.place ≡ n = omega arith in rw u at s.holds

  -- where no name agrees, and where one does
  pub none_left : ((n : ℕ) → n < feature_count → agree word (name_of n) ≡ true → ⊥) → [] ≡ left_to_compare word
  unfolding left_to_compare name_of
  none_left h = sym (none_from names 0 word (λ i l. h i (omega (arith, count))))

  pub one_left : (n : ℕ) → n < feature_count → agree word (name_of n) ≡ true → n ∷ [] ≡ left_to_compare word
  unfolding is_among
  one_left n l e = go (left_to_compare word) at_most_one (is-left n l e)
    where
      go : (s : List ℕ) → length s ≤ 1 → is_among n s ≡ true → n ∷ [] ≡ s
      go [] h f = clash cc
      go (x ∷ []) h f = rw (eqb-true n x (rw (or-false (eqb n x)) at f))
      go (x ∷ y ∷ s) h f = absurd (not-suc-le-zero (le_of_suc-le-suc h))

-- R-2's two statements of the answer of `left_to_compare`. The type `(Option ℕ)` allows one number at most; that no second name agrees is `at_most_one`.
module _ (word : List ℕ) (r : Option ℕ) (is : left_in r ≡ left_to_compare word) where
  pub answer-at-most-one : length (left_in r) ≤ 1
  answer-at-most-one = rw is (at_most_one word)

  pub answer-discarded-differs : (n : ℕ) → n < feature_count → is_among n (left_in r) ≡ false → word ≡ name_of n → ⊥
  answer-discarded-differs n l e = discarded-differs word n l (rw is at e)
