-- The laws of numbers and texts in lent bytes, for the crates above: what was put is read back, and a put elsewhere changes nothing. Assumes nothing.
use mathlib.Core.Path.{◌≡◌, refl, ap, ◌∙◌, sym}
use Prim.Native.Nat.{ℕ, zero, suc, ◌+◌, ◌-◌, ◌*◌, ◌/◌, ◌%◌, ◌^◌, ◌≤◌, ◌<◌}
use mathlib.Core.List.{List, [], ◌∷◌, ◌++◌, append_assoc, append-nil}
use native.Mathlib.Omega.{arith}
use lib.ListN.{length, get_or, drop, length-append}
use Rattle.writing.specs.Writing.{with_text}
use Rattle.writing.proofs.Places.{put-long, put-nothing, put-past, get-below, get-above, get-here, with_append}
use Rattle.lent_bytes.specs.Numbers.{word, number_at, bytes_of, numbers_in, number_bytes}
pub use Rattle.writing.proofs.Places.{put-long, put-nothing, put-past, get-below, get-above, get-here, part-here, part-below, part-above, part-put, mid-put, part-front, with_append}

pub bytes-long : (x : ℕ) → length (bytes_of x) ≡ 4
unfolding bytes_of
bytes-long x = refl

-- a number that was put is read back
pub number-here : (l : List ℕ) (at x : ℕ) → at + 4 ≤ length l → x < 2 ^ 32 → number_at (with_text l at (bytes_of x)) at ≡ x
unfolding number_at bytes_of
number-here l at x fits small =
    let t = x % 256 ∷ x / 256 % 256 ∷ x / 65536 % 256 ∷ x / 16777216 ∷ [] in
    let e : at + 0 ≡ at = omega arith in
    let a = rw e at (get-here t l at 0 fits (omega arith)) in
    rw (a, get-here t l at 1 fits (omega arith), get-here t l at 2 fits (omega arith), get-here t l at 3 fits (omega arith)) (omega arith)

-- a put elsewhere changes no number
module _ (l t : List ℕ) (at p : ℕ) where
  pub number-below : p + 4 ≤ at → number_at (with_text l at t) p ≡ number_at l p
  unfolding number_at
  number-below h = rw (get-below t l at p (omega arith), get-below t l at (p + 1) (omega arith), get-below t l at (p + 2) (omega arith), get-below t l at (p + 3) (omega arith)) refl

  pub number-above : at + length t ≤ p → number_at (with_text l at t) p ≡ number_at l p
  unfolding number_at
  number-above h = rw (get-above t l at p (omega arith), get-above t l at (p + 1) (omega arith), get-above t l at (p + 2) (omega arith), get-above t l at (p + 3) (omega arith)) refl

-- numbers one after the other
pub numbers_more : (x : ℕ) (l : List ℕ) → x < 2 ^ 32 → numbers_in (bytes_of x ++ l) ≡ x ∷ numbers_in l
unfolding numbers_in bytes_of
numbers_more x l small = ap (λ (n : ℕ). n ∷ numbers_in l) (let e : word (x % 256) (x / 256 % 256) + 65536 * word (x / 65536 % 256) (x / 16777216) ≡ x = omega arith in e)

pub numbers-none : numbers_in [] ≡ []
unfolding numbers_in
numbers-none = refl

-- as many as a quarter of the bytes
pub numbers-length : (k : ℕ) (l : List ℕ) → length l ≡ 4 * k → length (numbers_in l) ≡ k
unfolding numbers_in
numbers-length zero [] e = refl
numbers-length (suc k) [] e = absurd (omega arith)
numbers-length k (a ∷ []) e = absurd (omega arith)
numbers-length k (a ∷ b ∷ []) e = absurd (omega arith)
numbers-length k (a ∷ b ∷ c ∷ []) e = absurd (omega arith)
numbers-length zero (a ∷ b ∷ c ∷ d ∷ l) e = absurd (omega arith)
numbers-length (suc k) (a ∷ b ∷ c ∷ d ∷ l) e = ap suc (numbers-length k l (omega arith))

-- the numbers from a place on
pub numbers-next : (l : List ℕ) (i : ℕ) → i + 4 ≤ length l → numbers_in (drop i l) ≡ number_at l i ∷ numbers_in (drop (i + 4) l)
unfolding numbers_in number_at
numbers-next [] i h = absurd (omega arith)
numbers-next (a ∷ []) zero h = absurd (omega arith)
numbers-next (a ∷ b ∷ []) zero h = absurd (omega arith)
numbers-next (a ∷ b ∷ c ∷ []) zero h = absurd (omega arith)
numbers-next (a ∷ b ∷ c ∷ d ∷ l) zero h = refl
numbers-next (x ∷ l) (suc i) h =
    let e1 : suc i + 1 ≡ suc (i + 1) = omega arith in
    let e2 : suc i + 2 ≡ suc (i + 2) = omega arith in
    let e3 : suc i + 3 ≡ suc (i + 3) = omega arith in
    let e4 : suc i + 4 ≡ suc (i + 4) = omega arith in
    rw (e1, e2, e3, e4) (numbers-next l i (omega arith))

pub numbers-end : (l : List ℕ) (i : ℕ) → length l - i < 4 → numbers_in (drop i l) ≡ []
unfolding numbers_in
numbers-end [] zero h = refl
numbers-end [] (suc i) h = refl
numbers-end (a ∷ []) zero h = refl
numbers-end (a ∷ b ∷ []) zero h = refl
numbers-end (a ∷ b ∷ c ∷ []) zero h = refl
numbers-end (a ∷ b ∷ c ∷ d ∷ l) zero h = absurd (omega arith)
numbers-end (x ∷ l) (suc i) h = numbers-end l i (omega arith)

-- the bytes of numbers
pub bytes-none : number_bytes [] ≡ []
unfolding number_bytes
bytes-none = refl

pub bytes-more : (x : ℕ) (l : List ℕ) → number_bytes (x ∷ l) ≡ bytes_of x ++ number_bytes l
unfolding number_bytes
bytes-more x l = refl

pub number-bytes-long : (l : List ℕ) → length (number_bytes l) ≡ 4 * length l
unfolding number_bytes
number-bytes-long [] = refl
number-bytes-long (x ∷ l) = length-append (bytes_of x) (number_bytes l) ∙ (let e = bytes-long x in let f = number-bytes-long l in omega arith)

-- numbers that were put one after the other, and the text past them
pub put_on : (l : List ℕ) (at x : ℕ) (t : List ℕ) → with_text (with_text l at (bytes_of x)) (at + 4) t ≡ with_text l at (bytes_of x ++ t)
unfolding bytes_of
put_on l at x t = sym (with_append (x % 256 ∷ x / 256 % 256 ∷ x / 65536 % 256 ∷ x / 16777216 ∷ []) t l at)

-- the number at a place of such a list is read back
pub number-of : (xs l : List ℕ) (at i : ℕ) → at + 4 * length xs ≤ length l → i < length xs → get_or xs i 0 < 2 ^ 32 → number_at (with_text l at (number_bytes xs)) (at + 4 * i) ≡ get_or xs i 0
number-of [] l at i fits lt small = absurd (omega arith)
number-of (x ∷ xs) l at zero fits lt small =
    let e : at + 4 * 0 ≡ at = omega arith in
    let n = put-long l at (bytes_of x) in
    rw (e, bytes-more x xs, ← (put_on l at x (number_bytes xs))) (number-below (with_text l at (bytes_of x)) (number_bytes xs) (at + 4) at (omega arith) ∙ number-here l at x (omega arith) small)
number-of (x ∷ xs) l at (suc i) fits lt small =
    let e : at + 4 * suc i ≡ at + 4 + 4 * i = omega arith in
    let n = put-long l at (bytes_of x) in
    rw (e, bytes-more x xs, ← (put_on l at x (number_bytes xs))) (number-of xs (with_text l at (bytes_of x)) (at + 4) i (omega arith) (omega arith) small)

pub put-numbers : (l : List ℕ) (at x : ℕ) (xs : List ℕ) → with_text (with_text l at (bytes_of x)) (at + 4) (number_bytes xs) ≡ with_text l at (number_bytes (x ∷ xs))
put-numbers l at x xs = put_on l at x (number_bytes xs) ∙ ap (with_text l at) (sym (bytes-more x xs))

pub one_number : (x : ℕ) → bytes_of x ≡ number_bytes (x ∷ [])
one_number x = sym (bytes-more x [] ∙ (ap (λ (t : List ℕ). bytes_of x ++ t) bytes-none ∙ append-nil (bytes_of x)))

pub bytes-append : (l m : List ℕ) → number_bytes (l ++ m) ≡ number_bytes l ++ number_bytes m
unfolding number_bytes
bytes-append [] m = refl
bytes-append (x ∷ l) m = ap (λ (t : List ℕ). bytes_of x ++ t) (bytes-append l m) ∙ sym (append_assoc (bytes_of x) (number_bytes l) (number_bytes m))

pub same-long : (before after t : List ℕ) (at : ℕ) → after ≡ with_text before at t → length after ≡ length before
same-long before after t at e = ap length e ∙ put-long before at t
