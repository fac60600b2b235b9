-- A port written in decimal, from its last digit on: what the code's loop knows. Assumes nothing.
use mathlib.Core.Path.{◌≡◌, refl, ap, ◌∙◌, sym}
use Prim.Native.Nat.{ℕ, zero, suc, ◌+◌, ◌-◌, ◌/◌, ◌%◌, ◌≤◌, ◌<◌}
use mathlib.Core.List.{List, [], ◌∷◌, ◌++◌, append_assoc, append-nil}
use native.Mathlib.Omega.{arith}
use lib.ListN.{length, take, drop, set, replicate, length-set, length-append, length-replicate, take-append-drop}
use lib.Seq.{drop-cons, take-set-le, take-take, drop-set-lt, get_or-set_same}
use borrow.Author.Tests.{lt-ltb, le-ltb}
use Rattle.limits.specs.Limits.{port_digits}
use Rattle.ascii.specs.Decimals.{digits_by, last_digits}
use Rattle.origins.specs.NormalForms.{port_text}
use Rattle.origins.specs.Answers.{IsPortText}

-- what is left to write, before what is written
pub record Writing (n : ℕ) (bytes : List ℕ) (from left : ℕ) : Type 0 where
  pub upto : from ≤ port_digits
  pub long : length bytes ≡ port_digits
  pub zeros : take from bytes ≡ replicate from 48
  pub rest : last_digits from left ++ drop from bytes ≡ port_text n

pub writing_start : (n : ℕ) → Writing n (replicate port_digits 48) port_digits n
writing_start n = record { upto = omega arith; long = refl; zeros = refl; rest = append-nil (port_text n) }

digits_last : (k left : ℕ) → left < 10 → last_digits (suc k) left ≡ (48 + left % 10) ∷ []
unfolding last_digits digits_by
digits_last k left h = let e : left % 10 ≡ left = omega arith in rw (lt-ltb left 10 h, e)

digits-on : (k left : ℕ) → 10 ≤ left → last_digits (suc k) left ≡ last_digits k (left / 10) ++ ((48 + left % 10) ∷ [])
unfolding last_digits digits_by
digits-on k left h = rw (le-ltb left 10 h)

take-replicate : (k : ℕ) (x : ℕ) → take k (replicate (suc k) x) ≡ replicate k x
take-replicate zero x = refl
take-replicate (suc k) x = ap (λ (l : List ℕ). x ∷ l) (take-replicate k x)

module _ (n : ℕ) (bytes : List ℕ) (k left d : ℕ) (w : Writing n bytes (suc k) left) (is : d ≡ 48 + left % 10) where
  inside : k < length bytes
  inside = omega (arith, w.long, w.upto)

  front : take k (set bytes k d) ≡ replicate k 48
  front =
      take-set-le k bytes k d (omega arith)
      ∙ (sym (take-take k (suc k) bytes (omega arith)) ∙ (ap (take k) w.zeros ∙ take-replicate k 48))

  back : drop k (set bytes k d) ≡ (48 + left % 10) ∷ drop (suc k) bytes
  back =
      drop-cons (set bytes k d) k 0 (omega (arith, length-set bytes k d, inside))
      ∙ (rw (get_or-set_same bytes k d 0 inside, drop-set-lt (suc k) bytes k d (omega arith)) (ap (λ (x : ℕ). x ∷ drop (suc k) bytes) is))

  long-set : length (set bytes k d) ≡ port_digits
  long-set = length-set bytes k d ∙ w.long

  step : 10 ≤ left → Writing n (set bytes k d) k (left / 10)
  step h =
      record { upto = omega (arith, w.upto); long = long-set; zeros = front; rest = rw back (sym (append_assoc (last_digits k (left / 10)) ((48 + left % 10) ∷ []) (drop (suc k) bytes)) ∙ (rw (digits-on k left h) at w.rest)) }

  last : left < 10 → IsPortText n (record { bytes = set bytes k d; from = k })
  last h =
      let t : drop k (set bytes k d) ≡ port_text n = back ∙ (rw (digits_last k left h) at w.rest) in
      let b : set bytes k d ≡ replicate k 48 ++ port_text n = sym (take-append-drop k (set bytes k d)) ∙ (rw (front, t)) in
      record { from = omega (arith, ap length b, length-append (replicate k 48) (port_text n), length-replicate {A = ℕ} k 48, long-set); bytes = b; text = t }

-- the same, as the code counts
module _ (n : ℕ) (bytes : List ℕ) (from left d : ℕ) (w : Writing n bytes from left) (some : 0 < from) (is : d ≡ 48 + left % 10) where
  one_less : Writing n bytes (suc (from - 1)) left
  one_less = let e : from ≡ suc (from - 1) = omega arith in rw e at w

  pub writing-on : 10 ≤ left → Writing n (set bytes (from - 1) d) (from - 1) (left / 10)
  writing-on h = step n bytes (from - 1) left d one_less is h

  pub writing-last : left < 10 → IsPortText n (record { bytes = set bytes (from - 1) d; from = from - 1 })
  writing-last h = last n bytes (from - 1) left d one_less is h

pub writing-end : (n : ℕ) (bytes : List ℕ) (from left : ℕ) → Writing n bytes from left → from ≤ 0 → IsPortText n (record { bytes = bytes; from = 0 })
writing-end n bytes from left w h =
    let e : from ≡ 0 = omega arith in
    let v : Writing n bytes 0 left = rw e at w in
    let t : bytes ≡ port_text n = unfold last_digits in v.rest in
    record { from = omega (arith, ap length t, v.long); bytes = t; text = t }
