-- Ports in decimal, read digit by digit. Assumes nothing.
use mathlib.Core.Path.{◌≡◌, refl}
use Prim.Native.Nat.{ℕ, zero, suc, ◌+◌, ◌-◌, ◌*◌, ◌^◌, ◌≤◌, ◌<◌}
use mathlib.Core.List.{List, [], ◌∷◌}
use mathlib.Core.Bool.{Bool, true, false, not, ◌&&◌}
use Rattle.std.specs.Prelude.{Some, None}
use native.Mathlib.Omega.{arith}
use native.Mathlib.Nat.{lt_of_lt_of_le, le_trans, le_of_suc-le-suc, mul-le-mul_right, mul_assoc, pow-succ'}
use lib.ListN.{length}
use lib.Dec.{leb, eqb}
use borrow.Author.Tests.{lt-ltb, eqb-false, le-leb, lt-leb, leb-true, leb-false}
use Rattle.ascii.proofs.Clash.{clash}
use Rattle.limits.specs.Limits.{last_port, port_digits}
use Rattle.ascii.specs.Texts.{every}
use Rattle.ascii.specs.Bytes.{pick, is_digit}
use Rattle.ascii.specs.Reading.{is_empty, head_of}
use Rattle.ascii.proofs.Bytes.{and_left, and_right, within_low}
use Rattle.ascii.specs.Decimals.{decimal_from, decimal_upto, decimal, leads_zero}
use Rattle.ascii.proofs.Decimals.{decimal-grows}
use Rattle.origins.specs.Ports.{is_number, is_port_part}
use Rattle.origins.specs.Steps.{port_number}

-- a port's number, once it has at most five digits
module _ (ds : List ℕ) where
  pub number-long : port_digits < length ds → None ≡ port_number ds
  unfolding port_number is_port_part pick
  number-long h = rw (lt-leb (length ds) port_digits h)

  pub number-upto : length ds ≤ port_digits → decimal_upto last_port ds ≡ port_number ds
  unfolding port_number is_port_part is_number decimal_upto
  number-upto h = rw (le-leb (length ds) port_digits h)

-- as many digits more make a number so much greater
tens-grow : (n k : ℕ) (ds : List ℕ) → k ≤ length ds → n * 10 ^ k ≤ decimal_from n ds
unfolding decimal_from
tens-grow n zero ds h = omega (arith, decimal-grows n ds)
tens-grow n (suc k) [] h = absurd (omega arith)
tens-grow n (suc k) (d ∷ ds) h =
    let g : (n * 10 + (d - 48)) * 10 ^ k ≤ decimal_from (n * 10 + (d - 48)) ds = tens-grow (n * 10 + (d - 48)) k ds (le_of_suc-le-suc h) in
    let m : n * 10 * 10 ^ k ≤ (n * 10 + (d - 48)) * 10 ^ k = mul-le-mul_right (10 ^ k) (omega arith) in
    rw (pow-succ', ← mul_assoc) (le_trans m g)

-- "no leading zero": a number of more than one digit is at least 1 and as many zeros as digits follow
pub long-number : (k : ℕ) (ds : List ℕ) → 1 ≤ k → k < length ds → leads_zero ds ≡ false → every is_digit ds ≡ true → 10 ^ k ≤ decimal ds
unfolding leads_zero every decimal_from head_of
long-number k [] p h z e = absurd (omega arith)
long-number k (a ∷ ds) p h z e =
    let u : 48 ≤ a = within_low 48 57 a (and_left (is_digit a) (every is_digit ds) e) in
    let v : eqb a 48 ≡ false = rw (lt-ltb 1 (length (a ∷ ds)) (omega arith)) at z in
    let w : a ≡ 48 → ⊥ = eqb-false a 48 v in
    let m : 1 * 10 ^ k ≤ (0 * 10 + (a - 48)) * 10 ^ k = mul-le-mul_right (10 ^ k) (omega arith) in
    let q : 1 * 10 ^ k ≡ 10 ^ k = omega arith in
    le_trans (rw q at m) (tens-grow (0 * 10 + (a - 48)) k ds (le_of_suc-le-suc h))

-- so at most five digits are left for a number up to 65,535
pub long-decimal : (ds : List ℕ) → port_digits < length ds → leads_zero ds ≡ false → every is_digit ds ≡ true → last_port < decimal ds
long-decimal ds h z e = lt_of_lt_of_le {m = 10 ^ 5} (omega arith) (long-number 5 ds (omega arith) h z e)

-- what a number's test says
module _ (ds : List ℕ) (e : is_number ds ≡ true) where
  pub number_digits : every is_digit ds ≡ true
  unfolding is_number
  number_digits = and_right (not (is_empty ds)) (every is_digit ds) (and_left (not (is_empty ds) && every is_digit ds) (leb (decimal ds) last_port) e)

  pub number-most : decimal ds ≤ last_port
  unfolding is_number
  number-most = leb-true (decimal ds) last_port (and_right (not (is_empty ds) && every is_digit ds) (leb (decimal ds) last_port) e)

-- an origin's port: the number that the code reads decides, once no zero leads
module _ (ds : List ℕ) (z : leads_zero ds ≡ false) where
  pub port-some : (n : ℕ) → port_number ds ≡ Some n → (is_number ds ≡ true) × (decimal ds ≡ n)
  unfolding port_number is_port_part pick
  port-some n e = go (leb (length ds) port_digits) (is_number ds) refl e
    where
      go : (a b : Bool) → is_number ds ≡ b → pick (a && b) (Some (decimal ds)) None ≡ Some n → (is_number ds ≡ true) × (decimal ds ≡ n)
      go true true u f = (u, cc)
      go true false u f = clash cc
      go false b u f = clash cc

  pub port-none : port_number ds ≡ None → is_number ds ≡ false
  unfolding port_number is_port_part pick
  port-none e = go (leb (length ds) port_digits) (is_number ds) refl refl e
    where
      go : (a b : Bool) → leb (length ds) port_digits ≡ a → is_number ds ≡ b → pick (a && b) (Some (decimal ds)) None ≡ None → b ≡ false
      go a false t u f = refl
      go true true t u f = clash cc
      go false true t u f = absurd (omega (arith, long-decimal ds (leb-false (length ds) port_digits t) z (number_digits ds u), number-most ds u))
