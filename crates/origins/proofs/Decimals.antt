-- A port that is written is read back, and a port's digits are what it is written as. Assumes nothing.
use mathlib.Core.Path.{◌≡◌, refl}
use Prim.Native.Nat.{ℕ, ◌≤◌, ◌<◌}
use mathlib.Core.List.{List, [], ◌∷◌}
use mathlib.Core.Bool.{Bool, true, false}
use native.Mathlib.Omega.{arith}
use lib.ListN.{length}
use lib.Dec.{leb, eqb}
use borrow.Author.Tests.{leb-true, leb-false, lt-ltb, le-leb, eqb-false}
use Rattle.ascii.proofs.Clash.{clash}
use Rattle.limits.specs.Limits.{last_port, port_digits}
use Rattle.ascii.specs.Bytes.{is_digit}
use Rattle.ascii.specs.Texts.{every}
use Rattle.ascii.specs.Reading.{head_of, is_empty}
use Rattle.ascii.specs.Decimals.{decimal, leads_zero}
use Rattle.ascii.proofs.Decimals.{tens, digits-back, digits-digits, digits-most, digits-some, digits-lead, canonical, head-digit}
use Rattle.origins.specs.Ports.{is_number, is_port_part}
use Rattle.origins.specs.NormalForms.{port_text}
use Rattle.origins.proofs.Ports.{empty-no}
use Rattle.origins.proofs.Numbers.{long-decimal, number_digits, number-most}

-- a port, written: it is read back, has one to five digits, and no zero in front
module _ (n : ℕ) (h : n ≤ last_port) where
  fits : n < tens port_digits
  unfolding tens
  fits = omega arith

  pub port-back : decimal (port_text n) ≡ n
  port-back = digits-back port_digits n fits

  pub port-digits : every is_digit (port_text n) ≡ true
  port-digits = digits-digits port_digits n

  pub port-some : 1 ≤ length (port_text n)
  port-some = digits-some 4 n

  pub port-most : length (port_text n) ≤ port_digits
  port-most = digits-most port_digits n

  pub port-lead : leads_zero (port_text n) ≡ false
  port-lead = digits-lead 4 n fits

  pub port-number : is_number (port_text n) ≡ true
  unfolding is_number
  port-number = rw (empty-no (port_text n) (λ z. omega (arith, port-some)), port-digits, port-back, le-leb n last_port h)

  pub port-part : is_port_part (port_text n) ≡ true
  unfolding is_port_part
  port-part = rw (le-leb (length (port_text n)) port_digits port-most, port-number)

number-some : (ds : List ℕ) → is_number ds ≡ true → 1 ≤ length ds
unfolding is_number is_empty
number-some [] e = clash cc
number-some (x ∷ ds) e = omega arith

-- an origin's port is what its number is written as
module _ (ds : List ℕ) (e : is_number ds ≡ true) (z : leads_zero ds ≡ false) where
  pub port-short : length ds ≤ port_digits
  port-short = go (leb (length ds) port_digits) refl
    where
      go : (b : Bool) → leb (length ds) port_digits ≡ b → length ds ≤ port_digits
      go true t = leb-true (length ds) port_digits t
      go false t = absurd (omega (arith, long-decimal ds (leb-false (length ds) port_digits t) z (number_digits ds e), number-most ds e))

  some : 1 ≤ length ds
  some = number-some ds e

  first : 1 < length ds → 49 ≤ head_of ds
  unfolding leads_zero
  first h =
      let v : eqb (head_of ds) 48 ≡ false = rw (lt-ltb 1 (length ds) h) at z in
      let w : head_of ds ≡ 48 → ⊥ = eqb-false (head_of ds) 48 v in
      omega (arith, head-digit ds some (number_digits ds e))

  pub port-canonical : port_text (decimal ds) ≡ ds
  port-canonical = canonical port_digits ds some port-short (number_digits ds e) first
