-- Ports, from what follows a host: the steps of the code. Assumes nothing.
use Rattle.std.specs.Prelude.{Option}
use mathlib.Core.Path.{◌≡◌, refl, ◌∙◌, sym}
use Prim.Native.Nat.{ℕ, ◌-◌}
use mathlib.Core.List.{List, [], ◌∷◌}
use mathlib.Core.Bool.{Bool, true, false, not, ◌&&◌}
use Rattle.std.specs.Prelude.{Some, None}
use native.Mathlib.Omega.{arith}
use lib.ListN.{length, take, drop}
use lib.Dec.{eqb}
use borrow.Author.Tests.{eq-eqb, ne_eqb}
use Rattle.ascii.proofs.Clash.{clash}
use Rattle.ascii.specs.Bytes.{pick}
use Rattle.ascii.specs.Literals.{text}
use Rattle.ascii.specs.Texts.{same_bytes}
use Rattle.ascii.specs.Reading.{is_empty, next}
use Rattle.ascii.specs.Decimals.{decimal, leads_zero}
use Rattle.origins.specs.Ports.{default_port, is_number, is_port, origin_port, is_port_part, port_part_of}
use Rattle.origins.specs.Steps.{port_number}
use Rattle.origins.specs.declared.Scheme.{Scheme}
use Rattle.origins.specs.declared.PortPart.TheVariants.{Default, Any, Number}
use Rattle.origins.proofs.Numbers.{port-some, port-none}
use Rattle.origins.proofs.Steps.{rest_all}

-- past the first byte, as the code cuts it
abbrev tail : List ℕ → List ℕ
tail p = take (length p - 1) (drop 1 p)

pub empty-yes : (p : List ℕ) → length p ≡ 0 → is_empty p ≡ true
unfolding is_empty
empty-yes [] h = refl
empty-yes (x ∷ xs) h = absurd (omega arith)

pub empty-no : (p : List ℕ) → (length p ≡ 0 → ⊥) → is_empty p ≡ false
unfolding is_empty
empty-no [] h = absurd (h refl)
empty-no (x ∷ xs) h = refl

module _ (k : Scheme) (p : List ℕ) where
  pub port-default : (r : ℕ) → length p ≡ 0 → r ≡ default_port k → Some r ≡ origin_port k p
  unfolding origin_port pick
  port-default r h e = rw (empty-yes p h, e)

  module _ (h : length p ≡ 0 → ⊥) (t : Bool) (u : t ≡ leads_zero (tail p)) where
    past-colon : origin_port k p ≡ pick (is_port k (tail p)) (Some (decimal (tail p))) None
    unfolding origin_port pick next
    past-colon = rw (empty-no p h, rest_all p 1)

    pub port-zero : t ≡ true → None ≡ origin_port k p
    unfolding is_port pick
    port-zero v = go (is_number (tail p)) past-colon
      where
        go : (b : Bool) → origin_port k p ≡ pick (b && not (leads_zero (tail p)) && not (eqb (decimal (tail p)) (default_port k))) (Some (decimal (tail p))) None → None ≡ origin_port k p
        go true e = rw (e, ← u, v)
        go false e = rw e

    module _ (v : t ≡ false) (r : Option ℕ) (w : r ≡ port_number (tail p)) where
      pub port-bad : r ≡ None → None ≡ origin_port k p
      unfolding is_port pick
      port-bad e = rw (past-colon, port-none (tail p) (sym u ∙ v) (sym w ∙ e))

      module _ (n q : ℕ) (e : r ≡ Some n) (d : q ≡ default_port k) where
        at-number : origin_port k p ≡ pick (not (eqb n q)) (Some n) None
        unfolding is_port pick
        at-number =
            let s = port-some (tail p) (sym u ∙ v) n (sym w ∙ e) in
            rw (past-colon, s.0, s.1, ← u, v, d)

        pub port-same : n ≡ q → None ≡ origin_port k p
        unfolding pick
        port-same f = rw (at-number, eq-eqb n q f)

        pub port-is : (n ≡ q → ⊥) → Some n ≡ origin_port k p
        unfolding pick
        port-is f = rw (at-number, ne_eqb n q f)

picked-some : (b : Bool) (m n : ℕ) → pick b (Some m) None ≡ Some n → pick b (Some (Number m)) None ≡ Some (Number n)
unfolding pick
picked-some true m n e = let k : m ≡ n = cc in rw k
picked-some false m n e = clash cc

picked_none : (b : Bool) (m : ℕ) → pick b (Some m) None ≡ None → pick b (Some (Number m)) None ≡ None
unfolding pick
picked_none true m e = clash cc
picked_none false m e = refl

-- an expression's port-part
module _ (p : List ℕ) where
  pub part-default : length p ≡ 0 → Some Default ≡ port_part_of p
  unfolding port_part_of pick
  part-default h = rw (empty-yes p h)

  module _ (h : length p ≡ 0 → ⊥) (t : Bool) (u : t ≡ same_bytes (tail p) (text "*")) where
    pub part-any : t ≡ true → Some Any ≡ port_part_of p
    unfolding port_part_of pick next
    part-any v = rw (empty-no p h, ← (rest_all p 1), ← u, v)

    module _ (v : t ≡ false) (r : Option ℕ) (w : r ≡ port_number (tail p)) where
      at-digits : port_part_of p ≡ pick (is_port_part (tail p)) (Some (Number (decimal (tail p)))) None
      unfolding port_part_of pick next
      at-digits =
          let s : same_bytes (drop 1 p) (text "*") ≡ false = rw (rest_all p 1) at (sym u ∙ v) in
          rw (empty-no p h, rest_all p 1, s)

      pub part-number : (n : ℕ) → r ≡ Some n → Some (Number n) ≡ port_part_of p
      part-number n e = rw (at-digits, picked-some (is_port_part (tail p)) (decimal (tail p)) n (unfold port_number in sym w ∙ e))

      pub part_none : r ≡ None → None ≡ port_part_of p
      part_none e = rw (at-digits, picked_none (is_port_part (tail p)) (decimal (tail p)) (unfold port_number in sym w ∙ e))
