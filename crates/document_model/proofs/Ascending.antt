-- Serials rise from place to place in the table that calls leave, so a serial stands at one place: a part of the laws of this crate. Assumes nothing.
use mathlib.Core.Path.{◌≡◌, subst, sym, ◌∙◌}
use Prim.Native.Nat.{ℕ, zero, suc, ◌+◌, ◌-◌, ◌≤◌, ◌<◌}
use mathlib.Core.List.{List}
use Rattle.std.specs.Prelude.{Some}
use mathlib.Core.Logic.{⊎_elim}
use native.Mathlib.Nat.{eq-or-lt_of_le}
use native.Mathlib.Omega.{arith}
use Rattle.document_model.specs.Model.{Document, values_from, find, Call, table_after}
use Rattle.document_model.proofs.Tables.{Rising}
use Rattle.document_model.proofs.Invariant.{reachable}
use Rattle.document_model.proofs.DocumentLists.{find-here, find-on}

rising-from : (f : ℕ → Document) (lo a n hi : ℕ) → Rising lo (values_from f a n) hi → (j : ℕ) → a ≤ j → j < a + n → lo ≤ (f j).identity.serial
unfolding values_from
rising-from f lo a zero hi r j h lt = absurd (omega arith)
rising-from f lo a (suc n) hi r j h lt =
    ⊎_elim
    (λ (q : a ≡ j). rw (← q) r.0)
    (λ (l : a < j). let k = rising-from f (suc (f a).identity.serial) (suc a) n hi r.1 j (omega arith) (omega arith) in omega (arith, r.0))
    (eq-or-lt_of_le h)

rising-places : (f : ℕ → Document) (lo a n hi : ℕ) → Rising lo (values_from f a n) hi → (i j : ℕ) → a ≤ i → i < j → j < a + n → (f i).identity.serial < (f j).identity.serial
unfolding values_from
rising-places f lo a zero hi r i j h lt less = absurd (omega arith)
rising-places f lo a (suc n) hi r i j h lt less =
    ⊎_elim
    (λ (q : a ≡ i). rw (← q) (let k = rising-from f (suc (f a).identity.serial) (suc a) n hi r.1 j (omega arith) (omega arith) in omega arith))
    (λ (l : a < i). rising-places f (suc (f a).identity.serial) (suc a) n hi r.1 i j (omega arith) lt (omega arith))
    (eq-or-lt_of_le h)

pub serials-ascend : (cs : List Call) (f : ℕ → Document) (n : ℕ) → values_from f 0 n ≡ (table_after cs).docs → (i j : ℕ) → i < j → j < n → (f i).identity.serial < (f j).identity.serial
serials-ascend cs f n e i j lt less =
    rising-places f 1 0 n (table_after cs).next (subst (λ (ds : List Document). Rising 1 ds (table_after cs).next) (sym e) (reachable cs).rising) i j (omega arith) lt (omega arith)

-- the document at a place is that of the serial there, where serials rise
module _ (f : ℕ → Document) (n s i : ℕ) (up : (j k : ℕ) → j < k → k < n → (f j).identity.serial < (f k).identity.serial) (lt : i < n) (here : (f i).identity.serial ≡ s) where
  from_place : (m j : ℕ) → j + m ≡ i → find s (values_from f j (n - j)) ≡ Some (f i)
  from_place zero j e = let q : j ≡ i = omega arith in rw q (find-here f n i s lt here)
  from_place (suc m) j e =
      let less = up j i (omega arith) lt in
      find-on f n j s (omega arith) (λ q. omega arith) ∙ from_place m (j + 1) (omega arith)

  pub found_at : find s (values_from f 0 n) ≡ Some (f i)
  found_at = let e : n - 0 ≡ n = omega arith in subst (λ (k : ℕ). find s (values_from f 0 k) ≡ Some (f i)) e (from_place i 0 (omega arith))
