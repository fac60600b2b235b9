-- Halvings end at the one place where a serial can stand. Assumes nothing.
use Rattle.std.specs.Prelude.{Some}
use mathlib.Core.Path.{◌≡◌, refl, ◌∙◌, sym, subst}
use Prim.Native.Nat.{ℕ, zero, suc, ◌+◌, ◌-◌, ◌/◌, ◌≤◌, ◌<◌}
use mathlib.Core.List.{List}
use mathlib.Core.Bool.{Bool, true, false, ◌&&◌}
use Rattle.std.specs.Prelude.{None}
use mathlib.Core.Logic.{⊎_elim}
use native.Mathlib.Nat.{eq-or-lt_of_le}
use native.Mathlib.Omega.{arith}
use lib.Dec.{ltb, leb, eqb}
use borrow.Author.Tests.{ltb-true, ltb-false, leb-true, leb-false, eqb-true, lt-ltb, eq-eqb}
use Rattle.ascii.specs.Bytes.{pick}
use Rattle.ascii.proofs.Bytes.{and_left, and_right}
use Rattle.ascii.proofs.Clash.{clash}
use Rattle.document_model.specs.Model.{Document, values_from, find}
use Rattle.document_model.proofs.Laws.{find-on, find-end, found_at}
use Rattle.document_table.specs.Layout.{count_in, serial_at, doc_at, docs_in}
use Rattle.document_table.specs.Tables.{Ascends, IsFound, halved, Near}
use Rattle.document_table.proofs.Laws.{doc-serial}

module _ (run : List ℕ) (n s at half x : ℕ) (e : x ≡ serial_at run (at + half)) where
  pub halved-up : ltb (at + half) n && leb x s ≡ true → at + half ≡ halved run n s at half
  unfolding halved pick
  halved-up t = rw (← e, t)

  pub halved-stay : ltb (at + half) n && leb x s ≡ false → at ≡ halved run n s at half
  unfolding halved pick
  halved-stay t = rw (← e, t)

pub near-start : (run : List ℕ) (n s w : ℕ) → n ≤ w → Near run n s 0 w
near-start run n s w h = record { low = λ z. absurd (let y : ⊥ = omega arith in y); high = λ k l m. omega arith }

module _ (run : List ℕ) (n s : ℕ) (up : (i j : ℕ) → i < j → j < n → serial_at run i < serial_at run j) where
  at-or-above : (i k : ℕ) → i ≤ k → k < n → serial_at run i ≤ serial_at run k
  at-or-above i k le lt =
      ⊎_elim
      (λ (q : i ≡ k). rw q (let z : serial_at run k ≤ serial_at run k = omega arith in z))
      (λ (l : i < k). let u = up i k l lt in omega arith)
      (eq-or-lt_of_le le)

  step_by : (b c : Bool) (at half width : ℕ) → half + half ≤ width → Near run n s at width → ltb (at + half) n ≡ b → leb (serial_at run (at + half)) s ≡ c → Near run n s (pick (b && c) (at + half) at) (width - half)
  unfolding pick
  step_by true true at half width fits near t u =
      record {
        low = λ z. (ltb-true (at + half) n t, leb-true (serial_at run (at + half)) s u);
        high = λ k l m. let h = near.high k l m in omega arith;
      }
  step_by true false at half width fits near t u =
      record {
        low = near.low;
        high = λ k l m. let h = below k l m (leb (at + half) k) refl in omega arith;
      }
    where
      below : (k : ℕ) → k < n → serial_at run k ≤ s → (d : Bool) → leb (at + half) k ≡ d → k < at + half
      below k l m true e =
          let a = at-or-above (at + half) k (leb-true (at + half) k e) l in
          let v = leb-false (serial_at run (at + half)) s u in
          absurd (let z : ⊥ = omega arith in z)
      below k l m false e = leb-false (at + half) k e
  step_by false c at half width fits near t u =
      record { low = near.low; high = λ k l m. let v = ltb-false (at + half) n t in omega arith }

  pub near_step : (at half width r : ℕ) → half + half ≤ width → Near run n s at width → r ≡ halved run n s at half → Near run n s r (width - half)
  unfolding halved
  near_step at half width r fits near e = rw e (step_by (ltb (at + half) n) (leb (serial_at run (at + half)) s) at half width fits near refl refl)

  -- at the end
  pub near_none : (i : ℕ) → Near run n s i 1 → ltb i n && eqb (serial_at run i) s ≡ false → (k : ℕ) → k < n → serial_at run k ≡ s → ⊥
  near_none i near t k l e =
      let h : k < i + 1 = near.high k l (omega arith) in
      ⊎_elim
      (λ (q : k ≡ i).
      let a : ltb i n && eqb (serial_at run i) s ≡ true = rw (← q, lt-ltb k n l, eq-eqb (serial_at run k) s e) in
      let z : ◌≡◌ {A = ℕ} 0 1 = cc in omega arith)
      (λ (v : k < i).
      let w = near.low (omega arith) in
      let u = up k i v w.0 in
      omega (arith, w.1))
      (eq-or-lt_of_le (let z : k ≤ i = omega arith in z))

-- no document has the serial
none_from : (f : ℕ → Document) (n s : ℕ) → ((k : ℕ) → k < n → (f k).identity.serial ≡ s → ⊥) → (m j : ℕ) → j + m ≡ n → find s (values_from f j (n - j)) ≡ None
none_from f n s never zero j e = find-end f n j s (omega arith)
none_from f n s never (suc m) j e = find-on f n j s (omega arith) (never j (omega arith)) ∙ none_from f n s never m (j + 1) (omega arith)

find_none : (f : ℕ → Document) (n s : ℕ) → ((k : ℕ) → k < n → (f k).identity.serial ≡ s → ⊥) → find s (values_from f 0 n) ≡ None
find_none f n s never = let e : n - 0 ≡ n = omega arith in subst (λ (k : ℕ). find s (values_from f 0 k) ≡ None) e (none_from f n s never n 0 (omega arith))

-- what `nearest` does in a turn and at its end
module _ (run : List ℕ) (n s : ℕ) (asc : Ascends run) (counted : n ≡ count_in run) where
  up : (j k : ℕ) → j < k → k < n → serial_at run j < serial_at run k
  up j k l m = asc.up j k l (omega arith)

  pub near_on : (at width r : ℕ) → 1 < width → Near run n s at width → r ≡ halved run n s at (width / 2) → Near run n s r (width - width / 2)
  near_on at width r more near e = near_step run n s up at (width / 2) width r (omega arith) near e

  pub near-end : (at width : ℕ) → 1 ≤ width → width ≤ 1 → Near run n s at width → Near run n s at 1
  near-end at width low high near = let q : width ≡ 1 = omega arith in rw q at near

-- what `find` answers, at the place that is left
module _ (run : List ℕ) (s n i x : ℕ) (asc : Ascends run) (counted : n ≡ count_in run) (near : Near run n s i 1) (is : x ≡ serial_at run i) where
  up-docs : (j k : ℕ) → j < k → k < count_in run → (doc_at run j).identity.serial < (doc_at run k).identity.serial
  up-docs j k l m = let a = asc.up j k l m in omega (arith, doc-serial run j, doc-serial run k)

  pub place_found : ltb i n && eqb x s ≡ true → IsFound run s (Some i)
  unfolding docs_in
  place_found t =
      let l : i < n = ltb-true i n (and_left (ltb i n) (eqb x s) t) in
      let q : x ≡ s = eqb-true x s (and_right (ltb i n) (eqb x s) t) in
      let w : i < count_in run = omega arith in
      record {
        some_at = λ j e. (let z : i ≡ j = cc in rw (← z) (w, found_at (doc_at run) (count_in run) s i up-docs w (doc-serial run i ∙ (sym is ∙ q)), sym is ∙ q));
        none_at = λ e. clash cc;
      }

  pub place_none : ltb i n && eqb x s ≡ false → IsFound run s None
  unfolding docs_in
  place_none t =
      record {
        some_at = λ j e. clash cc;
        none_at = λ e. find_none (doc_at run) (count_in run) s (λ k l q. near_none run n s (up run n s asc counted) i near (rw is at t) k (omega arith) (sym (doc-serial run k) ∙ q));
      }
