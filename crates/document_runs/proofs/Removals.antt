-- An unload by its definition: the bytes that `removed_run` says are those of a table with the documents that stay. Assumes nothing.
use mathlib.Core.Path.{◌≡◌, refl, ap, sym, ◌∙◌}
use Prim.Native.Nat.{ℕ, zero, suc, ◌+◌, ◌-◌, ◌≤◌, ◌<◌, ◌^◌}
use native.Mathlib.Omega.{arith}
use mathlib.Core.List.{List}
use mathlib.Core.Bool.{Bool, true, false}
use Rattle.lent_bytes.specs.Numbers.{with_number}
use Rattle.document_model.specs.Model.{Document, is_at_or_beneath}
use Rattle.document_table.specs.Layout.{count_place, count_in, serial_at, doc_at, moved}
use Rattle.document_table.specs.Tables.{Sound, IsRemoved}
use Rattle.document_table.proofs.Laws.{doc-serial}
use Rattle.document_table.proofs.Sweeping.{Sweeping, sweep, sweep-goes, sweep-stays, is_removed}

pub record Removal (before : List ℕ) (s : ℕ) : Type 0 where
  pub after : List ℕ
  pub many : ℕ
  pub is : IsRemoved before s after many

module _ (before : List ℕ) (s : ℕ) (small : (j : ℕ) → j < count_in before → serial_at before j < 2 ^ 32) where
  sweeps : (n i k : ℕ) (run : List ℕ) → n + i ≡ count_in before → Sweeping before run s i k → Removal before s
  sweeps zero i k run e w =
      let low : i ≤ count_in before = omega arith in
      let high : count_in before ≤ i = omega arith in
      record { after = with_number run count_place k; many = count_in before - k; is = is_removed before run (with_number run count_place k) s i k k (count_in before) refl low high refl w refl }
  sweeps (suc n) i k run e w = go (is_at_or_beneath s (doc_at run i).identity) refl (λ k' run' w'. sweeps n (i + 1) k' run' (omega arith) w')
    where
      lt : i < count_in before
      lt = omega arith

      go : (b : Bool) → b ≡ is_at_or_beneath s (doc_at run i).identity → ((k' : ℕ) (run' : List ℕ) → Sweeping before run' s (i + 1) k' → Removal before s) → Removal before s
      go true t f = f k run (sweep-goes before run s i k (count_in before) refl (omega arith) true t w refl)
      go false t f =
          let c = w.sound.count in
          let d = w.count in
          let same : serial_at run i ≡ serial_at before i = sym (doc-serial run i) ∙ (ap (λ (x : Document). x.identity.serial) (w.behind i (omega arith) (omega arith)) ∙ doc-serial before i) in
          let fits : serial_at run i < 2 ^ 32 = let h = small i (omega arith) in omega arith in
          f (k + 1) (moved run k i) (sweep-stays before run s i k (count_in before) refl (omega arith) false t w (moved run k i) refl (refl, fits))

  pub removal : Sound before → Removal before s
  removal sound = sweeps (count_in before) 0 0 before (omega arith) (sweep before s sound)
