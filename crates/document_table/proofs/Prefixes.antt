-- What a run says stands in its first table_bytes bytes. Assumes nothing.
use mathlib.Core.Path.{◌≡◌, refl, ap, sym, ◌∙◌}
use Prim.Native.Nat.{ℕ, zero, suc, ◌+◌, ◌*◌, ◌≤◌, ◌<◌}
use mathlib.Core.List.{List, [], ◌∷◌}
use native.Mathlib.Omega.{arith}
use lib.ListN.{length, get_or, take, length-take}
use lib.Seq.{get_or-take, take-take}
use Rattle.limits.specs.Limits.{document_limit}
use Rattle.lent_bytes.specs.Numbers.{number_at, bytes_at}
use Rattle.document_model.specs.Model.{values_from}
use Rattle.document_model.proofs.Laws.{values_same}
use Rattle.document_records.specs.Slots.{slot_bytes}
use Rattle.document_table.specs.Layout.{mark_place, mark_bytes, count_place, last_place, serials_place, slot_numbers_place, table_bytes, mark_in, count_in, last_in, serial_at, slot_number, slot_place, slot_of, doc_at, docs_in, view}
use Rattle.document_table.specs.Tables.{Sound}
use Rattle.document_table.proofs.Laws.{doc-same}

-- ---- two lists with the same first bytes

-- a part of the first bytes is that part of the whole
front-part : (p k n : ℕ) (l : List ℕ) → p + k ≤ n → bytes_at (take n l) p k ≡ bytes_at l p k
front-part zero k n l h = take-take k n l (omega arith)
front-part (suc p) k zero l h = absurd (omega arith)
front-part (suc p) k (suc n) [] h = refl
front-part (suc p) k (suc n) (x ∷ l) h = front-part p k n l (omega arith)

module _ (a b : List ℕ) (n : ℕ) (same : take n b ≡ take n a) where
  -- a byte
  same_byte : (j : ℕ) → j < n → get_or b j 0 ≡ get_or a j 0
  same_byte j lt = sym (get_or-take n b j 0 lt) ∙ (ap (λ (l : List ℕ). get_or l j 0) same ∙ get_or-take n a j 0 lt)

  -- a number
  same-number : (p : ℕ) → p + 4 ≤ n → number_at b p ≡ number_at a p
  unfolding number_at
  same-number p h = rw (same_byte p (omega arith), same_byte (p + 1) (omega arith), same_byte (p + 2) (omega arith), same_byte (p + 3) (omega arith)) refl

  -- a part
  same_part : (p k : ℕ) → p + k ≤ n → bytes_at b p k ≡ bytes_at a p k
  same_part p k h = sym (front-part p k n b h) ∙ (ap (λ (l : List ℕ). bytes_at l p k) same ∙ front-part p k n a h)

  -- whether they are so long
  same_length : n ≤ length a → n ≤ length b
  same_length h = omega (arith, sym (length-take n b) ∙ (ap length same ∙ length-take n a))

-- ---- two runs with the same first table_bytes bytes

module _ (a b : List ℕ) (same : take table_bytes b ≡ take table_bytes a) where
  pub same-mark : mark_in b ≡ mark_in a
  same-mark = same_part a b table_bytes same mark_place mark_bytes (omega arith)

  pub same_count : count_in b ≡ count_in a
  same_count = same-number a b table_bytes same count_place (omega arith)

  pub same-last : last_in b ≡ last_in a
  same-last = same-number a b table_bytes same last_place (omega arith)

  pub same-serial : (i : ℕ) → i < document_limit → serial_at b i ≡ serial_at a i
  same-serial i lt = same-number a b table_bytes same (serials_place + 4 * i) (omega arith)

  pub same-slot-number : (i : ℕ) → i < document_limit → slot_number b i ≡ slot_number a i
  same-slot-number i lt = same_byte a b table_bytes same (slot_numbers_place + i) (omega arith)

  pub same-slot : (k : ℕ) → k < document_limit → slot_of b k ≡ slot_of a k
  same-slot k lt = same_part a b table_bytes same (slot_place k) slot_bytes (omega arith)

  module _ (sound : Sound a) where
    -- the slot of a place
    same-slot-at : (i : ℕ) → i < document_limit → slot_of b (slot_number b i) ≡ slot_of a (slot_number a i)
    same-slot-at i lt = ap (slot_of b) (same-slot-number i lt) ∙ same-slot (slot_number a i) (sound.slots i lt)

    pub same-doc : (i : ℕ) → i < document_limit → doc_at b i ≡ doc_at a i
    same-doc i lt = doc-same a b i i (same-serial i lt) (same-slot-at i lt)

    pub same-docs : docs_in b ≡ docs_in a
    unfolding docs_in
    same-docs =
        let c = sound.count in
        ap (λ (n : ℕ). values_from (doc_at b) 0 n) same_count ∙ values_same (doc_at b) (doc_at a) 0 (count_in a) (λ i low lt. same-doc i (omega arith))

    -- a table is sound, and says the same, whatever lies past it
    pub same-sound : Sound b
    same-sound =
        record {
          long = same_length a b table_bytes same sound.long;
          marked = same-mark ∙ sound.marked;
          count = rw same_count sound.count;
          slots = λ i lt. rw (same-slot-number i lt) (sound.slots i lt);
          apart = λ i j li lj e. sound.apart i j li lj (sym (same-slot-number i li) ∙ (e ∙ same-slot-number j lj));
          good = λ i lt.
              let c = sound.count in
              let low : i < count_in a = rw same_count at lt in
              rw (same-slot-at i (omega arith)) (sound.good i low);
        }

    pub same_view : view b ≡ view a
    same_view =
        let docs = same-docs in
        let last = same-last in
        cc
