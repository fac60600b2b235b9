-- What is read of a slot, in the terms of the code. Assumes nothing.
use Rattle.std.specs.Prelude.{Option}
use mathlib.Core.Path.{◌≡◌, refl, ap, ◌∙◌}
use Prim.Native.Nat.{ℕ, zero, suc, ◌+◌, ◌*◌, ◌/◌, ◌≤◌, ◌<◌}
use mathlib.Core.Bool.{Bool}
use mathlib.Core.List.{List, [], ◌∷◌}
use native.Mathlib.Omega.{arith}
use lib.ListN.{length}
use Rattle.std.specs.Prelude.{◌==◌}
use Rattle.std.specs.Int.{from_le_bytes, w32}
use Rattle.std.specs.List.{list_any}
use Rattle.std.specs.Simd.{first_chunks}
use Rattle.lent_bytes.specs.Numbers.{word, number_at, numbers_in}
use Rattle.origins.specs.Origins.{OriginSaid, origin_of}
use Rattle.origins.specs.Origins.Origin.{tuple}
use Rattle.origins.specs.Origins.OriginSaid.{says_empty, says_null, says_tuple, no_origin}
use Rattle.origins.specs.Answers.{origin_as, origin_in}
use Rattle.origins.specs.declared.OriginText.{OriginText}
use Rattle.origins.specs.declared.OriginRange.{OriginRange}
use Rattle.origins.proofs.Laws.{tuple-range}
use Rattle.document_model.specs.Model.{elem}
use Rattle.document_records.specs.Slots.{opaque_place, own_text, own_number, own_origin, origin_by}
use Rattle.document_records.specs.Records.{range_by, IsOwnRange}

-- a number among those of a text, four bytes each
is-word : (a b c d : ℕ) → from_le_bytes w32 (a ∷ b ∷ c ∷ d ∷ []) ≡ word a b + 65536 * word c d
is-word a b c d = omega arith

among : (x k : ℕ) (l : List ℕ) → 4 * k ≤ length l → length l < 4 * k + 4 → list_any (λ n. x == from_le_bytes w32 n) (first_chunks 4 k l) ≡ elem x (numbers_in l)
unfolding numbers_in elem
among x zero [] low high = refl
among x zero (a ∷ []) low high = refl
among x zero (a ∷ b ∷ []) low high = refl
among x zero (a ∷ b ∷ c ∷ []) low high = refl
among x zero (a ∷ b ∷ c ∷ d ∷ l) low high = absurd (omega arith)
among x (suc k) [] low high = absurd (omega arith)
among x (suc k) (a ∷ []) low high = absurd (omega arith)
among x (suc k) (a ∷ b ∷ []) low high = absurd (omega arith)
among x (suc k) (a ∷ b ∷ c ∷ []) low high = absurd (omega arith)
among x (suc k) (a ∷ b ∷ c ∷ d ∷ l) low high =
    let rest : list_any (λ n. x == from_le_bytes w32 n) (first_chunks 4 k l) ≡ elem x (numbers_in l) = among x k l (omega arith) (omega arith) in
    rw (← rest, ← (is-word a b c d)) refl

pub held : (x : ℕ) (l : List ℕ) (ns : List (List ℕ)) (r : Bool) → ns ≡ first_chunks 4 (length l / 4) l → r ≡ list_any (λ n. x == from_le_bytes w32 n) ns → r ≡ elem x (numbers_in l)
held x l ns r e f = rw e at f ∙ among x (length l / 4) l (omega arith) (omega arith)

-- the document's origin, by what its text says
range-by : (u : List ℕ) (x : OriginSaid) (n : ℕ) → origin_of u ≡ x → origin_in u (range_by (origin_as x) n) ≡ origin_by x n
range-by u says_empty n h = refl
range-by u says_null n h = refl
range-by u (says_tuple p) n h = ap tuple (tuple-range u p h)
range-by u no_origin n h = refl

pub own-range : (slot u : List ℕ) (x : Option OriginText) (m : ℕ) (r : OriginRange) → u ≡ own_text slot → x ≡ origin_as (origin_of u) → m ≡ number_at slot opaque_place → r ≡ range_by x m → IsOwnRange slot r
own-range slot u x m r eu read em is =
    let says : r ≡ range_by (origin_as (origin_of (own_text slot))) (own_number slot) = rw (← eu, ← read, ← em) is in
    record { which = says; is = ap (origin_in (own_text slot)) says ∙ range-by (own_text slot) (origin_of (own_text slot)) (own_number slot) refl }

-- the origin that stands in the slot, beside its text
pub own-here : (slot u : List ℕ) (r : OriginRange) → u ≡ own_text slot → IsOwnRange slot r → origin_in u r ≡ own_origin slot
own-here slot u r eu is = ap (λ (l : List ℕ). origin_in l r) eu ∙ is.is

pub ruleset readings = (own-range, own-here)
