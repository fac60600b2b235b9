-- What a slot says of its document, part by part, for the crates above, which open no definition of this crate. Assumes nothing.
use mathlib.Core.Path.{◌≡◌, refl, sym, ◌∙◌}
use Prim.Native.Nat.{ℕ}
use mathlib.Core.Bool.{Bool, true, false}
use mathlib.Core.List.{List}
use Rattle.std.specs.Prelude.{None}
use lib.Dec.{ltb}
use native.Mathlib.Omega.{arith}
use lib.ListN.{length, get_or, length-take, length-drop}
use borrow.Author.Tests.{ltb-true, ltb-false}
use Rattle.lent_bytes.specs.Numbers.{number_at, numbers_in}
use Rattle.lent_bytes.proofs.Laws.{numbers-length}
use Rattle.features.specs.Features.{feature_count}
use Rattle.decisions.specs.Masks.{decision_at}
use Rattle.settled.specs.Settled.{declared_in}
use Rattle.settled.proofs.Laws.{declared-past}
use Rattle.document_model.specs.Model.{values_from, policy_of}
use Rattle.document_model.proofs.Laws.{values-at, values-past}
use Rattle.document_records.specs.Slots.{inherited_place, depth_in, above_bytes, own_origin, is_sandboxed_in, settled_in, document_in, slot_policy, Kept}

-- the document, by its parts
module _ (s : ℕ) (slot : List ℕ) where
  pub document-parts : document_in s slot ≡ record { identity = record { serial = s; above = numbers_in (above_bytes slot); origin = own_origin slot; sandboxed = is_sandboxed_in slot }; inherited = number_at slot inherited_place; declared = values_from (declared_in (settled_in slot)) 0 feature_count }
  unfolding document_in
  document-parts = refl

  pub document-serial : (document_in s slot).identity.serial ≡ s
  unfolding document_in
  document-serial = refl

  pub document-above : (document_in s slot).identity.above ≡ numbers_in (above_bytes slot)
  unfolding document_in
  document-above = refl

  pub document-origin : (document_in s slot).identity.origin ≡ own_origin slot
  unfolding document_in
  document-origin = refl

  pub document-sandboxed : (document_in s slot).identity.sandboxed ≡ is_sandboxed_in slot
  unfolding document_in
  document-sandboxed = refl

  -- the policy doesn't ask for the serial
  pub document-policy : policy_of (document_in s slot) ≡ slot_policy slot
  unfolding document_in
  document-policy = refl

-- as many serials stand above it as its number says
pub document-depth : (s : ℕ) (slot : List ℕ) → Kept slot → length (document_in s slot).identity.above ≡ depth_in slot
unfolding document_in
document-depth s slot k = let a = k.long in let d = k.depth in numbers-length (depth_in slot) (above_bytes slot) (rw (length-take, length-drop) (omega arith))

-- the policy, by its parts
pub slot-declared : (slot : List ℕ) (n : ℕ) → (slot_policy slot).declared n ≡ declared_in (settled_in slot) n
unfolding document_in
slot-declared slot n = go (ltb n feature_count) refl
  where
    go : (b : Bool) → ltb n feature_count ≡ b → get_or (values_from (declared_in (settled_in slot)) 0 feature_count) n None ≡ declared_in (settled_in slot) n
    go true e = values-at (declared_in (settled_in slot)) feature_count n None (ltb-true n feature_count e)
    go false e = values-past (declared_in (settled_in slot)) 0 feature_count n None (ltb-false n feature_count e) ∙ sym (declared-past (settled_in slot) n (ltb-false n feature_count e))

pub slot-own : (slot : List ℕ) → (slot_policy slot).own ≡ own_origin slot
unfolding document_in
slot-own slot = refl

pub slot-inherited : (slot : List ℕ) (n : ℕ) → (slot_policy slot).inherited n ≡ decision_at (number_at slot inherited_place) n
unfolding document_in
slot-inherited slot n = refl
