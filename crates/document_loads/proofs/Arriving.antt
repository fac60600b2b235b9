-- The origin at which a document arrives: its text copied, or the container's. Assumes nothing.
use Rattle.std.specs.Prelude.{Option, Some, None}
use mathlib.Core.Path.{◌≡◌, refl, ap, sym, ◌∙◌}
use Prim.Native.Nat.{ℕ, ◌≤◌, ◌<◌, ◌^◌}
use native.Mathlib.Omega.{arith}
use mathlib.Core.List.{List, []}
use lib.ListN.{length, take, replicate, length-replicate}
use Rattle.ascii.proofs.Clash.{clash}
use Rattle.origins.specs.Origins.{Origin, OriginSaid, origin_of}
use Rattle.origins.specs.Origins.Origin.{tuple, opaque}
use Rattle.origins.specs.Origins.OriginSaid.{says_empty, says_null, says_tuple, no_origin}
use Rattle.origins.specs.Answers.{origin_as, origin_in, tuple_range}
use Rattle.origins.specs.declared.OriginText.{OriginText}
use Rattle.origins.specs.declared.OriginText.TheVariants as said
use Rattle.origins.specs.declared.OriginRange.{OriginRange}
use Rattle.origins.specs.declared.OriginRange.TheVariants as range
use Rattle.origins.specs.declared.TupleRange.{TupleRange}
use Rattle.origins.proofs.Laws.{tuple-range, tuple-length, tuple-text, text-empty}
use Rattle.document_model.specs.Model.{arrives_at}
use Rattle.document_records.specs.Slots.{origin_bytes}
use Rattle.document_loads.specs.Slots.{filled, KeptOrigin}
use Rattle.document_loads.specs.Loads.{IsOpaque, Arrives}
use Rattle.document_loads.specs.declared.Arrival.{Arrival}
use Rattle.document_loads.proofs.Putting.{filled-long, filled-front, filled_none}

arrives-empty : (x : OriginSaid) (own : Origin) (n : ℕ) → (Some said.Empty) ≡ origin_as x → arrives_at x own n ≡ own
arrives-empty says_empty own n e = refl
arrives-empty says_null own n e = clash cc
arrives-empty (says_tuple p) own n e = clash cc
arrives-empty no_origin own n e = clash cc

arrives-null : (x : OriginSaid) (own : Origin) (n : ℕ) → (Some said.Null) ≡ origin_as x → arrives_at x own n ≡ opaque n
arrives-null says_empty own n e = clash cc
arrives-null says_null own n e = refl
arrives-null (says_tuple p) own n e = clash cc
arrives-null no_origin own n e = clash cc

arrives-none : (x : OriginSaid) (own : Origin) (n : ℕ) → None ≡ origin_as x → arrives_at x own n ≡ opaque n
arrives-none says_empty own n e = clash cc
arrives-none says_null own n e = clash cc
arrives-none (says_tuple p) own n e = clash cc
arrives-none no_origin own n e = refl

short-by : (o : List ℕ) (q : TupleRange) (x : OriginSaid) → origin_of o ≡ x → (Some (said.Tuple q)) ≡ origin_as x → length o ≤ origin_bytes
short-by o q says_empty h e = clash-le cc
  where
    clash-le : ◌≡◌ {A = ℕ} 0 1 → length o ≤ origin_bytes
    clash-le z = absurd (omega arith)
short-by o q says_null h e = let z : ◌≡◌ {A = ℕ} 0 1 = cc in absurd (omega arith)
short-by o q (says_tuple p) h e = tuple-length o p h
short-by o q no_origin h e = let z : ◌≡◌ {A = ℕ} 0 1 = cc in absurd (omega arith)

tuple-short : (o : List ℕ) (x : Option OriginText) (q : TupleRange) → x ≡ origin_as (origin_of o) → x ≡ Some (said.Tuple q) → length o ≤ origin_bytes
tuple-short o x q read e = short-by o q (origin_of o) refl (sym e ∙ read)

pub said-short : (o : List ℕ) (x : Option OriginText) (y : OriginText) (q : TupleRange) → x ≡ origin_as (origin_of o) → x ≡ Some y → y ≡ said.Tuple q → length o ≤ origin_bytes
said-short o x y q read e f = tuple-short o x q read (e ∙ ap Some f)

opaque-kept : (n : ℕ) → KeptOrigin [] n (opaque n)
opaque-kept n = record { bytes = refl; number = refl; reads = rw text-empty refl }

tuple_at : (o t : List ℕ) (q : TupleRange) (x : OriginSaid) (own : Origin) (n : ℕ) → origin_of o ≡ x → (Some (said.Tuple q)) ≡ origin_as x → t ≡ o → KeptOrigin t 0 (arrives_at x own n) × (origin_in t (range.Tuple q) ≡ arrives_at x own n)
tuple_at o t q says_empty own n h e c = both cc
  where
    both : ◌≡◌ {A = ℕ} 0 1 → KeptOrigin t 0 own × (origin_in t (range.Tuple q) ≡ own)
    both z = absurd (omega arith)
tuple_at o t q says_null own n h e c = let z : ◌≡◌ {A = ℕ} 0 1 = cc in absurd (omega arith)
tuple_at o t q (says_tuple p) own n h e c =
    let w : q ≡ tuple_range p = cc in
    rw c (record { bytes = tuple-text o p h; number = refl; reads = rw h refl }, rw w (ap tuple (tuple-range o p h)))
tuple_at o t q no_origin own n h e c = let z : ◌≡◌ {A = ℕ} 0 1 = cc in absurd (omega arith)

-- a text at the front of an array
module _ (t text : List ℕ) where
  room_of : text ≡ filled origin_bytes t → length text ≡ origin_bytes
  room_of e = ap length e ∙ filled-long origin_bytes t

  module _ (short : length t ≤ origin_bytes) (e : text ≡ filled origin_bytes t) where
    front : take (length t) text ≡ t
    front = ap (take (length t)) e ∙ filled-front origin_bytes t short

    rest-of : text ≡ filled origin_bytes (take (length t) text)
    rest-of = e ∙ ap (filled origin_bytes) (sym front)

-- `arrive`, return by return
module _ (o own : List ℕ) (k : ℕ) (container : OriginRange) (n : ℕ) (x : Option OriginText) (read : x ≡ origin_as (origin_of o)) where
  pub arrived-empty : (y : OriginText) (text : List ℕ) → x ≡ Some y → y ≡ said.Empty → length own ≤ origin_bytes → text ≡ filled origin_bytes own → k < 2 ^ 32 → Arrives o own k container n (record { text = text; length = length own; number = k; origin = container })
  arrived-empty y text e f short c small =
      record {
        says = λ z kept here. rw (arrives-empty (origin_of o) z n (sym (e ∙ ap Some f) ∙ read)) (record { kept = rw (front own text short c) kept; here = rw (front own text short c) here });
        short = short;
        room = room_of own text c;
        small = small;
        rest = rest-of own text short c;
      }

  opaque-here : (text : List ℕ) → ((y : Origin) → arrives_at (origin_of o) y n ≡ opaque n) → text ≡ replicate origin_bytes 0 → n < 2 ^ 32 → Arrives o own k container n (record { text = text; length = 0; number = n; origin = range.Opaque n })
  opaque-here text at zeros small =
      record {
        says = λ y kept here. rw (at y) (record { kept = opaque-kept n; here = refl });
        short = omega arith;
        room = ap length zeros ∙ length-replicate {A = ℕ} origin_bytes 0;
        small = small;
        rest = zeros ∙ filled_none origin_bytes;
      }

  pub arrived-null : (y : OriginText) (r : Arrival) → x ≡ Some y → y ≡ said.Null → IsOpaque n r → n < 2 ^ 32 → Arrives o own k container n r
  arrived-null y r e f is small = rw is (opaque-here (replicate origin_bytes 0) (λ z. arrives-null (origin_of o) z n (sym (e ∙ ap Some f) ∙ read)) refl small)

  pub arrived-none : (r : Arrival) → x ≡ None → IsOpaque n r → n < 2 ^ 32 → Arrives o own k container n r
  arrived-none r e is small = rw is (opaque-here (replicate origin_bytes 0) (λ z. arrives-none (origin_of o) z n (sym e ∙ read)) refl small)

  pub arrived-tuple : (y : OriginText) (q : TupleRange) (text : List ℕ) → x ≡ Some y → y ≡ said.Tuple q → text ≡ filled origin_bytes o → Arrives o own k container n (record { text = text; length = length o; number = 0; origin = range.Tuple q })
  arrived-tuple v q text g f c =
      let e : x ≡ Some (said.Tuple q) = g ∙ ap Some f in
      record {
        says = λ y kept here. (let w = tuple_at o (take (length o) text) q (origin_of o) y n refl (sym e ∙ read) (front o text (tuple-short o x q read e) c) in record { kept = w.0; here = w.1 });
        short = tuple-short o x q read e;
        room = room_of o text c;
        small = omega arith;
        rest = rest-of o text (tuple-short o x q read e) c;
      }
