-- Every document of a table that calls left is one whose parts are read back out of a slot: a law of the model, for every list of calls. Assumes nothing.
use mathlib.Core.Path.{◌≡◌, refl, ap, sym, ◌∙◌}
use Prim.Native.Nat.{ℕ, ◌≤◌, ◌<◌, ◌^◌}
use native.Mathlib.Omega.{arith}
use mathlib.Core.List.{List, [], ◌∷◌}
use lib.ListN.{length}
use Rattle.lent_bytes.specs.Numbers.{numbers_in, number_bytes}
use Rattle.lent_bytes.proofs.Laws.{bytes-none, bytes-more, numbers-none, numbers_more}
use Rattle.origins.specs.Origins.{Origin, OriginSaid, origin_of}
use Rattle.origins.specs.Origins.Origin.{opaque}
use Rattle.origins.specs.Origins.OriginSaid.{says_empty, says_null, says_tuple, no_origin}
use Rattle.origins.specs.NormalForms.{origin_text}
use Rattle.origins.proofs.Laws.{tuple-length, tuple-text, text-empty}
use Rattle.containers.specs.Attributes.{Attributes}
use Rattle.document_model.specs.Model.{Text, Identity, Document, Table, new_table, arrives_at, Call, Answer, top_identity, framed_identity, top_document, framed_document, table_after}
use Rattle.document_model.proofs.Laws.{table_is, history-induction}
use Rattle.document_model.proofs.Parts.{top-identity, framed-identity, top-document, framed-document}
use Rattle.document_model.proofs.Tables.{In, in-push, in-remaining}
use Rattle.document_model.proofs.Effects.{Effect, nothing_else, top_loaded, frame_loaded, all_removed}
use Rattle.document_records.specs.Slots.{origin_bytes, origin_by}
use Rattle.document_loads.proofs.Written.{OriginFits}

-- an opaque origin, and whatever origin a load arrives at
opaque-fits : (n : ℕ) → n < 2 ^ 32 → OriginFits (opaque n)
opaque-fits n h = record { text = omega arith; reads = rw text-empty refl; number = h }

arrives-fits : (o : Text) (x : OriginSaid) (own : Origin) (n : ℕ) → origin_of o ≡ x → n < 2 ^ 32 → OriginFits own → OriginFits (arrives_at x own n)
arrives-fits o says_empty own n e h k = k
arrives-fits o says_null own n e h k = opaque-fits n h
arrives-fits o (says_tuple p) own n e h k =
    let t : o ≡ origin_text p = tuple-text o p e in
    let q : origin_of (origin_text p) ≡ says_tuple p = ap origin_of (sym t) ∙ e in
    let l : length o ≤ origin_bytes = tuple-length o p e in
    record { text = omega (arith, ap length t); reads = ap (λ (y : OriginSaid). origin_by y 0) q; number = omega arith }
arrives-fits o no_origin own n e h k = opaque-fits n h

-- what of a document has room in a slot but for how deep it is
pub record Fit (i : Identity) : Type 0 where
  pub serial : i.serial < 2 ^ 32
  pub listed : numbers_in (number_bytes i.above) ≡ i.above
  pub origin : OriginFits i.origin

pub top-fit : (o : Text) (n : ℕ) → n < 2 ^ 32 → Fit (top_identity (origin_of o) n)
top-fit o n h =
    rw (top-identity (origin_of o) n)
    (record { serial = h; listed = ap numbers_in bytes-none ∙ numbers-none; origin = arrives-fits o (origin_of o) (opaque n) n refl h (opaque-fits n h) })

pub framed-fit : (c : Identity) (a : Attributes) (o : Text) (n : ℕ) → n < 2 ^ 32 → Fit c → Fit (framed_identity c a (origin_of o) n)
framed-fit c a o n h f =
    let listed : numbers_in (number_bytes (c.serial ∷ c.above)) ≡ c.serial ∷ c.above =
    ap numbers_in (bytes-more c.serial c.above) ∙ (numbers_more c.serial (number_bytes c.above) f.serial ∙ ap (λ (l : List ℕ). c.serial ∷ l) f.listed) in
    rw (framed-identity c a (origin_of o) n)
    (record { serial = h; listed = listed; origin = arrives-fits o (origin_of o) c.origin n refl h f.origin })

abbrev FitDocument : Document → Type 0
FitDocument d = Fit d.identity

abbrev AllFit : Table → Type 0
AllFit t = (d : Document) → In d t.docs → Fit d.identity

effect-fit : (t u : Table) (c : Call) (a : Answer) → AllFit t → Effect t c a u → AllFit u
effect-fit t u c a f (nothing_else g v l r) = f
effect-fit t u c a f (top_loaded h o m p q) =
    in-push FitDocument t.docs (top_document h (top_identity (origin_of o) t.next)) f (rw (top-document h (top_identity (origin_of o) t.next)) (top-fit o t.next (omega arith)))
effect-fit t u c a f (frame_loaded k h o b m d i e p q) =
    in-push FitDocument t.docs (framed_document d h b (framed_identity d.identity b (origin_of o) t.next)) f
    (rw (framed-document d h b (framed_identity d.identity b (origin_of o) t.next)) (framed-fit d.identity b o t.next (omega arith) (f d i)))
effect-fit t u c a f (all_removed s) = λ d m. f d (in-remaining s t.docs d m).was

new-fit : AllFit new_table
new-fit d m = elim m [ ]

pub all_fit : (cs : List Call) (d : Document) → In d (table_after cs).docs → Fit d.identity
all_fit cs = rw (table_is cs) (history-induction (λ es t. AllFit t) (λ es t u c a f e. effect-fit t u c a f e) cs new_table [] new-fit)
