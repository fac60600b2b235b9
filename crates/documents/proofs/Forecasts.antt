-- What each return of a forecast answers, in the terms of the code. Assumes nothing.
use Rattle.std.specs.Prelude.{Some, None}
use Rattle.std.specs.Prelude.{Option, is_some}
use mathlib.Core.Path.{◌≡◌, refl, ap, sym, ◌∙◌}
use Prim.Native.Nat.{ℕ, ◌≤◌, ◌<◌}
use mathlib.Core.List.{List}
use mathlib.Core.Bool.{Bool, true, false, ◌&&◌, not}
use lib.ListN.{length}
use borrow.Author.Tests.{le-leb, lt-leb}
use Rattle.limits.specs.Limits.{text_bytes}
use Rattle.limits.specs.declared.Refusal.TheVariants.{NotLoaded, BadOrigin, TooLong}
use Rattle.origins.specs.Origins.{Origin, origin_of}
use Rattle.origins.specs.Answers.{origin_as}
use Rattle.origins.specs.declared.OriginText.{OriginText}
use Rattle.decisions.specs.Policies.{Policy, Frame, forecast}
use Rattle.document_records.specs.Slots.{document_in, slot_policy}
use Rattle.document_records.proofs.Laws.{document-sandboxed, document-origin}
use Rattle.document_model.specs.Model.{Document, policy_of, frame_of, is_short, forecast_of, refused, features, accept, refuse, answer_to}
use Rattle.containers.specs.Attributes.{Attributes}
use Rattle.containers.specs.Policies.{container_policy}
use Rattle.document_model.proofs.Parts.{frame-declared}
use Rattle.document_model.proofs.RowByRow.{answer-of, forecast-long, forecast-bad, forecast-closed, forecast-answer}
use Rattle.document_table.specs.Layout.{serial_at, doc_at, view}
use Rattle.document_table.specs.Tables.{IsFound, IsSlot}
use Rattle.document_loads.specs.declared.FrameMarks.{FrameMarks}
use Rattle.document_loads.specs.Loads.{attributes, Foretells}
use Rattle.documents.proofs.Answering.{good-is, slot-document, slot-is-policy}

-- a frame's policy and declared origin don't ask for the container's serial
frame-serial : (m n : ℕ) (c : List ℕ) (a : Attributes) → frame_of (document_in m c).identity a ≡ frame_of (document_in n c).identity a
frame-serial m n c a =
    ap {B = Frame} (λ (o : Origin). record { allowed = container_policy a; declared = o })
    (frame-declared (document_in m c).identity a
    ∙ (rw (document-sandboxed m c, document-origin m c) (sym (frame-declared (document_in n c).identity a ∙ rw (document-sandboxed n c, document-origin n c) refl))))

module _ (t : List ℕ) (s : ℕ) (allow : List ℕ) (marks : FrameMarks) (sandbox src : List ℕ) where
  pub forecast_allow : text_bytes < length allow → refused 4 ≡ answer_to (forecast_of s (attributes allow marks sandbox src)) (view t)
  forecast_allow h =
      let a = attributes allow marks sandbox src in
      sym (answer-of (forecast_of s a) (view t) (refuse TooLong) (forecast-long s a (view t) (rw (lt-leb (length allow) text_bytes h))))

  module _ (fits : length allow ≤ text_bytes) where
    pub forecast_sandbox : text_bytes < length sandbox → refused 4 ≡ answer_to (forecast_of s (attributes allow marks sandbox src)) (view t)
    forecast_sandbox h =
        let a = attributes allow marks sandbox src in
        sym (answer-of (forecast_of s a) (view t) (refuse TooLong) (forecast-long s a (view t) (rw (le-leb (length allow) text_bytes fits, lt-leb (length sandbox) text_bytes h))))

    module _ (too : length sandbox ≤ text_bytes) where
      short : is_short allow && is_short sandbox ≡ true
      short = rw (le-leb (length allow) text_bytes fits, le-leb (length sandbox) text_bytes too)

      module _ (x : Option OriginText) (b : Bool) (read : x ≡ origin_as (origin_of src)) (tested : is_some x ≡ not b) where
        pub forecast-origin : b ≡ true → refused 3 ≡ answer_to (forecast_of s (attributes allow marks sandbox src)) (view t)
        forecast-origin k =
            let a = attributes allow marks sandbox src in
            sym (answer-of (forecast_of s a) (view t) (refuse BadOrigin) (forecast-bad s a (view t) short (good-is src x b true read tested k)))

        module _ (good : b ≡ false) (f : Option ℕ) (h : IsFound t s f) where
          pub refused-forecast : f ≡ None → refused 1 ≡ answer_to (forecast_of s (attributes allow marks sandbox src)) (view t)
          refused-forecast k =
              let a = attributes allow marks sandbox src in
              sym (answer-of (forecast_of s a) (view t) (refuse NotLoaded) (forecast-closed s a (view t) short (good-is src x b false read tested good) (h.none_at k)))

          pub answered-forecast : (i : ℕ) (c : List ℕ) (m : ℕ) → f ≡ Some i → IsSlot t i c → Foretells c (attributes allow marks sandbox src) m
              → features m ≡ answer_to (forecast_of s (attributes allow marks sandbox src)) (view t)
          answered-forecast i c m k e says =
              let a = attributes allow marks sandbox src in
              let same : frame_of (document_in 0 c).identity a ≡ frame_of (doc_at t i).identity a = sym (ap (λ (d : Document). frame_of d.identity a) (slot-document t c i e) ∙ frame-serial (serial_at t i) 0 c a) in
              ap features (says ∙ (ap (forecast (slot_policy c)) same ∙ ap (λ (p : Policy). forecast p (frame_of (doc_at t i).identity a)) (sym (slot-is-policy t c i e))))
              ∙ sym (answer-of (forecast_of s a) (view t) (accept (features (forecast (policy_of (doc_at t i)) (frame_of (doc_at t i).identity a))) (view t)) (forecast-answer s a (view t) short (good-is src x b false read tested good) (doc_at t i) (h.some_at i k).1))
