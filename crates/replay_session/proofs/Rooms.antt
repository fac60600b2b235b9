-- A lent run of more places than an output can need is as good as one of just so many. Assumes nothing.
use Rattle.limits.specs.declared.Refusal.{Refusal}
use Rattle.std.specs.Prelude.{Result, Ok, Err}
use mathlib.Core.Path.{◌≡◌, refl, ap, ◌∙◌, sym}
use Prim.Native.Nat.{ℕ, min, ◌≤◌, ◌<◌}
use mathlib.Core.List.{List, ◌++◌}
use mathlib.Core.Bool.{Bool, true, false}
use Rattle.std.specs.Prelude.{Option, Some, None}
use native.Mathlib.Omega.{arith}
use lib.ListN.{length, take, drop, replicate, length-replicate}
use lib.Dec.{leb}
use lib.Seq.{take-append-le, take_all, length-take-le}
use borrow.Author.Tests.{leb-true, leb-false}
use Rattle.limits.specs.Limits.{document_limit}
use Rattle.limits.specs.Refusals.{refusal_number}
use Rattle.limits.specs.declared.Refusal.TheVariants.{NotLoaded, Small}
use Rattle.tidying.specs.Tidied.{tidied}
use Rattle.tidying.specs.Answers.{Answer as TidyOutcome, length_is, refusal, tidy_answer, IsTidied}
use Rattle.tidying.proofs.Rooms.{answer-length, run-accepted}
use Rattle.document_model.specs.Model.{Document, Table as ModelTable, find, serials_beneath, stored, listing, serials, refuse, accept, answer_to}
use Rattle.document_model.proofs.Laws.{beneath-fewer}
use Rattle.document_model.proofs.Parts.{stored_is}
use Rattle.document_model.proofs.RowByRow.{answer-of, listing-closed, listing-small, listing-answer}
use Rattle.document_table.specs.Layout.{docs_in, view}
use Rattle.document_table.proofs.Laws.{docs-length}
use Rattle.documents.specs.Answers.{Valid}
use Rattle.replay_answers.specs.Texts.{answer_text, beneath_text, tidied_text, tidy_text}
use Rattle.replay_answers.proofs.Laws.{listing-text, tidied-text, tidy-refused}
use Rattle.replay_session.specs.Session.{tidy_line_text}

-- ---- a listing

-- the text shows the serials alone
shown : (l run : List ℕ) → answer_text (serials (length l) (stored l run)) ≡ beneath_text (length l) l
shown l run =
    let le : length l ≤ length l = omega arith in
    listing-text (length l) (stored l run) ∙ ap (beneath_text (length l)) (ap (take (length l)) (stored_is l run) ∙ (take-append-le (length l) l (drop (length l) run) le ∙ take_all (length l) l le))

module _ (t : ModelTable) (s : ℕ) (a b : List ℕ) (wide : length (serials_beneath s t.docs) ≤ length a → length (serials_beneath s t.docs) ≤ length b) (back : length (serials_beneath s t.docs) ≤ length b → length (serials_beneath s t.docs) ≤ length a) where
  found-room : (o : Option Document) → find s t.docs ≡ o → answer_text (answer_to (listing s a) t) ≡ answer_text (answer_to (listing s b) t)
  found-room None e = ap answer_text (answer-of (listing s a) t (refuse NotLoaded) (listing-closed s a t e) ∙ sym (answer-of (listing s b) t (refuse NotLoaded) (listing-closed s b t e)))
  found-room (Some d) e = go (leb (length (serials_beneath s t.docs)) (length a)) refl
    where
      go : (x : Bool) → leb (length (serials_beneath s t.docs)) (length a) ≡ x → answer_text (answer_to (listing s a) t) ≡ answer_text (answer_to (listing s b) t)
      go true k =
          let le : length (serials_beneath s t.docs) ≤ length a = leb-true (length (serials_beneath s t.docs)) (length a) k in
          let l = serials_beneath s t.docs in
          ap answer_text (answer-of (listing s a) t (accept (serials (length l) (stored l a)) t) (listing-answer s a t d e le))
          ∙ (shown l a ∙ (sym (shown l b) ∙ sym (ap answer_text (answer-of (listing s b) t (accept (serials (length l) (stored l b)) t) (listing-answer s b t d e (wide le))))))
      go false k =
          let lt : length a < length (serials_beneath s t.docs) = leb-false (length (serials_beneath s t.docs)) (length a) k in
          let less : length b < length (serials_beneath s t.docs) = too_short lt in
          ap answer_text (answer-of (listing s a) t (refuse Small) (listing-small s a t d e lt) ∙ sym (answer-of (listing s b) t (refuse Small) (listing-small s b t d e less)))
        where
          too_short : length a < length (serials_beneath s t.docs) → length b < length (serials_beneath s t.docs)
          too_short lt = short (leb (length (serials_beneath s t.docs)) (length b)) refl
            where
              short : (y : Bool) → leb (length (serials_beneath s t.docs)) (length b) ≡ y → length b < length (serials_beneath s t.docs)
              short true q = absurd (omega (arith, lt, back (leb-true (length (serials_beneath s t.docs)) (length b) q)))
              short false q = leb-false (length (serials_beneath s t.docs)) (length b) q

-- ROOM places, or as many as there can be documents
pub room-listed : (t : List ℕ) (s room n : ℕ) → Valid t → n ≡ min room document_limit → answer_text (answer_to (listing s (take n (replicate document_limit 0))) (view t)) ≡ answer_text (answer_to (listing s (replicate room 0)) (view t))
room-listed t s room n valid e =
    let few : length (serials_beneath s (docs_in t)) ≤ document_limit = omega (arith, beneath-fewer s (docs_in t), docs-length t, valid.sound.count) in
    let a : length {A = ℕ} (take n (replicate document_limit 0)) ≡ n = length-take-le n (replicate document_limit 0) (omega arith) in
    let b : length {A = ℕ} (replicate room 0) ≡ room = length-replicate room 0 in
    found-room (view t) s (take n (replicate document_limit 0)) (replicate room 0) (λ h. omega arith) (λ h. omega arith) (find s (docs_in t)) refl

-- ---- tidying

take-front : (t rest : List ℕ) (n : ℕ) → n ≡ length t → take n (t ++ rest) ≡ t
take-front t rest n e =
    let le : n ≤ length t = omega arith in
    let ge : length t ≤ n = omega arith in
    take-append-le n t rest le ∙ take_all n t ge

-- the text of tidying's answer, by the header and the lent run's length
pub tidy-shown : (s run after : List ℕ) (a : Result ℕ Refusal) → IsTidied s run after a → tidy_text a after ≡ tidy_line_text (tidy_answer s (length run)) (tidied s)
tidy-shown s run after (Ok n) h =
    let e : length_is n ≡ tidy_answer s (length run) = h.answer in
    let f : after ≡ tidied s ++ drop n run = h.bytes ∙ run-accepted n (tidied s) run in
    tidied-text n after
    ∙ (ap (λ (l : List ℕ). tidied_text (take n l)) f
    ∙ (ap tidied_text (take-front (tidied s) (drop n run) n (answer-length s (length run) n e)) ∙ ap (λ (x : TidyOutcome). tidy_line_text x (tidied s)) e))
tidy-shown s run after (Err n) h =
    let e : refusal (refusal_number n) ≡ tidy_answer s (length run) = h.answer in
    tidy-refused n after ∙ ap (λ (x : TidyOutcome). tidy_line_text x (tidied s)) e
