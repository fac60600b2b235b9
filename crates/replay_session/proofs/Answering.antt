-- What each line answers, in the terms of the code. Assumes nothing.
use Rattle.documents.specs.declared.LoadedDocument.{LoadedDocument}
use Rattle.limits.specs.declared.Refusal.{Refusal}
use Rattle.std.specs.Prelude.{Result}
use Rattle.std.specs.Prelude.{Option, Some, None}
use mathlib.Core.Path.{◌≡◌, refl, ap, ◌∙◌, subst}
use Prim.Native.Nat.{ℕ, min}
use mathlib.Core.List.{List}
use native.Mathlib.Omega.{arith}
use lib.ListN.{length, take, replicate}
use lib.Seq.{length-take-le}
use Prim.Native.Nat.{◌≤◌}
use Rattle.limits.specs.Limits.{document_limit, text_bytes}
use Rattle.ascii.specs.Texts.{part_in}
use Rattle.tidying.specs.Tidied.{tidied}
use Rattle.tidying.specs.Answers.{Answer as TidyOutcome, tidy_answer, IsTidied}
use Rattle.tidying.proofs.Rooms.{answer-room}
use Rattle.document_model.specs.Model.{Text, Call, top_load, framed_load, unload, question, enabled_features, listing, forecast_of, Answer, answer_to}
use Rattle.document_table.specs.Layout.{view}
use Rattle.document_loads.specs.declared.FrameMarks.{FrameMarks}
use Rattle.document_loads.specs.Loads.{attributes}
use Rattle.documents.specs.Answers.{Valid, load_in, unload_in, listing_in, Loads, Unloads, Lists}
use Rattle.replay_answers.specs.Texts.{answer_text, tidy_text, bad_line_text}
use Rattle.replay_answers.specs.Promises.{Says, SaysOf}
use Rattle.replay_lines.specs.Format.Line.{beneath}
use Rattle.replay_lines.specs.Answers.{attributes_in, line_in}
use Rattle.replay_lines.specs.declared.Line.{Line as LineRead}
use Rattle.replay_lines.specs.declared.Line.TheVariants as read
use Rattle.replay_lines.specs.declared.AttributeRanges.{AttributeRanges}
use Rattle.replay_lines.specs.declared.TopLine.{TopLine}
use Rattle.replay_lines.specs.declared.FrameLine.{FrameLine}
use Rattle.replay_lines.specs.declared.AskLine.{AskLine}
use Rattle.replay_lines.specs.declared.BeneathLine.{BeneathLine}
use Rattle.replay_lines.specs.declared.ForecastLine.{ForecastLine}
use Rattle.replay_lines.specs.declared.TidyLine.{TidyLine}
use Rattle.replay_session.specs.Session.{tidy_line_text, line_answer, line_table}
use Rattle.replay_session.specs.Answers.{marks_in, Makes, line_bytes, Answers}
use Rattle.replay_session.proofs.Rooms.{room-listed, tidy-shown}

module _ (before after : List ℕ) (at to : ℕ) where
  -- an answer that is the model's
  pub says_is : (y x : Answer) → y ≡ x → Says before at (answer_text y) after to → Says before at (answer_text x) after to
  says_is y x e h = subst (λ (z : Answer). Says before at (answer_text z) after to) e h

  -- calls that change the table
  pub makes-load : (c : Call) (t u : List ℕ) (r : Result LoadedDocument Refusal) → Loads c t u r → Says before at (answer_text (load_in r)) after to → Makes c t u before at after to
  makes-load c t u r h s = record { valid = h.valid; table = h.table; bytes = h.bytes; says = says_is (load_in r) (answer_to c (view t)) h.answer s }

  pub makes-unload : (c : Call) (t u : List ℕ) (r : Result ℕ Refusal) → Unloads c t u r → Says before at (answer_text (unload_in r)) after to → Makes c t u before at after to
  makes-unload c t u r h s = record { valid = h.valid; table = h.table; bytes = h.bytes; says = says_is (unload_in r) (answer_to c (view t)) h.answer s }

  -- with texts of the line
  pub makes-top : (texts : List ℕ) (l : TopLine) (t u : List ℕ) (h o : Text) (r : Result LoadedDocument Refusal) → h ≡ part_in texts l.header → o ≡ part_in texts l.origin → Loads (top_load h o) t u r → Says before at (answer_text (load_in r)) after to
      → Makes (top_load (part_in texts l.header) (part_in texts l.origin)) t u before at after to
  makes-top texts l t u h o r e f loads s = rw (← e, ← f) (makes-load (top_load h o) t u r loads s)

  pub asked-line : (texts : List ℕ) (l : AskLine) (t : List ℕ) (o : Text) (y : Answer) → o ≡ part_in texts l.origin → y ≡ answer_to (question l.serial l.feature o) (view t) → Says before at (answer_text y) after to
      → Says before at (answer_text (answer_to (question l.serial l.feature (part_in texts l.origin)) (view t))) after to
  asked-line texts l t o y e f s = rw (← e) (says_is y (answer_to (question l.serial l.feature o) (view t)) f s)

  -- outputs into a lent run
  pub listed_is : (s : ℕ) (t : List ℕ) (run run' : List ℕ) (a : Result ℕ Refusal) → Lists (listing s run) t run run' a → length run ≤ document_limit → length run' ≡ length run → SaysOf document_limit run' before at (answer_text (listing_in a run')) after to → Says before at (answer_text (answer_to (listing s run) (view t))) after to
  listed_is s t run run' a h le e p = says_is (listing_in a run') (answer_to (listing s run) (view t)) h.answer (record { puts = p.puts; short = p.short (omega arith) })

  pub beneath-is : (t : List ℕ) (s room n : ℕ) → Valid t → n ≡ min room document_limit → Says before at (answer_text (answer_to (listing s (take n (replicate document_limit 0))) (view t))) after to → Says before at (line_answer (beneath s room) (view t)) after to
  unfolding line_answer
  beneath-is t s room n valid e p = subst (λ (x : List ℕ). Says before at x after to) (room-listed t s room n valid e) p

  pub tidied-is : (s run run' : List ℕ) (a : Result ℕ Refusal) → IsTidied s run run' a → length run ≤ text_bytes → length run' ≡ length run → SaysOf text_bytes run' before at (tidy_text a run') after to → Says before at (tidy_line_text (tidy_answer s (length run)) (tidied s)) after to
  tidied-is s run run' a h le e p = subst (λ (x : List ℕ). Says before at x after to) (tidy-shown s run run' a h) (record { puts = p.puts; short = p.short (omega arith) })

  pub tidy-is : (texts : List ℕ) (l : TidyLine) (h : List ℕ) (n : ℕ) → h ≡ part_in texts l.header → n ≡ min l.room text_bytes → Says before at (tidy_line_text (tidy_answer h (length (take {A = ℕ} n (replicate text_bytes 0)))) (tidied h)) after to
      → Says before at (tidy_line_text (tidy_answer (part_in texts l.header) l.room) (tidied (part_in texts l.header))) after to
  tidy-is texts l h n e f p =
      let long : length {A = ℕ} (take n (replicate text_bytes 0)) ≡ n = length-take-le n (replicate text_bytes 0) (omega arith) in
      rw (← e) (subst (λ (x : TidyOutcome). Says before at (tidy_line_text x (tidied h)) after to) (ap (tidy_answer h) (long ∙ f) ∙ answer-room h l.room) p)

-- ---- lines

module _ (texts : List ℕ) (line : Option LineRead) (t before after : List ℕ) (at to : ℕ) where
  pub answers-top : (l : TopLine) (u : List ℕ) → line ≡ Some (read.Top l) → Makes (top_load (part_in texts l.header) (part_in texts l.origin)) t u before at after to → Answers (line_in texts line) t u before at after to
  unfolding line_answer line_table line_bytes
  answers-top l u e m = rw e (record { valid = m.valid; table = m.table; bytes = m.bytes; says = m.says })

  pub answers-frame : (l : FrameLine) (u : List ℕ) → line ≡ Some (read.Frame l) → Makes (framed_load l.container (part_in texts l.header) (part_in texts l.origin) (attributes_in texts l.attributes)) t u before at after to → Answers (line_in texts line) t u before at after to
  unfolding line_answer line_table line_bytes
  answers-frame l u e m = rw e (record { valid = m.valid; table = m.table; bytes = m.bytes; says = m.says })

  pub answers-unload : (s : ℕ) (u : List ℕ) → line ≡ Some (read.Unload s) → Makes (unload s) t u before at after to → Answers (line_in texts line) t u before at after to
  unfolding line_answer line_table line_bytes
  answers-unload s u e m = rw e (record { valid = m.valid; table = m.table; bytes = m.bytes; says = m.says })

  module _ (valid : Valid t) where
    pub answers-ask : (l : AskLine) → line ≡ Some (read.Ask l) → Says before at (answer_text (answer_to (question l.serial l.feature (part_in texts l.origin)) (view t))) after to → Answers (line_in texts line) t t before at after to
    unfolding line_answer line_table line_bytes
    answers-ask l e p = rw e (record { valid = valid; table = refl; bytes = refl; says = p })

    pub answers-enabled : (s : ℕ) → line ≡ Some (read.Enabled s) → Says before at (answer_text (answer_to (enabled_features s) (view t))) after to → Answers (line_in texts line) t t before at after to
    unfolding line_answer line_table line_bytes
    answers-enabled s e p = rw e (record { valid = valid; table = refl; bytes = refl; says = p })

    pub answers-beneath : (l : BeneathLine) → line ≡ Some (read.Beneath l) → Says before at (line_answer (beneath l.serial l.room) (view t)) after to → Answers (line_in texts line) t t before at after to
    unfolding line_table line_bytes
    answers-beneath l e p = rw e (record { valid = valid; table = refl; bytes = refl; says = p })

    pub answers-forecast : (l : ForecastLine) → line ≡ Some (read.Forecast l) → Says before at (answer_text (answer_to (forecast_of l.container (attributes_in texts l.attributes)) (view t))) after to → Answers (line_in texts line) t t before at after to
    unfolding line_answer line_table line_bytes
    answers-forecast l e p = rw e (record { valid = valid; table = refl; bytes = refl; says = p })

    pub answers-tidy : (l : TidyLine) → line ≡ Some (read.Tidy l) → Says before at (tidy_line_text (tidy_answer (part_in texts l.header) l.room) (tidied (part_in texts l.header))) after to → Answers (line_in texts line) t t before at after to
    unfolding line_answer line_table line_bytes
    answers-tidy l e p = rw e (record { valid = valid; table = refl; bytes = refl; says = p })

    pub answers-bad : line ≡ None → Says before at bad_line_text after to → Answers (line_in texts line) t t before at after to
    unfolding line_answer line_table line_bytes
    answers-bad e s = rw e (record { valid = valid; table = refl; bytes = refl; says = s })
