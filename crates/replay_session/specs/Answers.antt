-- What a line's answer promises: the table, and every byte of the run.
use Rattle.std.specs.Prelude.{ℕ, ◌≡◌, List}
use Rattle.document_table.specs.Layout.{view}
use Rattle.documents.specs.Bytes.{bytes_left}
use Rattle.documents.specs.Answers.{Valid}
use Rattle.document_model.specs.Model.{Call, top_load, framed_load, unload, answer_to, table_left}
use Rattle.replay_answers.specs.Texts.{answer_text}
use Rattle.replay_answers.specs.Promises.{Says}
use Rattle.replay_lines.specs.Format.{Line}
use Rattle.replay_lines.specs.Format.Line.{top, frame, unload as unload_line, ask, enabled, beneath, forecast, tidy, bad_line}
use Rattle.document_loads.specs.declared.FrameMarks.{FrameMarks}
use Rattle.replay_lines.specs.declared.AttributeRanges.{AttributeRanges}
use Rattle.replay_session.specs.Session.{line_answer, line_table}

-- two of a frame's attributes, as the calls get them
abbrev pub marks_in : AttributeRanges → FrameMarks
marks_in a = record { allowfullscreen = a.fullscreen; has_sandbox = a.sandbox.stands }

-- a call that changes the table: its answer put at a place, and the bytes of the table that it leaves
pub record Makes (c : Call) (t u before : List ℕ) (at : ℕ) (after : List ℕ) (r : ℕ) : Type 0 where
  pub valid : Valid u
  pub table : view u ≡ table_left c (view t)
  pub bytes : u ≡ bytes_left c t
  pub says : Says before at (answer_text (answer_to c (view t))) after r

-- the bytes of the table after a line
unfoldable pub line_bytes : Line → List ℕ → List ℕ
line_bytes (top origin header) t = bytes_left (top_load header origin) t
line_bytes (frame container origin attributes header) t = bytes_left (framed_load container header origin attributes) t
line_bytes (unload_line serial) t = bytes_left (unload serial) t
line_bytes (ask serial feature origin) t = t
line_bytes (enabled serial) t = t
line_bytes (beneath serial room) t = t
line_bytes (forecast container attributes) t = t
line_bytes (tidy room header) t = t
line_bytes bad_line t = t

-- a line's answer put at a place, and the bytes of the table that it leaves
pub record Answers (l : Line) (t u before : List ℕ) (at : ℕ) (after : List ℕ) (r : ℕ) : Type 0 where
  pub valid : Valid u
  pub table : view u ≡ line_table l (view t)
  pub bytes : u ≡ line_bytes l t
  pub says : Says before at (line_answer l (view t)) after r
