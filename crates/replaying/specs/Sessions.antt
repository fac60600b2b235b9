-- What a session is between two lines, and what the end of a line does.
use Rattle.std.specs.Prelude.{ℕ, ◌+◌, ◌≤◌, ◌<◌, ◌≡◌, List, [], ◌∷◌, ◌++◌, length, Option, Some, None}
use Rattle.writing.specs.Writing.{with_text}
use Rattle.document_model.specs.Model.{Text}
use Rattle.document_table.specs.Layout.{table_bytes, view}
use Rattle.documents.specs.Answers.{Valid}
use Rattle.replay_answers.specs.Texts.{answer_bytes}
use Rattle.replay_lines.specs.Format.{Line}
use Rattle.replay_lines.specs.Reading.{Reading, new_reading, line_from}
use Rattle.replay_lines.specs.Answers.{reading_in}
use Rattle.replay_session.specs.Session.{line_answer, line_table}
use Rattle.replay_session.specs.Answers.{line_bytes}
use Rattle.replay_lines.specs.declared.LineState.{LineState}
use Rattle.replaying.specs.declared.Session.{Session}

-- answers are gathered in so many bytes
abbrev pub out_bytes : ℕ
out_bytes = answer_bytes + 1529

-- the table is one that the calls left, and any answer and its line feed have room behind the answers that wait: so none is cut
pub record Ready (run : List ℕ) (waiting : ℕ) : Type 0 where
  pub valid : Valid run
  pub room : waiting + answer_bytes < out_bytes

-- the line that was read, and its answer with the line feed
abbrev pub line_read : List ℕ → LineState → Line
line_read texts l = line_from (reading_in texts l)

abbrev pub answer_line : List ℕ → List ℕ → LineState → Text
answer_line run texts l = line_answer (line_read texts l) (view run) ++ (10 ∷ [])

-- what was read of the line; where none has begun, what a new line starts with
abbrev pub line_begun : List ℕ → Option LineState → Reading
line_begun texts None = new_reading
line_begun texts (Some l) = reading_in texts l

-- a line ends: its answer stands behind those that waited, and waits, or all were written or couldn't be; its table is the next line's; and the next line is new
pub record Ends (run : List ℕ) (l : LineState) (waiting : ℕ) (texts left before after : List ℕ) (r : Session) : Type 0 where
  pub ready : Ready left r.waiting
  pub table : view left ≡ line_table (line_read texts l) (view run)
  pub bytes : left ≡ line_bytes (line_read texts l) run
  pub answer : after ≡ with_text before waiting (answer_line run texts l)
  pub waits : (r.waiting ≡ 0 → ⊥) → r.waiting ≡ waiting + length (answer_line run texts l)
  pub line : (x : List ℕ) → line_begun x r.line ≡ new_reading

-- a session in a lent run: one that is too short stays as it was, any other holds a table that calls left; which calls these are is read, and no contract can say it
pub record Replayed (before after : List ℕ) : Type 0 where
  pub short : length before < table_bytes → after ≡ before
  pub valid : table_bytes ≤ length before → Valid after
