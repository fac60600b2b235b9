-- The replay format: what a line answers on a table of documents, and the table that it leaves.
use Rattle.std.specs.Prelude.{replicate}
use Rattle.tidying.specs.Tidied.{tidied}
use Rattle.tidying.specs.Answers.{Answer as TidyAnswer, length_is, refusal, tidy_answer}
use Rattle.document_model.specs.Model.{Text, Table, top_load, framed_load, unload, question, enabled_features, listing, forecast_of, answer_to, table_left}
use Rattle.replay_answers.specs.Texts.{answer_text, refused_text, tidied_text, bad_line_text}
use Rattle.replay_lines.specs.Format.{Line}
use Rattle.replay_lines.specs.Format.Line.{top, frame, unload as unload_line, ask, enabled, beneath, forecast, tidy, bad_line}

-- "tidied TEXT" or "refused N", for a header and a lent run of so many bytes
abbrev pub tidy_line_text : TidyAnswer → Text → Text
tidy_line_text (length_is n) form = tidied_text form
tidy_line_text (refusal n) form = refused_text n

-- "Answers, a line each"; "ROOM is the length of the lent run."
unfoldable pub line_answer : Line → Table → Text
line_answer (top origin header) t = answer_text (answer_to (top_load header origin) t)
line_answer (frame container origin attributes header) t = answer_text (answer_to (framed_load container header origin attributes) t)
line_answer (unload_line serial) t = answer_text (answer_to (unload serial) t)
line_answer (ask serial feature origin) t = answer_text (answer_to (question serial feature origin) t)
line_answer (enabled serial) t = answer_text (answer_to (enabled_features serial) t)
line_answer (beneath serial room) t = answer_text (answer_to (listing serial (replicate room 0)) t)
line_answer (forecast container attributes) t = answer_text (answer_to (forecast_of container attributes) t)
line_answer (tidy room header) t = tidy_line_text (tidy_answer header room) (tidied header)
line_answer bad_line t = bad_line_text

-- the calls that change the table; "A bad line is found before any refusal and changes nothing."
unfoldable pub line_table : Line → Table → Table
line_table (top origin header) t = table_left (top_load header origin) t
line_table (frame container origin attributes header) t = table_left (framed_load container header origin attributes) t
line_table (unload_line serial) t = table_left (unload serial) t
line_table (ask serial feature origin) t = t
line_table (enabled serial) t = t
line_table (beneath serial room) t = t
line_table (forecast container attributes) t = t
line_table (tidy room header) t = t
line_table bad_line t = t
