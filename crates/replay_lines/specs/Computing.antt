-- One name to compute with: to unfold it is to unfold every definition of this crate and of the crates below.
use Rattle.ascii.specs.Computing.{computing as ascii-computing}
use Rattle.origins.specs.Computing.{computing as origins-computing}
use Rattle.replay_lines.specs.Format.{hex_value, with_byte, decoded, is_number, number_of, mark_of, sandboxed, sandbox_of, name_of, says, of_fields, given, attributes_at, top_row, frame_row, unload_row, ask_row, enabled_row, beneath_row, forecast_row, tidy_row, call_of, line_of}
use Rattle.replay_lines.specs.Reading.{keep_byte, field_byte, next_field, read_on, kept_sandbox, kept_says, line_from}
use Rattle.replay_lines.specs.Answers.{kept_in, field_in, fields_from, reading_of, said_in}

unfoldable pub computing : Unit {0}
unfolding ascii-computing origins-computing hex_value with_byte decoded is_number number_of mark_of sandboxed sandbox_of name_of says of_fields given attributes_at top_row frame_row unload_row ask_row enabled_row beneath_row forecast_row tidy_row call_of line_of keep_byte field_byte next_field read_on kept_sandbox kept_says line_from kept_in field_in fields_from reading_of said_in
computing = tt
