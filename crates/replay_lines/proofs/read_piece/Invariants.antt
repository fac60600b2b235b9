-- `read_piece` is right: at each place reading on from the state gives what the whole piece gives.
use Rattle.std.proofs.Common.{◌≡◌, length, drop}
use Rattle.replay_lines.specs.Reading.{field_limit, line_bytes, read_on}
use Rattle.replay_lines.specs.Answers.{reading_of}
use Rattle.replay_lines.proofs.read_piece.Given as goal

abbrev pub invariant-loop-b : goal.invariant-loop-b
invariant-loop-b l = (length l.run ≡ line_bytes) × (length l.ended ≡ field_limit) × (read_on (reading_of l.run l.ended l.number l.field) (drop l.b-index l.piece) ≡ read_on (reading_of l.initial.run l.initial.ended l.initial.number l.initial.field) l.piece)
