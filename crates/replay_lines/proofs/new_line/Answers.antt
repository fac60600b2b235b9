-- `new_line` is right: no field has ended, and the one that is read is new.
use Rattle.ascii.specs.Bytes.{pick}
use Rattle.replay_lines.specs.Answers.{kept_in, field_in, fields_from, reading_of}
use Rattle.replay_lines.proofs.new_line.Goals as goal

pub returns : goal.returns
unfolding field_in fields_from kept_in pick reading_of
returns c = λ run. rw c.new_field-f.ensures
