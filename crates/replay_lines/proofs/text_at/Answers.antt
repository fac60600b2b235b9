-- `text_at` is right: the range is the front of the bytes kept, one more than the limit at most.
use Rattle.replay_lines.proofs.FieldReadings.{text-some, text-none}
use Rattle.replay_lines.proofs.text_at.Goals as goal

pub returns-then-is_whole : goal.returns-then-is_whole
returns-then-is_whole c = search text-some

pub returns-else-is_whole : goal.returns-else-is_whole
returns-else-is_whole c = search text-none
