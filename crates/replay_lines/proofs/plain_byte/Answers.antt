-- `plain_byte` is right: a `%` is marked, any other byte is kept.
use Rattle.replay_lines.proofs.FieldStates.{byte-percent, byte-plain}
use Rattle.replay_lines.proofs.plain_byte.Goals as goal

pub returns-then-b-eq37 : goal.returns-then-b-eq37
returns-then-b-eq37 c = search byte-percent

pub returns-else-b-eq37 : goal.returns-else-b-eq37
returns-else-b-eq37 c = search byte-plain
