-- `literal` is right: a field without a `%` says what its bytes say.
use Rattle.replay_lines.proofs.FieldReadings.{literal-some, literal-none}
use Rattle.replay_lines.proofs.literal.Goals as goal

pub returns-then-is_literal : goal.returns-then-is_literal
returns-then-is_literal c = search literal-some

pub returns-else-is_literal : goal.returns-else-is_literal
returns-else-is_literal c = search literal-none
