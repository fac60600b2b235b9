-- `load_numbers` is right: each arm is a case of the definition.
use Rattle.speed_exports.proofs.Answers.{load-malformed, load-good, load-refused}
use Rattle.speed_exports.proofs.load_numbers.Goals as goal

pub returns-then-d : goal.returns-then-d
returns-then-d c = search load-malformed

pub returns-else-d : goal.returns-else-d
returns-else-d c = search load-good

pub returns-in-Err : goal.returns-in-Err
returns-in-Err c = search load-refused
