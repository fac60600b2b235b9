-- `new_numbers` is right: each arm is a case of the definition.
use Rattle.speed_exports.proofs.Answers.{new_told, new-refused}
use Rattle.speed_exports.proofs.new_numbers.Goals as goal

pub returns-in-Err : goal.returns-in-Err
returns-in-Err c = search new-refused
