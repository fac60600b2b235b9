-- `features_numbers` is right: each arm is a case of the definition.
use Rattle.speed_exports.proofs.Answers.{features-told, features-refused}
use Rattle.speed_exports.proofs.features_numbers.Goals as goal

pub returns-in-Ok : goal.returns-in-Ok
returns-in-Ok c = search features-told

pub returns-in-Err : goal.returns-in-Err
returns-in-Err c = search features-refused
