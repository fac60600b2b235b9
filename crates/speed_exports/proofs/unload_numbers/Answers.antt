-- `unload_numbers` is right: each arm is a case of the definition.
use Rattle.speed_exports.proofs.Answers.{removed-few, unload-told, unload-refused}
use Rattle.speed_exports.proofs.unload_numbers.Goals as goal

pub narrow-requires : goal.narrow-requires
narrow-requires c = search removed-few

pub returns-in-Ok : goal.returns-in-Ok
returns-in-Ok c = search unload-told

pub returns-in-Err : goal.returns-in-Err
returns-in-Err c = search unload-refused
