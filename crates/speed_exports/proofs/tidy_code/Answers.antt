-- `tidy_code` is right: each arm is a case of the definition.
use Rattle.speed_exports.proofs.Codes.{tidy-refused}
use Rattle.speed_exports.proofs.tidy_code.Goals as goal

pub returns-in-Err : goal.returns-in-Err
returns-in-Err c = search tidy-refused
