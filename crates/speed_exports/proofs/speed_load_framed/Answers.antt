-- `speed_load_framed` is right: the numbers are the model's.
use Rattle.speed_exports.proofs.Answers.{framed_by}
use Rattle.speed_exports.proofs.speed_load_framed.Goals as goal

pub returns : goal.returns
returns c = search framed_by
