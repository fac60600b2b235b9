-- `speed_load_top` is right: the numbers are the model's.
use Rattle.speed_exports.proofs.Answers.{loads-by}
use Rattle.speed_exports.proofs.speed_load_top.Goals as goal

pub returns : goal.returns
returns c = search loads-by
