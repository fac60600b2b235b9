-- `speed_unload` is right: the numbers are the model's.
use Rattle.speed_exports.proofs.Answers.{unloads-by}
use Rattle.speed_exports.proofs.speed_unload.Goals as goal

pub returns : goal.returns
returns c = search unloads-by
