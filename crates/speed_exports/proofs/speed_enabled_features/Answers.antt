-- `speed_enabled_features` is right: the numbers are the model's.
use Rattle.speed_exports.proofs.Answers.{features-by}
use Rattle.speed_exports.proofs.speed_enabled_features.Goals as goal

pub returns : goal.returns
returns c = search features-by
