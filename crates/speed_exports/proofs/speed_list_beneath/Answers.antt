-- `speed_list_beneath` is right: the numbers are the model's.
use Rattle.speed_exports.proofs.Answers.{lists-by}
use Rattle.speed_exports.proofs.speed_list_beneath.Goals as goal

pub returns : goal.returns
returns c = search lists-by
