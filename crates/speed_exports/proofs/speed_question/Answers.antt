-- `speed_question` is right: the numbers are the model's.
use Rattle.speed_exports.proofs.Answers.{question-by}
use Rattle.speed_exports.proofs.speed_question.Goals as goal

pub returns : goal.returns
returns c = search question-by
