-- `question_numbers` is right: each arm is a case of the definition.
use Rattle.std.proofs.Common.{◌∙◌, ap}
use Rattle.std.specs.Prelude.{Ok}
use Rattle.speed_exports.proofs.Answers.{question-enabled, question-disabled, question-refused}
use Rattle.speed_exports.proofs.question_numbers.Goals as goal

pub returns-in-Enabled : goal.returns-in-Enabled
returns-in-Enabled c = search (question-enabled, c.in-Ok.is ∙ ap Ok c.in-Enabled.is)

pub returns-in-Disabled : goal.returns-in-Disabled
returns-in-Disabled c = search (question-disabled, c.in-Ok.is ∙ ap Ok c.in-Disabled.is)

pub returns-in-Err : goal.returns-in-Err
returns-in-Err c = search question-refused
