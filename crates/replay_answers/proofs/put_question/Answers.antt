-- `put_question` is right: each arm puts the text of its case.
use Rattle.std.proofs.Common.{◌∙◌, ap}
use Rattle.std.specs.Prelude.{Ok}
use Rattle.replay_answers.proofs.Answering.{questions, question-enabled, question-disabled}
use Rattle.replay_answers.proofs.put_question.Goals as goal

pub returns-in-Err : goal.returns-in-Err
returns-in-Err c = search questions

pub returns-in-Enabled : goal.returns-in-Enabled
returns-in-Enabled c = question-enabled _ _ _ _ _ (c.in-Ok.is ∙ ap Ok c.in-Enabled.is) c.put.ensures

pub returns-in-Disabled : goal.returns-in-Disabled
returns-in-Disabled c = question-disabled _ _ _ _ _ (c.in-Ok.is ∙ ap Ok c.in-Disabled.is) c.put-in-Disabled.ensures
