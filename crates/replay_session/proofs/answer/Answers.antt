-- `answer` is right: each arm is a line of the format.
use Rattle.std.proofs.Common.{◌∙◌, ap}
use Rattle.std.specs.Prelude.{Some}
use Rattle.replay_session.proofs.Answering.{answers-top, answers-frame, answers-unload, answers-ask, answers-enabled, answers-beneath, answers-forecast, answers-tidy, answers-bad}
use Rattle.replay_session.proofs.answer.Goals as goal

pub returns-in_default : goal.returns-in_default
returns-in_default c = search answers-bad

pub returns-in-Top : goal.returns-in-Top
returns-in-Top c = search (answers-top, c.in-Some.is ∙ ap Some c.in-Top.is)

pub returns-in-Frame : goal.returns-in-Frame
returns-in-Frame c = search (answers-frame, c.in-Some.is ∙ ap Some c.in-Frame.is)

pub returns-in-Unload : goal.returns-in-Unload
returns-in-Unload c = search (answers-unload, c.in-Some.is ∙ ap Some c.in-Unload.is)

pub returns-in-Ask : goal.returns-in-Ask
returns-in-Ask c = search (answers-ask, c.in-Some.is ∙ ap Some c.in-Ask.is)

pub returns-in-Enabled : goal.returns-in-Enabled
returns-in-Enabled c = search (answers-enabled, c.in-Some.is ∙ ap Some c.in-Enabled.is)

pub returns-in-Beneath : goal.returns-in-Beneath
returns-in-Beneath c = search (answers-beneath, c.in-Some.is ∙ ap Some c.in-Beneath.is)

pub returns-in-Forecast : goal.returns-in-Forecast
returns-in-Forecast c = search (answers-forecast, c.in-Some.is ∙ ap Some c.in-Forecast.is)

pub returns-in-Tidy : goal.returns-in-Tidy
returns-in-Tidy c = search (answers-tidy, c.in-Some.is ∙ ap Some c.in-Tidy.is)
