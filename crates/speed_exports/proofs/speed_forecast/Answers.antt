-- `speed_forecast` is right: the numbers are the model's.
use Rattle.speed_exports.proofs.Answers.{forecast-by}
use Rattle.speed_exports.proofs.speed_forecast.Goals as goal

pub returns : goal.returns
returns c = search forecast-by
