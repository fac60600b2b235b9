-- `forecast` is right: each return is a row of the definition, in its order.
use Rattle.documents.proofs.Answering.{valid-ascends, found_below}
use Rattle.documents.proofs.Forecasts.{forecast_allow, forecast_sandbox, forecast-origin, answered-forecast, refused-forecast}
use Rattle.documents.proofs.forecast.Goals as goal

pub returns-then-allow-gt-TEXT_BYTES : goal.returns-then-allow-gt-TEXT_BYTES
returns-then-allow-gt-TEXT_BYTES c = search forecast_allow

pub returns-then-sandbox-gt-TEXT_BYTES : goal.returns-then-sandbox-gt-TEXT_BYTES
returns-then-sandbox-gt-TEXT_BYTES c = search forecast_sandbox

pub returns-then-is_none : goal.returns-then-is_none
returns-then-is_none c = search forecast-origin

pub find-requires : goal.find-requires
find-requires c = search valid-ascends

pub slot-requires : goal.slot-requires
slot-requires c = search found_below

pub returns : goal.returns
returns c = search answered-forecast

pub returns-in_default : goal.returns-in_default
returns-in_default c = search refused-forecast
