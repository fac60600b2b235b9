-- The parameters are read from the place past the value.
use Rattle.std.proofs.Common.{◌≡◌, Some, None}
use Rattle.ascii.proofs.Reading.{lows, highs}
use Rattle.items.proofs.Ranges.{left-at, left-none}
use Rattle.dictionaries.proofs.Values.{closed-some, closed-none}
use Rattle.dictionaries.proofs.with_params.Goals as goal

pub returns-in_err-to : goal.returns-in_err-to
returns-in_err-to c =
    let n : c.params.result ≡ None = c.in_err-to.was in
    rw c.from_residual.ensures (record { is = λ v l e. search closed-none; left = search (left-at, left-none); from = omega lows; upto = omega highs })

pub returns : goal.returns
returns c =
    let eto : c.params.result ≡ Some c.in_ok-to.to = c.in_ok-to.was in
    record { is = λ v l e. search closed-some; left = search (left-at, left-none); from = omega lows; upto = omega highs }
