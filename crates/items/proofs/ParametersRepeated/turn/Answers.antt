-- Without a semicolon nothing is read; past one a parameter is.
use Rattle.std.proofs.Common.{◌≡◌, Some, None}
use Rattle.ascii.proofs.Reading.{goings, lows, highs}
use Rattle.items.specs.Items.{param_turn}
use Rattle.items.proofs.ParametersRepeated.turn.Goals as goal

pub returns-then-byte-ne59 : goal.returns-then-byte-ne59
unfolding param_turn
returns-then-byte-ne59 c = record { is = search goings depth 9 fits 20000; past = omega lows; from = omega lows; upto = omega highs }

pub returns-in_err-q : goal.returns-in_err-q
unfolding param_turn
returns-in_err-q c =
    let n : c.param.result ≡ None = c.in_err-q.was in
    rw c.from_residual.ensures (record { is = search goings depth 9 fits 20000; past = omega lows; from = omega lows; upto = omega highs })

pub returns : goal.returns
unfolding param_turn
returns c =
    let e : c.param.result ≡ Some c.in_ok-q.q = c.in_ok-q.was in
    record { is = search goings depth 9 fits 20000; past = omega lows; from = omega lows; upto = omega highs }
