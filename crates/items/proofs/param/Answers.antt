-- Spaces, a key, and a value where "=" follows, as the definition reads them.
use Rattle.std.proofs.Common.{◌≡◌, Some, None}
use Rattle.ascii.proofs.Reading.{reads, lows, highs}
use Rattle.items.specs.Items.{param_of}
use Rattle.items.proofs.param.Goals as goal

pub returns-in_err-q : goal.returns-in_err-q
unfolding param_of
returns-in_err-q c =
    let n : c.key.result ≡ None = c.in_err-q.was in
    rw c.from_residual.ensures (record { is = search reads depth 9 fits 20000; past = omega lows; upto = omega highs })

pub returns-then-byte-eq61 : goal.returns-then-byte-eq61
unfolding param_of
returns-then-byte-eq61 c =
    let e : c.key.result ≡ Some c.in_ok-q.q = c.in_ok-q.was in
    record { is = search reads depth 9 fits 20000; past = omega lows; upto = omega highs }

pub returns-else-byte-eq61 : goal.returns-else-byte-eq61
unfolding param_of
returns-else-byte-eq61 c =
    let e : c.key.result ≡ Some c.in_ok-q.q = c.in_ok-q.was in
    record { is = search reads depth 9 fits 20000; past = omega lows; upto = omega highs }
