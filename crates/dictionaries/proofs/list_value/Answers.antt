-- The items are read up to ")", and the parameters from the place past it.
use Rattle.std.proofs.Common.{◌≡◌, Some, None}
use Rattle.ascii.proofs.Reading.{reads, lows, highs}
use Rattle.dictionaries.specs.Dictionaries.{inner_of, list_of}
use Rattle.dictionaries.proofs.Values.{rest-closed, value-after, value-unread, list-ranged}
use Rattle.dictionaries.proofs.list_value.Goals as goal

pub returns-in_err-q : goal.returns-in_err-q
unfolding inner_of list_of
returns-in_err-q c =
    let n : c.turns.result ≡ None = c.in_err-q.was in
    rw c.from_residual.ensures (record { is = search value-unread; left = search (reads, rest-closed) depth 9 fits 20000; from = omega lows; upto = omega highs })

pub returns : goal.returns
unfolding inner_of list_of
returns c =
    let eq : c.turns.result ≡ Some c.in_ok-q.q = c.in_ok-q.was in
    record { is = value-after _ _ _ c.turns.ensures.is _ _ _ eq (λ xs h. c.with_params.ensures.is _ _ (list-ranged _ _ c.requires xs)); left = search (reads, rest-closed) depth 9 fits 20000; from = omega lows; upto = omega highs }
