-- Spaces, and the end of the list or an item, as the definition reads them.
use Rattle.std.proofs.Common.{◌≡◌, Some, None}
use Rattle.ascii.proofs.Reading.{goings, lows, highs}
use Rattle.dictionaries.specs.Dictionaries.{inner_turn}
use Rattle.dictionaries.proofs.InnerLists.{next_low, next-high}
use Rattle.dictionaries.proofs.Values.{turn-item, turn-none}
use Rattle.dictionaries.proofs.InnerItemsRepeated.turn.Goals as goal

pub returns-then-byte-eq41 : goal.returns-then-byte-eq41
returns-then-byte-eq41 c =
    record { is = unfold inner_turn in (search goings depth 9 fits 20000); past = omega (lows, next_low); from = omega lows; upto = omega (highs, next-high) }

pub returns-in_err-q : goal.returns-in_err-q
returns-in_err-q c =
    let n : c.inner_item.result ≡ None = c.in_err-q.was in
    rw c.from_residual.ensures (record { is = search turn-none; past = omega (lows, next_low); from = omega lows; upto = omega (highs, next-high) })

pub returns : goal.returns
returns c =
    let eq : c.inner_item.result ≡ Some c.in_ok-q.field-0 = c.in_ok-q.was in
    record { is = search turn-item; past = omega (lows, next_low); from = omega lows; upto = omega (highs, next-high) }
