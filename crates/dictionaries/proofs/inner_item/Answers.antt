-- An item counts where a space or ")" follows it.
use Rattle.std.proofs.Common.{◌≡◌, Some, None}
use Rattle.ascii.proofs.Reading.{lows, highs}
use Rattle.items.proofs.Ranges.{found-low, found-high}
use Rattle.dictionaries.proofs.Values.{inners}
use Rattle.dictionaries.proofs.inner_item.Goals as goal

pub returns-in_err-found : goal.returns-in_err-found
returns-in_err-found c =
    let n : c.item.result ≡ None = c.in_err-found.was in
    rw c.from_residual.ensures (record { is = search inners; past = omega (lows, found-low, found-high); upto = omega (highs, found-high) })

pub returns-then-b : goal.returns-then-b
returns-then-b c =
    let efound : c.item.result ≡ Some c.in_ok-found.found = c.in_ok-found.was in
    record { is = search inners; past = omega (lows, found-low, found-high); upto = omega (highs, found-high) }

pub returns-else-b : goal.returns-else-b
returns-else-b c =
    let efound : c.item.result ≡ Some c.in_ok-found.found = c.in_ok-found.was in
    record { is = search inners; past = omega (lows, found-low, found-high); upto = omega (highs, found-high) }
