-- A bare item is read, and its parameters from the place past it; the range is the bare item's.
use Rattle.std.proofs.Common.{◌≡◌, Some, None}
use Rattle.ascii.proofs.Reading.{reads, lows, highs}
use Rattle.items.specs.Items.{item_of}
use Rattle.items.proofs.Ranges.{wholes, left-at, left-none, end-found, end_none, past-item}
use Rattle.items.proofs.item.Goals as goal

pub returns-in_err-bare : goal.returns-in_err-bare
unfolding item_of
returns-in_err-bare c =
    let n : c.bare_item.result ≡ None = c.in_err-bare.was in
    rw c.from_residual.ensures (record { is = search wholes; left = search (reads, left-none, end_none); past = omega lows; upto = omega highs })

pub returns-in_err-next : goal.returns-in_err-next
unfolding item_of
returns-in_err-next c =
    let e : c.bare_item.result ≡ Some c.in_ok-bare.bare = c.in_ok-bare.was in
    let n : c.params.result ≡ None = c.in_err-next.was in
    rw c.from_residual-in_err-next.ensures (record { is = search wholes; left = search (reads, left-none, end-found, end_none); past = omega lows; upto = omega highs })

pub returns : goal.returns
unfolding item_of
returns c =
    let e : c.bare_item.result ≡ Some c.in_ok-bare.bare = c.in_ok-bare.was in
    let f : c.params.result ≡ Some c.in_ok-next.next = c.in_ok-next.was in
    record { is = search wholes; left = search (reads, left-at, end-found); past = search past-item; upto = omega highs }
