-- A key is read, and from the place past it the value.
use Rattle.std.proofs.Common.{◌≡◌, Some, None}
use Rattle.ascii.proofs.Reading.{reads, lows, highs}
use Rattle.dictionaries.specs.Dictionaries.{member_of}
use Rattle.dictionaries.proofs.Members.{members, value-left, value_none, value_low, value-high}
use Rattle.dictionaries.proofs.member_at.Goals as goal

pub returns-in_err-to : goal.returns-in_err-to
returns-in_err-to c =
    let n : c.key.result ≡ None = c.in_err-to.was in
    rw c.from_residual.ensures (record { is = search members; left = unfold member_of in (search (reads) depth 9 fits 20000); past = omega lows; upto = omega highs })

pub returns-in_err-value : goal.returns-in_err-value
returns-in_err-value c =
    let eto : c.key.result ≡ Some c.in_ok-to.to = c.in_ok-to.was in
    let n : c.assigned.result ≡ None = c.in_err-value.was in
    rw c.from_residual-in_err-value.ensures (record { is = search members; left = unfold member_of in (search (reads, value_none) depth 9 fits 20000); past = omega lows; upto = omega highs })

pub returns : goal.returns
returns c =
    let eto : c.key.result ≡ Some c.in_ok-to.to = c.in_ok-to.was in
    let evalue : c.assigned.result ≡ Some c.in_ok-value.value = c.in_ok-value.was in
    record { is = search members; left = unfold member_of in (search (reads, value-left) depth 9 fits 20000); past = omega (lows, value_low); upto = omega (highs, value-high) }
