-- The kind follows from the first byte, and what was read up to the end of the bare item stood there.
use Rattle.std.proofs.Common.{◌≡◌, Some, None}
use Rattle.ascii.proofs.Reading.{lows, highs}
use Rattle.items.proofs.Ranges.{founds, lefts}
use Rattle.items.proofs.bare_item.Goals as goal
use Rattle.items.proofs.bare_item.Goals.{then-b-eq34, else-b-eq34+then-is_token_start, else-b-eq34+else-is_token_start}

pub returns-in_err-next : goal.returns-in_err-next
returns-in_err-next c =
    let n : c.bare.result ≡ None = c.in_err-next.was in
    rw c.from_residual.ensures (record { is = search founds; left = search lefts; past = omega lows; upto = omega highs })

pub returns : goal.returns
returns c =
    let e : c.bare.result ≡ Some c.in_ok-next.next = c.in_ok-next.was in
    record {
      is =
          elim c.if-b-eq34.branch [
            | then-b-eq34 w ↦ rw w.kind-is (search founds)
            | else-b-eq34+then-is_token_start w ↦ rw w.kind-is (search founds)
            | else-b-eq34+else-is_token_start w ↦ rw w.kind-is (search founds)
          ];
      left = search lefts;
      past = omega lows;
      upto = omega highs;
    }
