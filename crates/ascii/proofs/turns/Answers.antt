use Rattle.std.proofs.Common.{◌≡◌, ◌∙◌, ap, Some, None}
use Rattle.ascii.specs.declared.Turn.TheVariants as turn
use Rattle.ascii.proofs.Looping.{loops}
use Rattle.ascii.proofs.Reading.{lows, highs}
use Rattle.ascii.proofs.turns.Goals as goal

pub loop-q-init : goal.loop-q-init
loop-q-init g c = search loops

pub returns-in_err-q : goal.returns-in_err-q
returns-in_err-q g c =
    let t : c.turn.result ≡ None = c.in_err-q.was in
    rw c.from_residual.ensures (record { is = search loops; from = omega lows; upto = omega highs })

pub loop-q-smaller : goal.loop-q-smaller
loop-q-smaller g c =
    let t : c.turn.result ≡ Some (turn.More c.in-More.q) = c.in_ok-q.was ∙ ap Some c.in-More.is in
    omega lows

pub loop-q-preserved : goal.loop-q-preserved
loop-q-preserved g c =
    let t : c.turn.result ≡ Some (turn.More c.in-More.q) = c.in_ok-q.was ∙ ap Some c.in-More.is in
    (omega lows, omega highs, search loops)

pub returns-in-Done : goal.returns-in-Done
returns-in-Done g c =
    let t : c.turn.result ≡ Some (turn.Done c.in-Done.q) = c.in_ok-q.was ∙ ap Some c.in-Done.is in
    record { is = search loops; from = omega lows; upto = omega highs }
