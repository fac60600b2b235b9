-- `decimal` is right: at each place reading on from the number so far gives what the whole gives.
use Rattle.std.proofs.Common.{◌≡◌, ◌≤◌, drop}
use Rattle.ascii.specs.Decimals.{decimal_upto}
use Rattle.ascii.proofs.DecimalReading.{read_from}
use Rattle.ascii.proofs.decimal.Given as goal

abbrev pub invariant-loop-b : goal.invariant-loop-b
invariant-loop-b l = (l.n ≤ l.most) × (read_from l.most l.n (drop l.b-index l.digits) ≡ decimal_upto l.most l.digits)
