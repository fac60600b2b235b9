-- Where no semicolon stands nothing is read; else turn by turn.
use Rattle.ascii.proofs.Reading.{lows, highs}
use Rattle.items.specs.Items.{params_of}
use Rattle.items.proofs.Absent.{params_none}
use Rattle.items.proofs.params.Goals as goal

pub returns-then-byte-ne59 : goal.returns-then-byte-ne59
returns-then-byte-ne59 c = record { is = search params_none; from = omega lows; upto = omega highs }

pub returns : goal.returns
unfolding params_of
returns c = c.turns.ensures
