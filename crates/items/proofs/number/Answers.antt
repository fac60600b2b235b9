-- A sign is taken where one stands; the rest is a number without one.
use Rattle.ascii.proofs.Reading.{reads, lows, highs}
use Rattle.items.specs.Items.{number_of}
use Rattle.items.proofs.number.Goals as goal

pub returns-then-byte-eq45 : goal.returns-then-byte-eq45
unfolding number_of
returns-then-byte-eq45 c = record { is = search reads depth 9 fits 20000; past = omega lows; upto = omega highs }

pub returns : goal.returns
unfolding number_of
returns c = record { is = search reads depth 9 fits 20000; past = omega lows; upto = omega highs }
