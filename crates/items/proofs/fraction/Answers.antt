-- The length of the run of digits is the difference of its two ends.
use Rattle.ascii.proofs.Reading.{reads, lows, highs}
use Rattle.items.specs.Items.{fraction_of}
use Rattle.items.proofs.fraction.Goals as goal

pub returns-then-e-at : goal.returns-then-e-at
unfolding fraction_of
returns-then-e-at c = record { is = search reads depth 9 fits 20000; past = omega lows; upto = omega highs }

pub returns-then-n-le3 : goal.returns-then-n-le3
unfolding fraction_of
returns-then-n-le3 c = record { is = search reads depth 9 fits 20000; past = omega lows; upto = omega highs }

pub returns-else-n-le3 : goal.returns-else-n-le3
unfolding fraction_of
returns-else-n-le3 c = record { is = search reads depth 9 fits 20000; past = omega lows; upto = omega highs }
