-- The length of the run of digits is the difference of its two ends, and the byte past it says which limit holds.
use Rattle.ascii.proofs.Reading.{reads, lows, highs}
use Rattle.items.specs.Items.{unsigned_of}
use Rattle.items.proofs.unsigned.Goals as goal

pub returns-then-e-at : goal.returns-then-e-at
unfolding unsigned_of
returns-then-e-at c = record { is = search reads depth 9 fits 20000; past = omega lows; upto = omega highs }

pub returns-then-n-le12 : goal.returns-then-n-le12
unfolding unsigned_of
returns-then-n-le12 c = record { is = search reads depth 9 fits 20000; past = omega lows; upto = omega highs }

pub returns-then-byte-eq46 : goal.returns-then-byte-eq46
unfolding unsigned_of
returns-then-byte-eq46 c = record { is = search reads depth 9 fits 20000; past = omega lows; upto = omega highs }

pub returns-then-n-le-INTEGER_DIGITS : goal.returns-then-n-le-INTEGER_DIGITS
unfolding unsigned_of
returns-then-n-le-INTEGER_DIGITS c = record { is = search reads depth 9 fits 20000; past = omega lows; upto = omega highs }

pub returns-else-n-le-INTEGER_DIGITS : goal.returns-else-n-le-INTEGER_DIGITS
unfolding unsigned_of
returns-else-n-le-INTEGER_DIGITS c = record { is = search reads depth 9 fits 20000; past = omega lows; upto = omega highs }
