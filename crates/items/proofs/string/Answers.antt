-- Past the first quote the rest of the string is read by turns.
use Rattle.ascii.proofs.Reading.{reads, lows, highs}
use Rattle.items.specs.Items.{string_of}
use Rattle.items.proofs.string.Goals as goal

pub returns-then-byte-ne34 : goal.returns-then-byte-ne34
unfolding string_of
returns-then-byte-ne34 c = record { is = search reads depth 9 fits 20000; past = omega lows; upto = omega highs }

pub returns : goal.returns
unfolding string_of
returns c = record { is = search reads depth 9 fits 20000; past = omega lows; upto = omega highs }
