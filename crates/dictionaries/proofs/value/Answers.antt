-- An inner list is read where "(" comes first, else an item.
use Rattle.ascii.proofs.Reading.{reads, lows, highs}
use Rattle.dictionaries.specs.Dictionaries.{value_of}
use Rattle.dictionaries.proofs.Values.{values}
use Rattle.dictionaries.proofs.value.Goals as goal

pub returns-then-byte-eq40 : goal.returns-then-byte-eq40
unfolding value_of
returns-then-byte-eq40 c = record { is = search values; left = search reads depth 9 fits 20000; from = omega lows; upto = omega highs }

pub returns : goal.returns
unfolding value_of
returns c = record { is = search values; left = search reads depth 9 fits 20000; from = omega lows; upto = omega highs }
