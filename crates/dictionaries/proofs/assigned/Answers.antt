-- A value is read where "=" follows the key; else the key stands alone.
use Rattle.ascii.proofs.Reading.{reads, lows, highs}
use Rattle.dictionaries.specs.Dictionaries.{assigned_of}
use Rattle.dictionaries.proofs.Values.{values}
use Rattle.dictionaries.proofs.assigned.Goals as goal

pub returns-then-byte-eq61 : goal.returns-then-byte-eq61
unfolding assigned_of
returns-then-byte-eq61 c = record { is = search values; left = search reads depth 9 fits 20000; from = omega lows; upto = omega highs }

pub returns : goal.returns
unfolding assigned_of
returns c = record { is = search values; left = search reads depth 9 fits 20000; from = omega lows; upto = omega highs }
