-- The run of the alphabet ends where the definition skips to, and there must be the second colon.
use Rattle.ascii.proofs.Reading.{reads, lows, highs}
use Rattle.items.specs.Items.{bytes_of}
use Rattle.items.proofs.byte_sequence.Goals as goal

pub returns-then-byte-ne58 : goal.returns-then-byte-ne58
unfolding bytes_of
returns-then-byte-ne58 c = record { is = search reads depth 9 fits 20000; past = omega lows; upto = omega highs }

pub returns-then-byte-ne58-2 : goal.returns-then-byte-ne58-2
unfolding bytes_of
returns-then-byte-ne58-2 c = record { is = search reads depth 9 fits 20000; past = omega lows; upto = omega highs }

pub returns : goal.returns
unfolding bytes_of
returns c = record { is = search reads depth 9 fits 20000; past = omega lows; upto = omega highs }
