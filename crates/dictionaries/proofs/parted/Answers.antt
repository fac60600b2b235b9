-- Blanks, the end or a comma, and blanks again, as the definition reads them.
use Rattle.ascii.proofs.Reading.{goings, lows, highs}
use Rattle.dictionaries.specs.Dictionaries.{parted_of}
use Rattle.dictionaries.proofs.Values.{parted-more, parted-done, parted-none, past_end, past_more}
use Rattle.dictionaries.proofs.parted.Goals as goal

pub returns-then-s-e : goal.returns-then-s-e
unfolding parted_of
returns-then-s-e c = record { is = parted-done _ _ _ (search (goings, past_end, past_more) depth 9 fits 20000); from = omega lows; upto = omega highs }

pub returns-then-byte-ne44 : goal.returns-then-byte-ne44
unfolding parted_of
returns-then-byte-ne44 c = record { is = parted-none _ _ (search (goings, past_end, past_more) depth 9 fits 20000); from = omega lows; upto = omega highs }

pub returns-then-s-q : goal.returns-then-s-q
unfolding parted_of
returns-then-s-q c = record { is = parted-none _ _ (search (goings, past_end, past_more) depth 9 fits 20000); from = omega lows; upto = omega highs }

pub returns : goal.returns
unfolding parted_of
returns c = record { is = parted-more _ _ _ (search (goings, past_end, past_more) depth 9 fits 20000); from = omega lows; upto = omega highs }
