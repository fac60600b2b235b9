-- The tests of the first byte are those of the definition, in its order.
use Rattle.ascii.proofs.Reading.{reads, lows, highs}
use Rattle.items.specs.Items.{bare_of}
use Rattle.items.proofs.bare.Goals as goal

pub returns-then-b-eq34 : goal.returns-then-b-eq34
unfolding bare_of
returns-then-b-eq34 c = record { is = search reads depth 9 fits 20000; past = omega lows; upto = omega highs }

pub returns-then-is_token_start : goal.returns-then-is_token_start
unfolding bare_of
returns-then-is_token_start c = record { is = search reads depth 9 fits 20000; past = omega lows; upto = omega highs }

pub returns-then-is_number_start : goal.returns-then-is_number_start
unfolding bare_of
returns-then-is_number_start c = record { is = search reads depth 9 fits 20000; past = omega lows; upto = omega highs }

pub returns-then-b-eq58 : goal.returns-then-b-eq58
unfolding bare_of
returns-then-b-eq58 c = record { is = search reads depth 9 fits 20000; past = omega lows; upto = omega highs }

pub returns-then-b-eq63 : goal.returns-then-b-eq63
unfolding bare_of
returns-then-b-eq63 c = record { is = search reads depth 9 fits 20000; past = omega lows; upto = omega highs }

pub returns : goal.returns
unfolding bare_of
returns c = record { is = search reads depth 9 fits 20000; past = omega lows; upto = omega highs }
