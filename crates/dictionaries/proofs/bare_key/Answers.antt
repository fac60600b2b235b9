-- No byte says the value; the parameters are read from the place past the key.
use Rattle.ascii.proofs.Reading.{reads, lows, highs}
use Rattle.dictionaries.specs.Dictionaries.{bare_key}
use Rattle.dictionaries.proofs.Values.{rest-closed, truth-ranged}
use Rattle.dictionaries.proofs.bare_key.Goals as goal

pub returns : goal.returns
unfolding bare_key
returns c =
    record { is = c.with_params.ensures.is _ _ (truth-ranged _ _ c.requires); left = search (reads, rest-closed) depth 9 fits 20000; from = omega lows; upto = omega highs }
