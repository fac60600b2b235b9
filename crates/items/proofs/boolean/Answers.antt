-- Each answer follows the tests of the two bytes in the order of the definition.
use Rattle.std.proofs.Common.{◌+◌, ◌<◌, length, refl}
use Rattle.ascii.proofs.Reading.{class-within, reads, lows, highs}
use Rattle.items.specs.Items.{is_truth, boolean_of}
use Rattle.items.proofs.boolean.Goals as goal

pub returns-then-byte-ne63 : goal.returns-then-byte-ne63
unfolding boolean_of
returns-then-byte-ne63 c = record { is = search reads depth 9 fits 20000; past = omega lows; upto = omega highs }

pub returns-then-b : goal.returns-then-b
unfolding boolean_of
returns-then-b c =
    let h : c.args.at + 1 < length c.args.s.now = class-within is_truth c.args.s.now (c.args.at + 1) c.byte-b.result _ c.byte-b.ensures.there refl refl c.if-b.true in
    record { is = search reads depth 9 fits 20000; past = omega lows; upto = omega highs }

pub returns-else-b : goal.returns-else-b
unfolding boolean_of
returns-else-b c = record { is = search reads depth 9 fits 20000; past = omega lows; upto = omega highs }
