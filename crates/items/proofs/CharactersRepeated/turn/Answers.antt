-- Each answer follows the tests of the one or two bytes in the order of the definition.
use Rattle.std.proofs.Common.{◌≢◌, ◌+◌, ◌<◌, length, refl}
use Rattle.ascii.specs.Bytes.{is_text}
use Rattle.ascii.proofs.Reading.{class-within, goings, lows, highs}
use Rattle.items.specs.Items.{is_escaped, string_turn}
use Rattle.items.proofs.CharactersRepeated.turn.Goals as goal

pub returns-then-e : goal.returns-then-e
unfolding string_turn
returns-then-e c =
    let h : c.args.at + 1 < length c.args.s.now = class-within is_escaped c.args.s.now (c.args.at + 1) c.byte-e.result _ c.byte-e.ensures.there refl refl c.if-e.true in
    record { is = search goings depth 9 fits 20000; past = omega lows; from = omega lows; upto = omega highs }

pub returns-else-e : goal.returns-else-e
unfolding string_turn
returns-else-e c = record { is = search goings depth 9 fits 20000; past = omega lows; from = omega lows; upto = omega highs }

pub returns-then-b-eq34 : goal.returns-then-b-eq34
unfolding string_turn
returns-then-b-eq34 c =
    let n : c.byte-b.result ≢ 92 = omega lows in
    record { is = search goings depth 9 fits 20000; past = omega lows; from = omega lows; upto = omega highs }

pub returns-then-is_text : goal.returns-then-is_text
unfolding string_turn
returns-then-is_text c =
    let h : c.args.at < length c.args.s.now = class-within is_text c.args.s.now c.args.at c.byte-b.result c.is_text.result c.byte-b.ensures.there refl c.is_text.ensures (search goings) in
    record { is = search goings depth 9 fits 20000; past = omega lows; from = omega lows; upto = omega highs }

pub returns-else-is_text : goal.returns-else-is_text
unfolding string_turn
returns-else-is_text c = record { is = search goings depth 9 fits 20000; past = omega lows; from = omega lows; upto = omega highs }
