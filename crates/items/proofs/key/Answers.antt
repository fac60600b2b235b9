-- A key starts with a byte of its first class, and goes on as long as bytes of its class follow.
use Rattle.std.proofs.Common.{◌<◌, length, refl}
use Rattle.ascii.specs.Bytes.{is_key_start}
use Rattle.ascii.proofs.Reading.{class-within, reads, lows, highs}
use Rattle.items.specs.Items.{key_of}
use Rattle.items.proofs.key.Goals as goal

pub returns-then-not-is_key_start : goal.returns-then-not-is_key_start
unfolding key_of
returns-then-not-is_key_start c = record { is = search reads depth 9 fits 20000; past = omega lows; upto = omega highs }

pub returns : goal.returns
unfolding key_of
returns c =
    let h : c.args.at < length c.args.s.now = class-within is_key_start c.args.s.now c.args.at c.byte.result c.is_key_start.result c.byte.ensures.there refl c.is_key_start.ensures (search reads) in
    record { is = search reads depth 9 fits 20000; past = omega lows; upto = omega highs }
