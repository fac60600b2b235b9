-- A token starts with a byte of its first class, and goes on as long as bytes of its class follow.
use Rattle.std.proofs.Common.{◌<◌, length, refl}
use Rattle.ascii.specs.Bytes.{is_token_start}
use Rattle.ascii.proofs.Reading.{class-within, reads, lows, highs}
use Rattle.items.specs.Items.{token_of}
use Rattle.items.proofs.token.Goals as goal

pub returns-then-not-is_token_start : goal.returns-then-not-is_token_start
unfolding token_of
returns-then-not-is_token_start c = record { is = search reads depth 9 fits 20000; past = omega lows; upto = omega highs }

pub returns : goal.returns
unfolding token_of
returns c =
    let h : c.args.at < length c.args.s.now = class-within is_token_start c.args.s.now c.args.at c.byte.result c.is_token_start.result c.byte.ensures.there refl c.is_token_start.ensures (search reads) in
    record { is = search reads depth 9 fits 20000; past = omega lows; upto = omega highs }
