-- `next_word` is right: a word is what stands between white bytes: it begins past those at the place and goes on to the next.
use Rattle.std.proofs.Common.{rules}
use Rattle.pieces.proofs.Cutting.{none-says, none-range, next-some}
use Rattle.pieces.proofs.next_word.Goals as goal

pub returns-then-s-from : goal.returns-then-s-from
returns-then-s-from c = record { says = search none-says; range = search none-range; past_it = search rules; upto = search rules }

pub returns : goal.returns
returns c = search next-some
