-- `word_at` is right: two bytes, the lower first, are the number.
use Rattle.std.proofs.Common.{rules}
use Rattle.settled.proofs.Reading.{word-is}
use Rattle.settled.proofs.word_at.Goals as goal

pub returns : goal.returns
returns c = (search word-is, search rules)
