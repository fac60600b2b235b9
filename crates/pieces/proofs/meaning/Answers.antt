-- `meaning` is right: the fixed texts are tested in the order of the definition, and what is left is an expression or nothing.
use Rattle.pieces.proofs.Listing.{word-star, word-self, word-src, word_else}
use Rattle.pieces.proofs.meaning.Goals as goal

pub returns-then-same : goal.returns-then-same
returns-then-same c = search word-star

pub returns-then-same_lowered : goal.returns-then-same_lowered
returns-then-same_lowered c = search word-self

pub returns-then-same_lowered-2 : goal.returns-then-same_lowered-2
returns-then-same_lowered-2 c = search word-src

pub returns : goal.returns
returns c = search word_else
