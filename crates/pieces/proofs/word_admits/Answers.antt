-- `word_admits` is right: what the word means, beside the word, is what admits.
use Rattle.pieces.proofs.Listing.{word-admitted}
use Rattle.pieces.proofs.word_admits.Goals as goal

pub returns : goal.returns
returns c = search word-admitted
