-- `entry_admits` is right: words after the feature make the list, and without one it is what no words mean.
use Rattle.pieces.proofs.Listing.{entry-words, entry-self, entry-src}
use Rattle.pieces.proofs.entry_admits.Goals as goal

pub returns-in-Some : goal.returns-in-Some
returns-in-Some c = search entry-words

pub returns-in-SelfOrigin : goal.returns-in-SelfOrigin
returns-in-SelfOrigin c = search entry-self

pub returns-in-SrcOrigin : goal.returns-in-SrcOrigin
returns-in-SrcOrigin c = search entry-src
