-- `add_source` is right: the test is whether an expression before has the same normal form.
use Rattle.tidying.proofs.Listing.{source-old, source-new}
use Rattle.tidying.proofs.Indexing.{kept}
use Rattle.tidying.proofs.add_source.Goals as goal

pub returns-then-old : goal.returns-then-old
returns-then-old c = (search source-old, search kept, search kept)

pub returns : goal.returns
returns c = (search source-new, search kept, search kept)
