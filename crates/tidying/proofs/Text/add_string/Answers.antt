-- `add_string` is right: a separator, a quote, the normal form and a quote are added one after the other.
use Rattle.tidying.proofs.Listing.{string-parts}
use Rattle.tidying.proofs.Text.add_string.Goals as goal

pub returns : goal.returns
returns c = search string-parts
