-- `add_key` is right: the separator, the name and `=` are added one after the other.
use Rattle.tidying.proofs.Members.{key-parts}
use Rattle.tidying.proofs.Text.add_key.Goals as goal

pub returns : goal.returns
returns c = search key-parts
