-- `add_list` is right: the parts of an inner list are added one after the other, `self` first.
use Rattle.tidying.proofs.Members.{value-list}
use Rattle.tidying.proofs.add_list.Goals as goal

pub returns : goal.returns
returns c = search value-list
