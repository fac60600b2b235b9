-- `settle_feature` is right: the value's expressions stand past the others, and the entry says so.
use Rattle.std.proofs.Common.{rules}
use Rattle.settling.proofs.Members.{feature-room, feature-start, feature-count, feature-settles}
use Rattle.settling.proofs.settle_feature.Goals as goal

pub put_entry-requires : goal.put_entry-requires
put_entry-requires c = (search feature-room, search (rules, feature-start), search feature-count)

pub returns : goal.returns
returns c = search feature-settles
