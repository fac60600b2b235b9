-- `settle_member` is right: a key is one feature's name, or none's.
use Rattle.std.proofs.Common.{rules}
use Rattle.settling.proofs.Members.{known-below, known-settles, unknown-settles}
use Rattle.settling.proofs.settle_member.Goals as goal

pub settle_feature-requires : goal.settle_feature-requires
settle_feature-requires c = (search rules, search known-below)

pub returns-in-Some : goal.returns-in-Some
returns-in-Some c = search known-settles

pub returns-in-None : goal.returns-in-None
returns-in-None c = search unknown-settles
