-- `add_member` is right: each arm adds the parts of a member that the feature's list asks for.
use Rattle.tidying.proofs.Members.{member-none, member-all, member-list}
use Rattle.tidying.proofs.add_member.Goals as goal

pub returns-in_default : goal.returns-in_default
returns-in_default c = search member-none

pub returns-in-All : goal.returns-in-All
returns-in-All c = search member-all

pub returns-in-Listed : goal.returns-in-Listed
returns-in-Listed c = search member-list
