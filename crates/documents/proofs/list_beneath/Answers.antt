-- `list_beneath` is right: each return is a row of the definition.
use Rattle.std.proofs.Common.{arith, rules}
use Rattle.documents.proofs.Answering.{valid-ascends, small-listing, answered-listing, refused-listing}
use Rattle.documents.proofs.list_beneath.Goals as goal

pub find-requires : goal.find-requires
find-requires c = search valid-ascends

pub returns-in_default : goal.returns-in_default
returns-in_default c = (search refused-listing, omega arith)

pub returns-then-out-n : goal.returns-then-out-n
returns-then-out-n c = (search small-listing, omega arith)

pub returns : goal.returns
returns c = (search answered-listing, search rules)
