-- `unload` is right: each return is a row of the definition.
use Rattle.std.proofs.Common.{arith, rules}
use Rattle.documents.proofs.Answering.{valid-ascends, answered-unload, refused-unload}
use Rattle.documents.proofs.unload.Goals as goal

pub find-requires : goal.find-requires
find-requires c = search valid-ascends

pub returns : goal.returns
returns c = (search answered-unload, search rules)

pub returns-in_default : goal.returns-in_default
returns-in_default c = (search refused-unload, omega arith)
