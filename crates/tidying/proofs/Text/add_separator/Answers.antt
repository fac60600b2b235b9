-- `add_separator` is right: the test is whether a text stands before.
use Rattle.tidying.proofs.Growing.{maybe-yes, maybe-no}
use Rattle.tidying.proofs.Text.add_separator.Goals as goal

pub returns-then-any : goal.returns-then-any
returns-then-any c = search maybe-yes

pub returns-else-any : goal.returns-else-any
returns-else-any c = search maybe-no
