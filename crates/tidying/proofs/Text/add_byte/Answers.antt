-- `add_byte` is right: what is put is added.
use Rattle.tidying.proofs.Growing.{add-puts}
use Rattle.tidying.proofs.Text.add_byte.Goals as goal

pub returns : goal.returns
returns c = search add-puts
