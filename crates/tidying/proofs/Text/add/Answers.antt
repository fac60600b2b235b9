-- `add` is right: what is put is added.
use Rattle.tidying.proofs.Growing.{add-puts}
use Rattle.tidying.proofs.Text.add.Goals as goal

pub returns : goal.returns
returns c = search add-puts
