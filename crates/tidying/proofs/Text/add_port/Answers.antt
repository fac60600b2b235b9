-- `add_port` is right: each arm adds the text of its case.
use Rattle.tidying.proofs.Forms.{port-default, port-any, port-number}
use Rattle.tidying.proofs.Text.add_port.Goals as goal

pub returns-in-Default : goal.returns-in-Default
returns-in-Default c = search port-default

pub returns-in-Any : goal.returns-in-Any
returns-in-Any c = search port-any

pub returns-in-Number : goal.returns-in-Number
returns-in-Number c = search port-number
