-- `new_table` is right: the run is too short, or is cleared.
use Rattle.documents.proofs.Answering.{new-small, new-ready}
use Rattle.documents.proofs.new_table.Goals as goal

pub returns-then-run-lt-TABLE_BYTES : goal.returns-then-run-lt-TABLE_BYTES
returns-then-run-lt-TABLE_BYTES c = search new-small

pub returns : goal.returns
returns c = search new-ready
