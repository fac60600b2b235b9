-- `lone_mark` is right: the test is the definition's.
use Rattle.settling.proofs.Listing.{mark-none, mark-lone}
use Rattle.settling.proofs.lone_mark.Goals as goal

pub returns-then-n : goal.returns-then-n
returns-then-n c = search mark-none

pub returns-else-n : goal.returns-else-n
returns-else-n c = search mark-lone
