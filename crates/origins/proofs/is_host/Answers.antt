-- `is_host` is right: its length is tested as the definition tests it, and then its labels.
use Rattle.std.proofs.Common.{rules}
use Rattle.origins.proofs.Steps.{host-none, host-long, host-is}
use Rattle.origins.proofs.is_host.Goals as goal

pub returns-then-is_empty : goal.returns-then-is_empty
returns-then-is_empty c = host-none _ _ (search rules)

pub returns-then-h-gt-HOST_BYTES : goal.returns-then-h-gt-HOST_BYTES
returns-then-h-gt-HOST_BYTES c = host-long _ _ (search rules) c.if-h-gt-HOST_BYTES.true

pub returns : goal.returns
returns c = host-is _ _ _ (search rules) c.if-h-gt-HOST_BYTES.false c.labels_good.ensures
