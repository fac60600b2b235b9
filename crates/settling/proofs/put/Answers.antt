-- `put` is right: the text stands at its place, and the others stay.
use Rattle.std.proofs.Common.{arith}
use Rattle.settling.proofs.Writes.{wrote-part}
use Rattle.settling.proofs.put.Goals as goal

pub returns : goal.returns
returns c = wrote-part _ _ _ _ _ c.requires (omega arith) c.copy_from_slice.ensures.after
