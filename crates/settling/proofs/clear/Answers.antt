-- `clear` is right: the bytes of the head are zeros, and the others stay.
use Rattle.settling.proofs.Members.{cleared}
use Rattle.settling.proofs.clear.Goals as goal

pub returns : goal.returns
returns c = cleared _ _ c.requires (c.fill.ensures.after (λ y e. e))
