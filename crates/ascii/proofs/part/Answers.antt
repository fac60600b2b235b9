-- `part` is right: a range that lies in the text has the definition's part, and any other none.
use Rattle.std.proofs.Common.{refl}
use Rattle.ascii.proofs.Library.{part-found}
use Rattle.ascii.proofs.part.Goals as goal

pub returns : goal.returns
returns c = part-found _ _ _ c.get.result _ _ c.get.ensures.lookup.0 refl c.unwrap_or.ensures
