-- `lower` is right: the library's function changes the same letters.
use Rattle.ascii.proofs.Library.{lower-is}
use Rattle.ascii.proofs.lower.Goals as goal

pub returns : goal.returns
returns c = lower-is _ _ c.to_ascii_lowercase.ensures.cases
