-- `parts_admit` is right: the parts are matched, the expression's host as it is.
use Rattle.origins.proofs.Matches.{match-as-is}
use Rattle.origins.proofs.parts_admit.Goals as goal

pub returns : goal.returns
returns c = search match-as-is
