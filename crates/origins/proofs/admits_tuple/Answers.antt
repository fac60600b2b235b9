-- `admits_tuple` is right: the parts that the ranges cut are matched, the expression's host in any case.
use Rattle.origins.proofs.Matches.{match-ranges}
use Rattle.origins.proofs.admits_tuple.Goals as goal

pub returns : goal.returns
returns c = search match-ranges
