-- `mask` is right: the decision of a feature is the one at its place.
use Rattle.std.proofs.Common.{rules}
use Rattle.decisions.specs.Answers.{decisions_in}
use Rattle.decisions.proofs.mask.Goals as goal

pub returns : goal.returns
unfolding decisions_in
returns c = c.mask_by.ensures.bits (decisions_in c.args.decisions) (λ n d lt e. search rules)
