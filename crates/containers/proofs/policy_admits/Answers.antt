-- `policy_admits` is right: each arm is a case of what the policy says.
use Rattle.std.proofs.Common.{◌∙◌, ap, refl}
use Rattle.std.specs.Prelude.{Some}
use Rattle.containers.proofs.Steps.{admits-none, admits-all, admits-empty, admits-words}
use Rattle.containers.proofs.policy_admits.Goals as goal

pub returns-in_err-policy : goal.returns-in_err-policy
returns-in_err-policy c = rw c.from_residual.ensures (admits-none _ _ _ _ _ c.in_err-policy.was)

pub returns-in-All : goal.returns-in-All
returns-in-All c = admits-all _ _ _ _ _ (c.in_ok-policy.was ∙ ap Some c.in-All.is)

pub returns-in-Empty : goal.returns-in-Empty
returns-in-Empty c = admits-empty _ _ _ _ _ (c.in_ok-policy.was ∙ ap Some c.in-Empty.is)

pub returns-in-Words : goal.returns-in-Words
returns-in-Words c = admits-words _ _ _ _ _ _ _ _ (c.in_ok-policy.was ∙ ap Some c.in-Words.is) c.entry_admits.ensures refl
