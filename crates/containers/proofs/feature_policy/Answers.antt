-- `feature_policy` is right: each return is a clause of the definition.
use Rattle.containers.proofs.Steps.{feature-plugins, feature-words, feature-unnamed}
use Rattle.containers.proofs.feature_policy.Goals as goal

pub returns-then-has_sandbox-n : goal.returns-then-has_sandbox-n
returns-then-has_sandbox-n c = search feature-plugins

pub returns-in-Some : goal.returns-in-Some
returns-in-Some c = search feature-words

pub returns-in-None : goal.returns-in-None
returns-in-None c = search feature-unnamed
