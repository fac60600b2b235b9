-- `unnamed_policy` is right: each return is a case of what the sandbox attribute closes, and of allowfullscreen.
use Rattle.containers.proofs.Steps.{unnamed-closed, unnamed-star, unnamed-none}
use Rattle.containers.proofs.unnamed_policy.Goals as goal

pub returns-then-sandbox_closes : goal.returns-then-sandbox_closes
returns-then-sandbox_closes c = search unnamed-closed

pub returns-then-allowfullscreen-n : goal.returns-then-allowfullscreen-n
returns-then-allowfullscreen-n c = search unnamed-star

pub returns-else-allowfullscreen-n : goal.returns-else-allowfullscreen-n
returns-else-allowfullscreen-n c = search unnamed-none
