-- `declared_origin` is right: each arm is the clause of the definition.
use Rattle.std.proofs.Common.{◌∙◌, ap}
use Rattle.std.specs.Prelude.{Some}
use Rattle.containers.proofs.Steps.{declareds}
use Rattle.containers.proofs.declared_origin.Goals as goal

pub returns-in_err-src : goal.returns-in_err-src
returns-in_err-src c = rw c.from_residual.ensures (search (declareds, c.in_err-src.was))

pub returns-in-Null : goal.returns-in-Null
returns-in-Null c = search (declareds, c.in_ok-src.was)

pub returns-then-sandboxed : goal.returns-then-sandboxed
returns-then-sandboxed c = search (declareds, c.in_ok-src.was)

pub returns-else-sandboxed : goal.returns-else-sandboxed
returns-else-sandboxed c = search (declareds, c.in_ok-src.was)

pub returns-then-sandboxed-2 : goal.returns-then-sandboxed-2
returns-then-sandboxed-2 c = search (declareds, c.in_ok-src.was ∙ ap Some c.in-Tuple.is)

pub returns-else-sandboxed-2 : goal.returns-else-sandboxed-2
returns-else-sandboxed-2 c = search (declareds, c.in_ok-src.was ∙ ap Some c.in-Tuple.is)
