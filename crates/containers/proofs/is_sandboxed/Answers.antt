-- `is_sandboxed` is right: the container document, the mark and the keyword are asked in turn, as the definition asks.
use Rattle.containers.proofs.Steps.{sandbox-container, sandbox-absent, sandbox-words}
use Rattle.containers.proofs.is_sandboxed.Goals as goal

pub returns-then-container_sandboxed : goal.returns-then-container_sandboxed
returns-then-container_sandboxed c = search sandbox-container

pub returns-then-not-has_sandbox : goal.returns-then-not-has_sandbox
returns-then-not-has_sandbox c = search sandbox-absent

pub returns : goal.returns
returns c = search sandbox-words
