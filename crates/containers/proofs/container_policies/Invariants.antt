-- `container_policies` is right: each feature gets the policy of its entry and of the sandbox attribute, and the entries are those of the whole attribute.
use Rattle.std.proofs.Common.{◌≡◌, length}
use Rattle.features.specs.Features.{feature_count}
use Rattle.containers.specs.Sandboxes.{sandbox_words}
use Rattle.containers.proofs.Steps.{Stored}
use Rattle.containers.proofs.container_policies.Given as goal

abbrev pub invariant-loop-i : goal.invariant-loop-i
invariant-loop-i l = (length l.policies ≡ feature_count) × Stored l.allow l.allowfullscreen (sandbox_words l.has_sandbox l.sandbox) l.i l.policies
