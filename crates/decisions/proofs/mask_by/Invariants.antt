-- `mask_by` is right: at each turn the bits so far are those of the features below the turn's.
use Rattle.std.proofs.Common.{◌≡◌, ℕ, ◌<◌, ◌^◌}
use Rattle.features.specs.Features.{feature_count}
use Rattle.decisions.specs.Decisions.{Decision as Rule}
use Rattle.decisions.specs.Masks.{mask_below}
use Rattle.decisions.specs.Answers.{decision_in}
use Rattle.decisions.specs.declared.Decision.{Decision}
use Rattle.decisions.proofs.mask_by.Given as goal

abbrev pub invariant-loop-n : goal.invariant-loop-n
invariant-loop-n g l = (l.r < 2 ^ l.n) × ((p : ℕ → Rule) → ((n : ℕ) (d : Decision) → n < feature_count → goal.F-post g l.decide n d → decision_in d ≡ p n) → l.r ≡ mask_below p l.n)
