-- What the code's answers say, in document 01's terms.
use Rattle.std.specs.Prelude.{ℕ, List, get_or}
use Rattle.decisions.specs.Decisions.{Decision}
use Rattle.decisions.specs.Decisions.Decision.{disabled, enabled}
use Rattle.decisions.specs.declared.Decision.{Decision as Answer}
use Rattle.decisions.specs.declared.Decision.TheVariants as answer

-- the decision that is answered
abbrev pub decision_in : Answer → Decision
decision_in answer.Disabled = disabled
decision_in answer.Enabled = enabled

-- the decision of each feature, by its place
unfoldable pub decisions_in : List Answer → ℕ → Decision
decisions_in answers n = decision_in (get_or answers n answer.Disabled)
