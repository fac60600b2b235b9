-- 01, "How a decision falls", told what the lists answer: rows of its three sentences, by computation.
use Rattle.std.specs.Prelude.{◌≡◌, refl, [], ◌∷◌, Bool, true, false}
use Rattle.std.specs.Prelude.{Option, Some, None}
use Rattle.ascii.specs.Texts.{every}
use Rattle.features.specs.Features.{Default}
use Rattle.features.specs.Features.Default.{star, self}
use Rattle.decisions.specs.Decisions.{Decision, value_by, inherited_by, question_by}
use Rattle.decisions.specs.Decisions.Decision.{disabled, enabled}
use Rattle.decisions.specs.Computing.{computing}

abbrev same_decision : Decision → Decision → Bool
same_decision disabled disabled = true
same_decision disabled enabled = false
same_decision enabled disabled = false
same_decision enabled enabled = true

pub data Row : Type 0 where
  -- what is inherited, what the declared list answers, the value
  value : Decision → Option Bool → Decision → Row
  -- what is inherited, what the declared list answers, the default list, whether the origin is the document's own, the answer
  question : Decision → Option Bool → Default → Bool → Decision → Row
  -- the container's values for its own and for the arriving origin, what the frame's list answers, the default list, whether the arriving origin is the container's own, what is inherited
  inherited : Decision → Decision → Option Bool → Default → Bool → Decision → Row

abbrev right : Row → Bool
right (value i d r) = same_decision r (value_by i d)
right (question i d default same r) = same_decision r (question_by i d (Some default) same)
right (inherited own arriving a default same r) = same_decision r (inherited_by own arriving a (Some default) same)

-- *Value* and *Question* differ where undeclared; a header never wins over what is inherited; an entry replaces the default both ways; the container's own origin is checked too
rows_right : every right
    (value enabled None enabled ∷ value enabled (Some false) disabled ∷ value disabled (Some true) disabled
    ∷ question enabled None self false disabled ∷ question enabled None self true enabled ∷ question enabled None star false enabled ∷ question disabled (Some true) star true disabled
    ∷ inherited enabled enabled None self false disabled ∷ inherited enabled enabled None star false enabled ∷ inherited enabled enabled (Some false) star true disabled
    ∷ inherited enabled enabled (Some true) self false enabled ∷ inherited disabled enabled (Some true) star true disabled ∷ inherited enabled disabled (Some true) star true disabled
    ∷ []) ≡ true
unfolding computing
rows_right = refl
