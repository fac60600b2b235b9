-- 01, "How a decision falls": its sentences, told what the lists answer.
use Rattle.std.specs.Prelude.{Bool, true, false}
use Rattle.std.specs.Prelude.{Option, Some, None}
use Rattle.features.specs.Features.{Default}
use Rattle.features.specs.Features.Default.{star, self}

-- Disabled or Enabled
pub data Decision : Type 0 where
  disabled : Decision
  enabled : Decision

-- Enabled where a test passes
unfoldable pub decided : Bool → Decision
decided true = enabled
decided false = disabled

-- "Disabled if inherited Disabled; else": Disabled after Disabled, and after Enabled another decision
unfoldable pub unless_disabled : Decision → Decision → Decision
unless_disabled disabled other = disabled
unless_disabled enabled other = other

-- "if declared, by the list; else": by what the list answers, and without a list another decision
unfoldable pub by_list : Option Bool → Decision → Decision
by_list (Some admitted) other = decided admitted
by_list None other = other

-- "Enabled for default *; else Enabled only for the document's own origin": told whether the origin is the own one; a number of no feature has no default *
unfoldable pub by_default : Option Default → Bool → Decision
by_default (Some star) same = enabled
by_default (Some self) same = decided same
by_default None same = decided same

-- "*Value* of a feature in a document for an origin: Disabled if inherited Disabled; else, if declared, by the list; else Enabled."
unfoldable pub value_by : Decision → Option Bool → Decision
value_by inherited declared = unless_disabled inherited (by_list declared enabled)

-- "*Inherited*, top level: Enabled."
abbrev pub inherited_top : Decision
inherited_top = enabled

-- "Framed: Disabled unless the container's value is Enabled for the container's own origin and for the arriving origin; then, if the attribute has the feature, by its list;
-- else Enabled for default *; else Enabled only for the container's own origin." Since 02's R-1 "the attribute has the feature" is: the container policy has a list for it
unfoldable pub inherited_by : Decision → Decision → Option Bool → Option Default → Bool → Decision
inherited_by value_own value_arriving allowed default same =
    unless_disabled value_own (unless_disabled value_arriving (by_list allowed (by_default default same)))

-- "*Question*: Disabled if inherited Disabled; else by the declared list; else Enabled for default *; else Enabled only for the document's own origin."
unfoldable pub question_by : Decision → Option Bool → Option Default → Bool → Decision
question_by inherited declared default same = unless_disabled inherited (by_list declared (by_default default same))
