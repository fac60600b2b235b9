-- One name to compute with: to unfold it is to unfold every definition of this crate and of the crates below.
use Rattle.declarations.specs.Computing.{computing as declarations-computing}
use Rattle.decisions.specs.Decisions.{decided, unless_disabled, by_list, by_default, value_by, inherited_by, question_by}
use Rattle.decisions.specs.Masks.{mask_below, decision_at}
use Rattle.decisions.specs.Policies.{value, inherited_framed, question, value_in, question_in, inherited_in, enabled_mask, forecast}

unfoldable pub computing : Unit {0}
unfolding declarations-computing decided unless_disabled by_list by_default value_by inherited_by question_by mask_below decision_at value inherited_framed question value_in question_in inherited_in enabled_mask forecast
computing = tt
