-- `question` is right: each return is a row of the definition, in its order.
use Rattle.documents.proofs.Answering.{valid-ascends, found_below, refused-bad, refused-feature, refused-question, answered-enabled, answered-disabled}
use Rattle.documents.proofs.question.Goals as goal

pub returns-in_default : goal.returns-in_default
returns-in_default c = search refused-bad

pub returns-then-feature : goal.returns-then-feature
returns-then-feature c = search refused-feature

pub find-requires : goal.find-requires
find-requires c = search valid-ascends

pub returns-in_default-find : goal.returns-in_default-find
returns-in_default-find c = search refused-question

pub slot-requires : goal.slot-requires
slot-requires c = search found_below

pub returns-then-is_enabled : goal.returns-then-is_enabled
returns-then-is_enabled c = search answered-enabled

pub returns-else-is_enabled : goal.returns-else-is_enabled
returns-else-is_enabled c = search answered-disabled
