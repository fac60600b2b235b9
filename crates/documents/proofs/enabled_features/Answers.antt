-- `enabled_features` is right: each return is a row of the definition.
use Rattle.documents.proofs.Answering.{valid-ascends, found_below, answered-features, refused-features}
use Rattle.documents.proofs.enabled_features.Goals as goal

pub find-requires : goal.find-requires
find-requires c = search valid-ascends

pub slot-requires : goal.slot-requires
slot-requires c = search found_below

pub returns : goal.returns
returns c = search answered-features

pub returns-in_default : goal.returns-in_default
returns-in_default c = search refused-features
