-- One name to compute with: to unfold it is to unfold every definition of this crate and of the crates below.
use Rattle.ascii.specs.Computing.{computing as ascii-computing}
use Rattle.features.specs.Features.{features, names, name_of, default_of, place_from, feature_of, precedes, ascending, is_key}
use Rattle.features.specs.Discarding.{agree, left_from, left_to_compare, is_among}

unfoldable pub computing : Unit {0}
unfolding ascii-computing features names name_of default_of place_from feature_of precedes ascending is_key agree left_from left_to_compare is_among
computing = tt
