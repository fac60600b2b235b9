-- One name to compute with: to unfold it is to unfold every definition of this crate and of the crates below.
use Rattle.origins.specs.Computing.{computing as origins-computing}
use Rattle.hashes.specs.Hashes.{text_hash, hash_of, first_place}

unfoldable pub computing : Unit {0}
unfolding origins-computing text_hash hash_of first_place
computing = tt
