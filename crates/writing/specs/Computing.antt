-- One name to compute with: to unfold it is to unfold every definition of this crate and of the crates below.
use Rattle.ascii.specs.Computing.{computing as ascii-computing}
use Rattle.writing.specs.Writing.{with_text}

unfoldable pub computing : Unit {0}
unfolding ascii-computing with_text
computing = tt
