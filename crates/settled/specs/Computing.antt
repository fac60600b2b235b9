-- One name to compute with: to unfold it is to unfold every definition of this crate and of the crates below.
use Rattle.features.specs.Computing.{computing as features-computing}
use Rattle.allowlists.specs.Computing.{computing as allowlists-computing}
use Rattle.settled.specs.Settled.{parts_of, expressions_from, marked, entry_declares, declared_in}

unfoldable pub computing : Unit {0}
unfolding features-computing allowlists-computing parts_of expressions_from marked entry_declares declared_in
computing = tt
