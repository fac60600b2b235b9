-- One name to compute with: to unfold it is to unfold every definition of this crate and of the crates below.
use Rattle.features.specs.Computing.{computing as features-computing}
use Rattle.dictionaries.specs.Computing.{computing as dictionaries-computing}
use Rattle.allowlists.specs.Computing.{computing as allowlists-computing}
use Rattle.declarations.specs.Declarations.{token_meaning, item_meaning, lone_declares, value_declares, last_declares, declares, is_malformed, declared_admits}

unfoldable pub computing : Unit {0}
unfolding features-computing dictionaries-computing allowlists-computing token_meaning item_meaning lone_declares value_declares last_declares declares is_malformed declared_admits
computing = tt
