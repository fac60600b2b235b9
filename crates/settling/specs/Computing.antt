-- One name to compute with: to unfold it is to unfold every definition of this crate and of the crates below.
use Rattle.declarations.specs.Computing.{computing as declarations-computing}
use Rattle.settled.specs.Computing.{computing as settled-computing}
use Rattle.settling.specs.Writing.{expression_bytes, expressions_bytes, mark_of, with_entry, with_value, document_of, settled_bytes}

unfoldable pub computing : Unit {0}
unfolding declarations-computing settled-computing expression_bytes expressions_bytes mark_of with_entry with_value document_of settled_bytes
computing = tt
