-- One name to compute with: to unfold it is to unfold every definition of this crate and of those below that its definitions use.
use Rattle.declarations.specs.Computing.{computing as declarations-computing}
use Rattle.settled.specs.Computing.{computing as settled-computing}
use Rattle.tidying.specs.Tidied.{among, unless, once_after, self_item, tidy_value, with_member, tidy_from, tidied}
use Rattle.tidying.specs.Answers.{tidy_answer, run_after}

unfoldable pub computing : Unit {0}
unfolding declarations-computing settled-computing among unless once_after self_item tidy_value with_member tidy_from tidied tidy_answer run_after
computing = tt
