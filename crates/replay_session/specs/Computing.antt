-- One name to compute with: to unfold it is to unfold every definition that a line's answer is made of.
use Rattle.tidying.specs.Computing.{computing as tidying-computing}
use Rattle.document_model.specs.Computing.{computing as model-computing}
use Rattle.replay_answers.specs.Computing.{computing as answers-computing}
use Rattle.replay_lines.specs.Computing.{computing as lines-computing}
use Rattle.replay_session.specs.Session.{line_answer, line_table}

unfoldable pub computing : Unit {0}
unfolding tidying-computing model-computing answers-computing lines-computing line_answer line_table
computing = tt
