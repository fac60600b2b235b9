-- One name to compute with: to unfold it is to unfold every definition that the texts are made of.
use Rattle.ascii.specs.Computing.{computing as ascii-computing}
use Rattle.replay_answers.specs.Texts.{refused_text, malformed_mark, decision_text, serials_text, beneath_text, answer_text, tidy_text}

unfoldable pub computing : Unit {0}
unfolding ascii-computing refused_text malformed_mark decision_text serials_text beneath_text answer_text tidy_text
computing = tt
