-- `mark_at` is right: the text of a field without a `%` is read as it stands.
use Rattle.replay_lines.specs.Format.{mark_of}
use Rattle.replay_lines.proofs.FieldReadings.{unread, read-as}
use Rattle.replay_lines.proofs.mark_at.Goals as goal

pub returns-in_err-text : goal.returns-in_err-text
returns-in_err-text c = rw c.from_residual.ensures (unread mark_of _ _ c.literal.ensures.mark c.in_err-text.was)

pub returns : goal.returns
returns c = read-as mark_of _ _ c.literal.ensures.mark _ _ c.in_ok-text.was c.mark.ensures
