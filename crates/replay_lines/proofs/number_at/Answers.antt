-- `number_at` is right: the text of a field without a `%` is read as it stands.
use Rattle.replay_lines.specs.Format.{number_of}
use Rattle.replay_lines.proofs.FieldReadings.{unread, read-as}
use Rattle.replay_lines.proofs.number_at.Goals as goal

pub returns-in_err-text : goal.returns-in_err-text
returns-in_err-text c = rw c.from_residual.ensures (unread number_of _ _ c.literal.ensures.number c.in_err-text.was)

pub returns : goal.returns
returns c = read-as number_of _ _ c.literal.ensures.number _ _ c.in_ok-text.was c.number.ensures
