-- `kept` is right: the bytes kept are the front of the field's part, no longer than the part.
use Rattle.std.proofs.Common.{◌∙◌, rules}
use Rattle.replay_lines.proofs.Slots.{kept-part}
use Rattle.replay_lines.proofs.kept.Goals as goal

pub returns : goal.returns
returns c = c.part.ensures ∙ rw c.min.ensures (kept-part _ _ (search rules) c.requires _)
