-- `call` is right: with the field that was read last the fields are the reading's; too many are no call.
use Rattle.std.proofs.Common.{rules}
use Rattle.replay_lines.proofs.Lines.{at-end, at-many}
use Rattle.replay_lines.proofs.call.Goals as goal

pub returns-then-number-ge-FIELDS : goal.returns-then-number-ge-FIELDS
returns-then-number-ge-FIELDS c = search at-many

pub returns : goal.returns
returns c = at-end _ _ _ _ (search rules) (search rules) _ c.row.ensures
