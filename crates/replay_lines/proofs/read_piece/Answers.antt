use Rattle.std.proofs.Common.{refl, rules}
use Rattle.replay_lines.proofs.Lines.{piece-end, piece-many, piece-tab, piece_byte}
use Rattle.replay_lines.proofs.read_piece.Goals.{then-b-eq-TAB, else-b-eq-TAB}
use Rattle.replay_lines.proofs.read_piece.Goals as goal

pub loop-b-init : goal.loop-b-init
loop-b-init c = (search rules, search rules, refl)

pub returns-then-number-ge-FIELDS : goal.returns-then-number-ge-FIELDS
returns-then-number-ge-FIELDS c = search piece-many

pub loop-b-preserved : goal.loop-b-preserved
loop-b-preserved c = elim c.if-b-eq-TAB.branch [
  | then-b-eq-TAB w ↦ (search rules, rw w.ended-is (search rules), rw (w.run-is, w.ended-is, w.number-is, w.field-is) (search piece-tab))
  | else-b-eq-TAB w ↦ (search rules, rw w.ended-is (search rules), rw (w.run-is, w.ended-is, w.number-is, w.field-is) (search piece_byte))
]

pub returns : goal.returns
returns c = search piece-end
