-- `move_entry` is right: a serial and two numbers of slots are put.
use Rattle.std.proofs.Common.{arith}
use Rattle.document_table.proofs.Writing.{moves-is}
use Rattle.document_table.proofs.move_entry.Goals as goal

pub returns : goal.returns
returns c = (moves-is _ _ _ _ _ _ _ c.put_one-2.ensures c.put_one.ensures c.put_number.ensures c.number-s.ensures, omega (arith, c.number-s.ensures))
