-- `push` is right: it is tested whether there is room.
use Rattle.std.proofs.Common.{rules}
use Rattle.document_table.proofs.Writing.{room-count, room-last, pushed-on, pushed-off}
use Rattle.document_table.proofs.push.Goals as goal

pub add_entry-requires : goal.add_entry-requires
add_entry-requires c = (search rules, search room-count, search room-last)

pub returns-then-n-last : goal.returns-then-n-last
returns-then-n-last c = search pushed-on

pub returns-else-n-last : goal.returns-else-n-last
returns-else-n-last c = search pushed-off
