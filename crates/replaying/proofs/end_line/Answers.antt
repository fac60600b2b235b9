-- `end_line` is right: an answer and its line feed have room, and so has the next, or those that wait are written, or can't be.
use Rattle.replaying.proofs.Rooms.{next-waits, next-written}
use Rattle.replaying.proofs.end_line.Goals as goal

pub returns-then-has_room : goal.returns-then-has_room
returns-then-has_room g c = search next-waits

pub returns : goal.returns
returns g c = search next-written
