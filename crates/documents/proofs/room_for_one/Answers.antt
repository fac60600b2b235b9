-- `room_for_one` is right: each return is a row of the definition.
use Rattle.documents.proofs.Loads.{room-full, room-spent, room-serial}
use Rattle.documents.proofs.room_for_one.Goals as goal

pub returns-then-is_full : goal.returns-then-is_full
returns-then-is_full c = search room-full

pub returns-then-last-ge-LAST_SERIAL : goal.returns-then-last-ge-LAST_SERIAL
returns-then-last-ge-LAST_SERIAL c = search room-spent

pub returns : goal.returns
returns c = search room-serial
