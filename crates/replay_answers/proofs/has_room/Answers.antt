-- `has_room` is right: it subtracts where the definition adds, since the sum may not fit.
use Rattle.replay_answers.proofs.Answering.{room-none, room-left}
use Rattle.replay_answers.proofs.has_room.Goals as goal

pub returns-then-run-at : goal.returns-then-run-at
returns-then-run-at c = search room-none

pub returns : goal.returns
returns c = search room-left
