-- `run` is right: the session starts on a new table, and a run that is too short stays as it was.
use Rattle.replaying.proofs.Rooms.{made-valid, replayed-refused}
use Rattle.replaying.proofs.run.Goals as goal

pub replay-requires : goal.replay-requires
replay-requires g c = search made-valid

pub returns-in-Err : goal.returns-in-Err
returns-in-Err g c = search replayed-refused
