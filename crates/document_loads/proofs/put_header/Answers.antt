-- `put_header` is right: a header within the limit has room.
use Rattle.document_loads.proofs.Putting.{header-put, header-refused}
use Rattle.document_loads.proofs.put_header.Goals as goal

pub returns-in-Ok : goal.returns-in-Ok
returns-in-Ok c = search header-put

pub returns-in-Err : goal.returns-in-Err
returns-in-Err c = search header-refused
