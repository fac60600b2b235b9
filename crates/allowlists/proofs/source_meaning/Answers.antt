-- `source_meaning` is right: each way out is a case of what the text is read as.
use Rattle.allowlists.proofs.Meanings.{source-found, source-none}
use Rattle.allowlists.proofs.source_meaning.Goals as goal

pub returns : goal.returns
returns c = search (source-found, c.in_ok-e.was)

pub returns-in_err-e : goal.returns-in_err-e
returns-in_err-e c = rw c.from_residual.ensures (search (source-none, c.in_err-e.was))
