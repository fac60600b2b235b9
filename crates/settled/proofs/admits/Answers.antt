-- `admits` is right: each way out is a case of what the bytes say.
use Rattle.settled.proofs.Reading.{admits-undeclared, admits-all, admits-own, admits-listed}
use Rattle.settled.proofs.admits.Goals as goal

pub returns-in_err-list_of : goal.returns-in_err-list_of
returns-in_err-list_of c = rw c.from_residual.ensures (search (admits-undeclared, c.in_err-list_of.was))

pub returns-in-All : goal.returns-in-All
returns-in-All c = search (admits-all, c.in_ok-list_of.was)

pub returns-then-own : goal.returns-then-own
returns-then-own c = search (admits-own, c.in_ok-list_of.was)

pub returns-else-own : goal.returns-else-own
returns-else-own c = search (admits-listed, c.in_ok-list_of.was)
