-- `list_of` is right: the mark says which kind of list, and the two numbers past it where it stands.
use Rattle.settled.proofs.Reading.{list-none, list-undeclared, list_all, list-listed}
use Rattle.settled.proofs.list_of.Goals as goal

pub returns-then-feature : goal.returns-then-feature
returns-then-feature c = search list-none

pub returns-then-mark-eq0 : goal.returns-then-mark-eq0
returns-then-mark-eq0 c = search list-undeclared

pub returns-then-mark-eq1 : goal.returns-then-mark-eq1
returns-then-mark-eq1 c = search list_all

pub returns : goal.returns
returns c = search list-listed
