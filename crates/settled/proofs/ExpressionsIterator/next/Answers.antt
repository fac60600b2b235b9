-- `next` is right: the first expression, where one is asked for and there, and what stands past it.
use Rattle.std.proofs.Common.{refl}
use Rattle.settled.proofs.Reading.{none-asked, none-there}
use Rattle.settled.proofs.ExpressionsIterator.next.Goals as goal

pub returns-then-self-eq0-clause-steps : goal.returns-then-self-eq0-clause-steps
returns-then-self-eq0-clause-steps c = let e = none-asked _ _ c.if-self-eq0.true in (e, e)

pub returns-in_default-clause-steps : goal.returns-in_default-clause-steps
returns-in_default-clause-steps c = (none-there _ _ c.if-self-eq0.false c.in_default.ensures.says, none-asked _ _ refl)
