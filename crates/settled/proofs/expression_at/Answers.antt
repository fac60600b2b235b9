-- `expression_at` is right: where four bytes stand, they say the parts and the length of the host that follows them.
use Rattle.std.proofs.Common.{rules}
use Rattle.settled.proofs.Reading.{at-past, past-says, at-few, few-says, at_some, some-says}
use Rattle.settled.proofs.expression_at.Goals as goal

pub returns-then-d-at : goal.returns-then-d-at
returns-then-d-at c = record { is = search at-past; says = search past-says; past = search rules; upto = search rules }

pub returns-then-d-at-lt4 : goal.returns-then-d-at-lt4
returns-then-d-at-lt4 c = record { is = search at-few; says = search few-says; past = search rules; upto = search rules }

pub returns : goal.returns
returns c = record { is = search at_some; says = search some-says; past = search rules; upto = search rules }
