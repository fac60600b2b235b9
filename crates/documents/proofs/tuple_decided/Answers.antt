-- `tuple_decided` is right: the own text, what is inherited, and then the list.
use Rattle.documents.proofs.Asking.{tuple-own, tuple-off, tuple-list}
use Rattle.documents.proofs.tuple_decided.Goals as goal

pub returns-then-same : goal.returns-then-same
returns-then-same c = search tuple-own

pub returns-then-not-bit : goal.returns-then-not-bit
returns-then-not-bit c = search tuple-off

pub returns : goal.returns
returns c = search tuple-list
