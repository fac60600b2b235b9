-- `is_enabled` is right: the numbers first, then by what the text says.
use Rattle.documents.proofs.Asking.{at_every, at-empty, at_null, at_tuple, asks-tuple}
use Rattle.documents.proofs.is_enabled.Goals as goal

pub returns-then-bit : goal.returns-then-bit
returns-then-bit c = search at_every

pub tuple_decided-requires : goal.tuple_decided-requires
tuple_decided-requires c = search asks-tuple

pub returns-in-Empty : goal.returns-in-Empty
returns-in-Empty c = search at-empty

pub returns-in-Null : goal.returns-in-Null
returns-in-Null c = search at_null

pub returns-in-Tuple : goal.returns-in-Tuple
returns-in-Tuple c = search at_tuple
