-- `arrive` is right: each arm is a case of what the origin text says.
use Rattle.std.proofs.Common.{arith, ◌<◌, ◌^◌}
use Rattle.document_loads.proofs.Arriving.{said-short, arrived-empty, arrived-null, arrived-tuple, arrived-none}
use Rattle.document_loads.proofs.arrive.Goals as goal

pub returns-in-Empty : goal.returns-in-Empty
returns-in-Empty c = let s : c.args.number < 2 ^ 32 = omega arith in search arrived-empty

pub copied-requires-in-Tuple : goal.copied-requires-in-Tuple
copied-requires-in-Tuple c = search said-short

pub returns-in-Tuple : goal.returns-in-Tuple
returns-in-Tuple c = search arrived-tuple

pub returns-in-Null : goal.returns-in-Null
returns-in-Null c = let s : c.args.serial < 2 ^ 32 = omega arith in search arrived-null

pub returns-in_default : goal.returns-in_default
returns-in_default c = let s : c.args.serial < 2 ^ 32 = omega arith in search arrived-none
