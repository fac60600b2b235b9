-- `is_named` is right: a word of 4 to 16 bytes is told by its two numbers, and the two other names are compared byte by byte.
use Rattle.std.proofs.Common.{arith}
use Rattle.features.proofs.Packing.{Bytes}
use Rattle.features.proofs.Names.{under-four, over_sixteen, text-test, packed-test}
use Rattle.features.proofs.is_named.Goals as goal

pub returns-then-word-lt4 : goal.returns-then-word-lt4
returns-then-word-lt4 c = search (text-test, under-four)

pub returns-then-word-gt16 : goal.returns-then-word-gt16
returns-then-word-gt16 c = search (text-test, over_sixteen)

pub returns-else-word-gt16 : goal.returns-else-word-gt16
returns-else-word-gt16 c = let bytes : Bytes c.args.word.now = λ i. omega (arith, c.type_inv.word i) in search packed-test
