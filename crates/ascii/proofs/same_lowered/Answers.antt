-- `same_lowered` is right: texts of one length are compared pair by pair, and texts of two lengths differ.
use Rattle.std.proofs.Common.{◌∙◌}
use borrow.Author.Tests.{ne_eqb}
use Rattle.ascii.specs.Bytes.{lower}
use Rattle.ascii.proofs.Library.{pairs-same, lengths-differ}
use Rattle.ascii.proofs.same_lowered.Goals as goal

pub returns-then-a-b : goal.returns-then-a-b
returns-then-a-b c = c.pairs_same.ensures ∙ pairs-same lower _ _ c.if-a-b.true

pub returns-else-a-b : goal.returns-else-a-b
returns-else-a-b c = ne_eqb _ _ c.if-a-b.false ∙ lengths-differ lower _ _ c.if-a-b.false
