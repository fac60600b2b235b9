-- `is_subdomain` is right: it looks for the dot where the definition's ending begins, and compares what follows.
use Rattle.origins.proofs.Steps.{sub-short, sub-bare, sub-other, sub_is}
use Rattle.origins.proofs.is_subdomain.Goals as goal

pub returns-then-m-n : goal.returns-then-m-n
returns-then-m-n g c = sub-short _ _ _ c.if-m-n.true

pub returns-then-dot-eq0 : goal.returns-then-dot-eq0
returns-then-dot-eq0 g c = sub-bare _ _ _ c.if-m-n.false c.if-dot-eq0.true

pub returns-then-h-dot-ne46 : goal.returns-then-h-dot-ne46
returns-then-h-dot-ne46 g c = sub-other _ _ _ c.if-m-n.false c.if-dot-eq0.false c.if-h-dot-ne46.true

pub returns : goal.returns
returns g c = sub_is _ _ _ c.if-m-n.false c.if-dot-eq0.false _ c.if-h-dot-ne46.false c.same.ensures
