-- `scheme_of` is right: the two schemes are tested in the order of the definition.
use Rattle.origins.proofs.Readers.{scheme-http, scheme-https, scheme-none}
use Rattle.origins.proofs.Steps.{starts_is}
use Rattle.origins.proofs.scheme_of.Goals as goal

pub returns-then-starts_with : goal.returns-then-starts_with
returns-then-starts_with c = scheme-http _ _ (starts_is _ _ _ c.starts_with.ensures.value) c.if-starts_with.true

pub returns-then-starts_with-2 : goal.returns-then-starts_with-2
returns-then-starts_with-2 c = scheme-https _ _ (starts_is _ _ _ c.starts_with.ensures.value) c.if-starts_with.false _ (starts_is _ _ _ c.starts_with-2.ensures.value) c.if-starts_with-2.true

pub returns : goal.returns
returns c = scheme-none _ _ (starts_is _ _ _ c.starts_with.ensures.value) c.if-starts_with.false _ (starts_is _ _ _ c.starts_with-2.ensures.value) c.if-starts_with-2.false
