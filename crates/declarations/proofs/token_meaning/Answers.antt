-- `token_meaning` is right: the two fixed texts are tested in the order of the definition.
use Rattle.declarations.proofs.Meanings.{token-star, token-self, token-nothing}
use Rattle.declarations.proofs.token_meaning.Goals as goal

pub returns-then-same : goal.returns-then-same
returns-then-same c = search token-star

pub returns-then-same-2 : goal.returns-then-same-2
returns-then-same-2 c = search token-self

pub returns-else-same-2 : goal.returns-else-same-2
returns-else-same-2 c = search token-nothing
