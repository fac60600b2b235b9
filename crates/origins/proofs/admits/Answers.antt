-- `admits` is right: each arm of the match is the clause of the definition.
use Rattle.origins.proofs.Matches.{admits-by-tuple, admits-opaque, admits-fresh}
use Rattle.origins.proofs.admits.Goals as goal

pub returns-in-Tuple : goal.returns-in-Tuple
returns-in-Tuple c = search admits-by-tuple

pub returns-in-Opaque : goal.returns-in-Opaque
returns-in-Opaque c = search admits-opaque

pub returns-in-Fresh : goal.returns-in-Fresh
returns-in-Fresh c = search admits-fresh
