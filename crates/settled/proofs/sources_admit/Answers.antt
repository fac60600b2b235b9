-- `sources_admit` is right: no expression admits an opaque origin, and a tuple origin is asked by its parts.
use Rattle.settled.proofs.Reading.{ask-tuple, ask-opaque, ask-fresh}
use Rattle.settled.proofs.sources_admit.Goals as goal

pub returns-in-Tuple : goal.returns-in-Tuple
returns-in-Tuple c = search ask-tuple

pub returns-in-Opaque : goal.returns-in-Opaque
returns-in-Opaque c = search ask-opaque

pub returns-in-Fresh : goal.returns-in-Fresh
returns-in-Fresh c = search ask-fresh
