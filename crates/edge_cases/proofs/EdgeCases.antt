-- Every marked row is right, by computation. Assumes nothing.
use mathlib.Core.Path.{refl}
use Rattle.document_model.specs.Computing.{computing}
use Rattle.edge_cases.specs.EdgeCases.{are_decisions, EdgeCasesHold}

pub edge-cases : EdgeCasesHold
unfolding computing are_decisions
edge-cases = refl
