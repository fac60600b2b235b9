-- `same_origin` is right: two tuples and two opaque origins are compared, and all others differ.
use Rattle.origins.proofs.Matches.{same-tuples, opaques, tuple-other, opaque-other, fresh-any}
use Rattle.origins.proofs.same_origin.Goals as goal

pub returns-in-Tuple-Tuple : goal.returns-in-Tuple-Tuple
returns-in-Tuple-Tuple c = search same-tuples

pub returns-in-Opaque-Opaque : goal.returns-in-Opaque-Opaque
returns-in-Opaque-Opaque c = search opaques

pub returns-in_default : goal.returns-in_default
returns-in_default c = search (tuple-other, c.in_default.not-Tuple-1)

pub returns-in_default-2 : goal.returns-in_default-2
returns-in_default-2 c = search (opaque-other, c.in_default.not-Opaque-1)

pub returns-in_default-3 : goal.returns-in_default-3
returns-in_default-3 c = search fresh-any
