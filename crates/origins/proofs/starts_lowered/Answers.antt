-- `starts_lowered` is right: it compares as much of the front as there is.
use Rattle.std.proofs.Common.{arith, length-take}
use Rattle.origins.proofs.Steps.{starts-lowered-is}
use Rattle.origins.proofs.starts_lowered.Goals as goal

pub slice_bounds-same_lowered-end : goal.slice_bounds-same_lowered-end
slice_bounds-same_lowered-end c = simp length-take (omega arith)

pub returns : goal.returns
returns c = search starts-lowered-is
