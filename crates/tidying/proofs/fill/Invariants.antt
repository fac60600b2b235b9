-- `fill` is right: what was added and what the features from this one on add is the tidied form.
use Rattle.tidying.proofs.Members.{Filling}
use Rattle.tidying.proofs.fill.Given as goal

abbrev pub invariant-loop-n : goal.invariant-loop-n
invariant-loop-n l = Filling l.d l.n l.initial.form l.form l.any
