-- `add_sources` is right: the expressions that were passed are written, each once, and stand in the index.
use Rattle.std.proofs.Common.{drop}
use Rattle.ascii.specs.Literals.{text}
use Rattle.settled.specs.Settled.{expressions_from}
use Rattle.tidying.specs.Steps.{Spelling, source_texts, Passed, Indexed}
use Rattle.tidying.proofs.add_sources.Given as goal

abbrev pub invariant-loop-i : goal.invariant-loop-i
invariant-loop-i l = Passed l.d l.first l.i l.p × Indexed l.d l.first l.i l.index × Spelling (text " ") l.initial.form l.initial.any (source_texts (expressions_from l.i (drop l.first l.d))) l.form l.any
