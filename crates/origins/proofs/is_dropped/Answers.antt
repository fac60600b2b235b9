-- `is_dropped` is right: each arm of the match is the clause of the definition.
use Rattle.origins.specs.NormalForms.{is_dropped}
use Rattle.origins.proofs.is_dropped.Goals as goal

pub returns-in-Http : goal.returns-in-Http
returns-in-Http c = unfold is_dropped in cc

pub returns-in-Https : goal.returns-in-Https
returns-in-Https c = unfold is_dropped in cc
