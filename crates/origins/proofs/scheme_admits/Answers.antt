-- `scheme_admits` is right: each arm of the match is the clause of the definition.
use Rattle.origins.proofs.Matches.{https-admits}
use Rattle.origins.specs.Matching.{scheme_admits}
use Rattle.origins.proofs.scheme_admits.Goals as goal

pub returns-in-Http : goal.returns-in-Http
returns-in-Http c = unfold scheme_admits in cc

pub returns-in-Https : goal.returns-in-Https
returns-in-Https c = search https-admits
