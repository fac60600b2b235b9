-- `port_admits` is right: each arm of the match is the clause of the definition.
use Rattle.origins.specs.Matching.{port_admits}
use Rattle.origins.proofs.port_admits.Goals as goal

pub returns-in-Default : goal.returns-in-Default
unfolding port_admits
returns-in-Default c = cc

pub returns-in-Any : goal.returns-in-Any
unfolding port_admits
returns-in-Any c = cc

pub returns-in-Number : goal.returns-in-Number
unfolding port_admits
returns-in-Number c = cc
