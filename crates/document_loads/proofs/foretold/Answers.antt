-- `foretold` is right: each arm is a case of the declared origin.
use Rattle.document_loads.proofs.Framing.{foretold-fresh, foretold-container, foretold-src, foretold-none}
use Rattle.document_loads.proofs.foretold.Goals as goal

pub returns-in_default : goal.returns-in_default
returns-in_default c = search foretold-none

pub returns-in-Fresh : goal.returns-in-Fresh
returns-in-Fresh c = search foretold-fresh

pub returns-in-Container : goal.returns-in-Container
returns-in-Container c = search foretold-container

pub returns-in-Src : goal.returns-in-Src
returns-in-Src c = search foretold-src
