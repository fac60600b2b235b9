-- `hash` is right: each kind of host is an arm of the definition.
use Rattle.hashes.proofs.Steps.{hash-none, hash-any, hash-exact, hash-subdomains}
use Rattle.hashes.proofs.hash.Goals as goal

pub returns-in_default : goal.returns-in_default
returns-in_default c = search hash-none

pub returns-in-Any : goal.returns-in-Any
returns-in-Any c = search hash-any

pub returns-in-Exact : goal.returns-in-Exact
returns-in-Exact c = search hash-exact

pub returns-in-Subdomains : goal.returns-in-Subdomains
returns-in-Subdomains c = search hash-subdomains
