-- `same_hosts` is right: only a host that is named has bytes to compare.
use Rattle.origins.proofs.NormalForms.{hosts-none, hosts-any, hosts-exact, hosts-subdomains}
use Rattle.origins.proofs.same_hosts.Goals as goal

pub returns-in_default : goal.returns-in_default
returns-in_default c = search hosts-none

pub returns-in-Any : goal.returns-in-Any
returns-in-Any c = search hosts-any

pub returns-in-Exact : goal.returns-in-Exact
returns-in-Exact c = search hosts-exact

pub returns-in-Subdomains : goal.returns-in-Subdomains
returns-in-Subdomains c = search hosts-subdomains
