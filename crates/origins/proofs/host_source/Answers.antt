-- `host_source` is right: the run up to a colon is the host part, what is left is the port-part, and both are read as in the definition.
use Rattle.origins.proofs.Sources.{source-no-port, source-no-host, source-any, source-exact, source-subdomains}
use Rattle.origins.proofs.host_source.Goals as goal

pub returns-in-Any : goal.returns-in-Any
returns-in-Any c = search (source-any, c.in_ok-port.was, c.in_ok-kind.was)

pub returns-in-Exact : goal.returns-in-Exact
returns-in-Exact c = search (source-exact, c.in_ok-port.was, c.in_ok-kind.was)

pub returns-in-Subdomains : goal.returns-in-Subdomains
returns-in-Subdomains c = search (source-subdomains, c.in_ok-port.was, c.in_ok-kind.was)

pub returns-in_err-kind : goal.returns-in_err-kind
returns-in_err-kind c = rw c.from_residual-in_err-kind.ensures (search (source-no-host, c.in_ok-port.was, c.in_err-kind.was))

pub returns-in_err-port : goal.returns-in_err-port
returns-in_err-port c = rw c.from_residual.ensures (search (source-no-port, c.in_err-port.was))
