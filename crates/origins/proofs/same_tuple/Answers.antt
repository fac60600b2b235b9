-- `same_tuple` is right: scheme and port are compared at once, and then the hosts.
use Rattle.origins.proofs.Matches.{tuples-apart, tuples-hosts}
use Rattle.origins.proofs.same_tuple.Goals as goal

pub returns-then-eq : goal.returns-then-eq
returns-then-eq c = search tuples-hosts

pub returns-else-eq : goal.returns-else-eq
returns-else-eq c = search tuples-apart
