-- `tuple` is right: the host up to a colon, if it is good, and what is left is the port, both read as in the definition.
use Rattle.origins.proofs.Sources.{end-from, end-upto, tuple-bad-host, tuple-long-host, tuple-bad-port, tuple-read}
use Rattle.origins.proofs.tuple.Goals as goal

pub overflow_sub-to : goal.overflow_sub-to
overflow_sub-to c = search (end-from, c.in_ok-to.was)

pub returns-then-to-from-gt-HOST_BYTES : goal.returns-then-to-from-gt-HOST_BYTES
returns-then-to-from-gt-HOST_BYTES c = search (tuple-long-host, c.in_ok-to.was)

pub slice_bounds-origin_port-count : goal.slice_bounds-origin_port-count
slice_bounds-origin_port-count c = search (end-upto, c.in_ok-to.was)

pub slice_bounds-origin_port-start : goal.slice_bounds-origin_port-start
slice_bounds-origin_port-start c = search (end-upto, c.in_ok-to.was)

pub returns : goal.returns
returns c = search (tuple-read, c.in_ok-to.was, c.in_ok-port.was)

pub returns-in_err-port : goal.returns-in_err-port
returns-in_err-port c = rw c.from_residual-in_err-port.ensures (search (tuple-bad-port, c.in_ok-to.was, c.in_err-port.was))

pub returns-in_err-to : goal.returns-in_err-to
returns-in_err-to c = rw c.from_residual.ensures (search (tuple-bad-host, c.in_err-to.was))
