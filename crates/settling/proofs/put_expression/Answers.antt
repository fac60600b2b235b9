-- `put_expression` is right: its parts stand one after the other.
use Rattle.std.proofs.Common.{arith}
use Rattle.settling.proofs.Writes.{room-front, room-host, host-fits, port-fits, expression-wrote}
use Rattle.settling.proofs.put_expression.Goals as goal

pub overflow_cast-host : goal.overflow_cast-host
overflow_cast-host c = omega (arith, host-fits c.args.x.now _ c.args.e c.host_of-host.ensures c.requires.0.host)

pub put-o-requires : goal.put-o-requires
put-o-requires c = search room-front

pub put_lowered-requires : goal.put_lowered-requires
put_lowered-requires c = search room-host

pub returns : goal.returns
returns c =
    let fits = port-fits c.args.e.parts.port c.port_value.result c.requires.0.port c.port_value.ensures in
    search expression-wrote
