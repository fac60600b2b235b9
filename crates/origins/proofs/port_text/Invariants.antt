-- `port_text` is right: before each digit, what is left to write and what is written make the port.
use Rattle.origins.proofs.PortTexts.{Writing}
use Rattle.origins.proofs.port_text.Given as goal

abbrev pub invariant-loop-from : goal.invariant-loop-from
invariant-loop-from l = Writing l.n l.bytes l.from l.left
