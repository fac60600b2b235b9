-- `host_end` is right: at each place the scan of what is left up to the colon is that of the whole.
use Rattle.origins.proofs.HostEnds.{Scanning}
use Rattle.origins.proofs.host_end.Given as goal

abbrev pub invariant-loop-i : goal.invariant-loop-i
invariant-loop-i l = Scanning l.s l.from l.i l.starts
