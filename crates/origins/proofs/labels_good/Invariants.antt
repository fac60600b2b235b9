-- `labels_good` is right: at each place the scan of what is left is the scan of the whole, and scanning is the test of every label.
use Rattle.std.proofs.Common.{◌≡◌, drop}
use Rattle.ascii.specs.Texts.{every, lowered}
use Rattle.origins.specs.Hosts.{labels, is_label}
use Rattle.origins.proofs.Hosts.{scan}
use Rattle.origins.proofs.labels_good.Given as goal

abbrev pub invariant-loop-c : goal.invariant-loop-c
invariant-loop-c l = scan l.starts (lowered (drop l.c-index l.h)) ≡ every is_label (labels (lowered l.h))
