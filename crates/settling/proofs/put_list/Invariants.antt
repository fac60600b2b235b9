-- `put_list` is right: what was written and what is left are the expressions of the whole list.
use Rattle.std.proofs.Common.{◌-◌, ◌^◌, ◌≡◌, length}
use Rattle.settling.proofs.Listing.{Listing}
use Rattle.settling.proofs.put_list.Given as goal

abbrev pub invariant-loop-found : goal.invariant-loop-found
invariant-loop-found l = (length l.d ≡ length l.initial.d) × Listing l.s l.first l.c l.initial.d l.at l.d l.n

abbrev pub decreases-loop-found : goal.decreases-loop-found
decreases-loop-found l = 2 ^ 64 - l.c
