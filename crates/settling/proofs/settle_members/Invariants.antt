-- `settle_members` is right: the run begins with the document of the members so far, and these and the members from the cursor on are all.
use Rattle.std.proofs.Common.{◌-◌, ◌^◌, ◌≡◌, length}
use Rattle.settling.proofs.Members.{Going}
use Rattle.settling.proofs.settle_members.Given as goal

abbrev pub invariant-loop-m : goal.invariant-loop-m
invariant-loop-m l = (length l.d ≡ length l.initial.d) × Going l.s l.initial.d l.c l.d l.w

abbrev pub decreases-loop-m : goal.decreases-loop-m
decreases-loop-m l = 2 ^ 64 - l.c
