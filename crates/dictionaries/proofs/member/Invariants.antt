-- At each cursor the newest so far, and then the members from there on, give the last of all members.
use Rattle.std.proofs.Common.{◌-◌, ◌^◌}
use Rattle.dictionaries.proofs.Lookup.{SoFar}
use Rattle.dictionaries.proofs.member.Given as goal

abbrev pub invariant-loop-m : goal.invariant-loop-m
invariant-loop-m l = SoFar l.s l.key l.newest l.cursor

abbrev pub decreases-loop-m : goal.decreases-loop-m
decreases-loop-m l = 2 ^ 64 - l.cursor
