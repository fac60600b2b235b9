-- `put_lowered` is right: what was written so far is the front of the text, in lower case.
use Rattle.std.proofs.Common.{◌+◌, ◌≡◌, length, take}
use Rattle.ascii.specs.Texts.{lowered}
use Rattle.settling.specs.Steps.{Wrote}
use Rattle.settling.proofs.put_lowered.Given as goal

abbrev pub invariant-loop-j : goal.invariant-loop-j
invariant-loop-j l = (length l.d ≡ length l.initial.d) × Wrote l.initial.d l.at (lowered (take l.j l.t)) l.d (l.at + l.j)
