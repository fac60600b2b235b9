-- `put_serials` is right: before each turn the count and the serials so far are put.
use Rattle.std.proofs.Common.{◌≡◌, length, take}
use Rattle.writing.specs.Writing.{Puts}
use Rattle.replay_answers.specs.Texts.{serials_text}
use Rattle.replay_answers.proofs.put_serials.Given as goal

abbrev pub invariant-loop-serial : goal.invariant-loop-serial
invariant-loop-serial l = (length l.run ≡ length l.initial.run) × Puts l.initial.run l.initial.o (serials_text (take l.serial-index l.serials)) l.run l.o
