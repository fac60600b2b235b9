-- `text_hash` is right: the hash of what is left, from the number so far on, is that of the whole text.
use Rattle.std.proofs.Common.{◌≡◌, drop}
use Rattle.hashes.specs.Hashes.{text_hash}
use Rattle.hashes.proofs.text_hash.Given as goal

abbrev pub invariant-loop-b : goal.invariant-loop-b
invariant-loop-b l = text_hash l.x (drop l.b-index l.t) ≡ text_hash l.start l.t
