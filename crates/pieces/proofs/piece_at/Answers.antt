-- `piece_at` is right: its first word is looked up as a feature, and what follows that word, up to the end of the piece, holds the further words.
use Rattle.std.proofs.Common.{arith}
use Rattle.ascii.proofs.Texts.{part-in}
use Rattle.pieces.proofs.Finding.{piece-empty, piece-unknown, piece-known, known-below}
use Rattle.pieces.proofs.piece_at.Goals as goal

pub returns-in_err-name : goal.returns-in_err-name
returns-in_err-name c = rw c.from_residual.ensures (record { is = search (piece-empty, part-in, c.in_err-name.was); below = omega arith })

pub returns-in_err-feature : goal.returns-in_err-feature
returns-in_err-feature c = rw c.from_residual-in_err-feature.ensures (record { is = search (piece-unknown, part-in, c.in_err-feature.was, c.in_ok-name.was); below = omega arith })

pub returns : goal.returns
returns c = record { is = search (piece-known, part-in, c.in_ok-name.was, c.in_ok-feature.was); below = search (known-below, c.in_ok-feature.was) }
