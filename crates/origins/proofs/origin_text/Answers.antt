-- `origin_text` is right: empty, `null` and the scheme are tested in the order of the definition.
use Rattle.std.proofs.Common.{◌≡◌, length, rules}
use Rattle.origins.proofs.Readers.{origin-empty, origin-null, scheme-long, origin-tuple, origin-other}
use Rattle.origins.proofs.origin_text.Goals as goal

pub returns-then-is_empty : goal.returns-then-is_empty
returns-then-is_empty c = let h : length c.args.s.now ≡ 0 = search rules in
    search origin-empty

pub returns-then-same : goal.returns-then-same
returns-then-same c = let h : length c.args.s.now ≡ 0 → ⊥ = search rules in
    search origin-null

pub tuple-requires : goal.tuple-requires
tuple-requires c = search (scheme-long, c.in_ok-k.was)

pub returns : goal.returns
returns c = let h : length c.args.s.now ≡ 0 → ⊥ = search rules in
    search (origin-tuple, c.in_ok-k.was)

pub returns-in_err-k : goal.returns-in_err-k
returns-in_err-k c = let h : length c.args.s.now ≡ 0 → ⊥ = search rules in
    rw c.from_residual.ensures (search (origin-other, c.in_err-k.was))
