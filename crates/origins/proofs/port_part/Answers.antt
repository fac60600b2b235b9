-- `port_part` is right: nothing, `*` and digits are tested as in the definition.
use Rattle.std.proofs.Common.{◌≡◌, length, rules}
use Rattle.origins.proofs.Ports.{part-default, part-any, part-number, part_none}
use Rattle.origins.proofs.port_part.Goals as goal

pub returns-then-is_empty : goal.returns-then-is_empty
returns-then-is_empty c = part-default _ (search rules)

pub returns-then-same : goal.returns-then-same
returns-then-same c = part-any _ (search rules) _ c.same.ensures c.if-same.true

pub returns : goal.returns
returns c = let h : length c.args.p.now ≡ 0 → ⊥ = search rules in
    search (part-number, c.in_ok-n.was)

pub returns-in_err-n : goal.returns-in_err-n
returns-in_err-n c = let h : length c.args.p.now ≡ 0 → ⊥ = search rules in
    rw c.from_residual.ensures (search (part_none, c.in_err-n.was))
