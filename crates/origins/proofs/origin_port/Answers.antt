-- `origin_port` is right: nothing stands for the default port; else a zero in front, the number and the default decide as in the definition.
use Rattle.std.proofs.Common.{◌≡◌, length, rules}
use Rattle.origins.proofs.Ports.{port-default, port-zero, port-bad, port-same, port-is}
use Rattle.origins.proofs.origin_port.Goals as goal

pub returns-then-is_empty : goal.returns-then-is_empty
returns-then-is_empty c = port-default _ _ _ (search rules) c.default_port.ensures

pub returns-then-leads_zero : goal.returns-then-leads_zero
returns-then-leads_zero c = port-zero _ _ (search rules) _ c.leads_zero.ensures c.if-leads_zero.true

pub returns-then-n-default_port : goal.returns-then-n-default_port
returns-then-n-default_port c = let h : length c.args.p.now ≡ 0 → ⊥ = search rules in
    search (port-same, c.in_ok-n.was)

pub returns-else-n-default_port : goal.returns-else-n-default_port
returns-else-n-default_port c = let h : length c.args.p.now ≡ 0 → ⊥ = search rules in
    search (port-is, c.in_ok-n.was)

pub returns-in_err-n : goal.returns-in_err-n
returns-in_err-n c = let h : length c.args.p.now ≡ 0 → ⊥ = search rules in
    rw c.from_residual.ensures (search (port-bad, c.in_err-n.was))
