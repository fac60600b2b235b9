-- `same_parts` is right: kind of host, host, scheme and port are compared, each as the definition does.
use Rattle.std.proofs.Common.{◌≡◌, rules}
use Rattle.origins.proofs.NormalForms.{kind-differs, hosts-differ, scheme-differs, ports-left}
use Rattle.origins.proofs.same_parts.Goals as goal

pub returns-then-ne : goal.returns-then-ne
returns-then-ne c = let h : c.args.e.host ≡ c.args.f.host → ⊥ = search rules in search kind-differs

pub returns-then-not-same_hosts : goal.returns-then-not-same_hosts
returns-then-not-same_hosts c = let h : c.args.e.host ≡ c.args.f.host = search rules in search hosts-differ

pub returns-then-ne-2 : goal.returns-then-ne-2
returns-then-ne-2 c =
    let h : c.args.e.host ≡ c.args.f.host = search rules in
    let k : c.args.e.scheme ≡ c.args.f.scheme → ⊥ = search rules in
    search scheme-differs

pub returns : goal.returns
returns c =
    let h : c.args.e.host ≡ c.args.f.host = search rules in
    let k : c.args.e.scheme ≡ c.args.f.scheme = search rules in
    ports-left _ _ _ _ h _ c.same_hosts.ensures c.if-not-same_hosts.false k _ _ _ c.normal_port.ensures c.normal_port-2.ensures (search rules) (search rules)
