-- 01, "each expression once", with R-3 of 02: expressions that admit the same origins, and which of them keep two normal forms.
use Rattle.std.specs.Prelude.{ℕ, ◌+◌, ◌<◌, ◌≡◌, List, length}
use Rattle.limits.specs.Limits.{host_bytes}
use Rattle.origins.specs.Origins.{TupleOrigin}
use Rattle.origins.specs.Origins.Origin.{tuple}
use Rattle.origins.specs.Expressions.{SourceExpression, scheme_source}
use Rattle.origins.specs.Expressions.HostPart.{any_host, subdomains_of}
use Rattle.origins.specs.Matching.{admits}
use Rattle.origins.specs.NormalForms.{normal_form, GoodOrigin}
use Rattle.origins.specs.declared.Scheme.{Scheme}
use Rattle.origins.specs.declared.PortPart.{PortPart}
use Rattle.origins.specs.declared.PortPart.TheVariants.{Any}

-- they admit the same of the tuple origins that texts can say
abbrev pub AdmitAlike : SourceExpression → SourceExpression → Type 0
AdmitAlike e f = (o : TupleOrigin) → GoodOrigin o → admits e (tuple o) ≡ admits f (tuple o)

-- a host below which there is none, by "A host is 1 to 253 bytes": with a byte and a dot before it, it would be longer
abbrev pub NoneBelow : List ℕ → Type 0
NoneBelow h = host_bytes < 2 + length h

-- `*.` and a host, with a scheme and a port-part
abbrev pub below : Scheme → List ℕ → PortPart → SourceExpression
below k h p = record { scheme = k; host = subdomains_of h; port = p }

-- they admit the same origins and stay two
pub data StayTwo : SourceExpression → SourceExpression → Type 0 where
  -- `https:` and `https://*:*`; `http:` and `http://*:*`
  everything : (k : Scheme) → StayTwo (scheme_source k) (record { scheme = k; host = any_host; port = Any })
  -- two that admit nothing, whatever their schemes and ports: `*.` and hosts below which there is none, if their normal forms differ
  nothing : (k j : Scheme) (g h : List ℕ) (p q : PortPart) → NoneBelow g → NoneBelow h → (normal_form (below k g p) ≡ normal_form (below j h q) → ⊥) → StayTwo (below k g p) (below j h q)
