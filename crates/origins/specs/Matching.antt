-- 01, "Origins and expressions", with R-3 of 02: whether an expression admits an origin, and whether two origins are the same.
use Rattle.std.specs.Prelude.{ℕ, ◌-◌, List, ◌∷◌, Bool, true, false, ◌&&◌, length, drop, ltb, eqb}
use Rattle.ascii.specs.Texts.{same_bytes}
use Rattle.origins.specs.Ports.{default_port}
use Rattle.origins.specs.Origins.{TupleOrigin, Origin}
use Rattle.origins.specs.Origins.Origin.{tuple, opaque, fresh}
use Rattle.origins.specs.Expressions.{HostPart, SourceExpression}
use Rattle.origins.specs.Expressions.HostPart.{no_host, any_host, exact_host, subdomains_of}
use Rattle.origins.specs.declared.Scheme.{Scheme}
use Rattle.origins.specs.declared.Scheme.TheVariants.{Http, Https}
use Rattle.origins.specs.declared.PortPart.{PortPart}
use Rattle.origins.specs.declared.PortPart.TheVariants.{Default, Any, Number}

abbrev pub same_scheme : Scheme → Scheme → Bool
same_scheme Http Http = true
same_scheme Http Https = false
same_scheme Https Http = false
same_scheme Https Https = true

-- an expression's scheme against an origin's: "The scheme must be equal."; R-3, "`http:` and `http://...` admit https origins too"
unfoldable pub scheme_admits : Scheme → Scheme → Bool
scheme_admits Http j = true
scheme_admits Https j = same_scheme Https j

-- ends in a text, with at least one byte before it
unfoldable pub ends_in : List ℕ → List ℕ → Bool
ends_in t h = ltb (length t) (length h) && same_bytes t (drop (length h - length t) h)

-- a port-part against the scheme and the port of an origin: R-3, "a missing port means the default port of the origin's own scheme"
unfoldable pub port_admits : PortPart → Scheme → ℕ → Bool
port_admits Default j n = eqb n (default_port j)
port_admits Any j n = true
port_admits (Number m) j n = eqb n m

-- `*.` and a host "admits hosts ending in the dot and the host with at least one byte before"; "It is matched byte for byte"
unfoldable pub host_admits : HostPart → PortPart → TupleOrigin → Bool
host_admits no_host p o = true
host_admits any_host p o = port_admits p o.scheme o.port
host_admits (exact_host h) p o = same_bytes h o.host && port_admits p o.scheme o.port
host_admits (subdomains_of h) p o = ends_in (46 ∷ h) o.host && port_admits p o.scheme o.port

-- scheme first, then host and port
unfoldable pub admits_tuple : SourceExpression → TupleOrigin → Bool
admits_tuple e o = scheme_admits e.scheme o.scheme && host_admits e.host e.port o

-- "No expression admits an opaque origin."
unfoldable pub admits : SourceExpression → Origin → Bool
admits e (tuple o) = admits_tuple e o
admits e (opaque n) = false
admits e fresh = false

unfoldable pub same_tuple : TupleOrigin → TupleOrigin → Bool
same_tuple a b = same_scheme a.scheme b.scheme && same_bytes a.host b.host && eqb a.port b.port

-- an opaque origin is "equal to nothing but itself and to documents that take it over"; a fresh one equals nothing
unfoldable pub same_origin : Origin → Origin → Bool
same_origin (tuple a) (tuple b) = same_tuple a b
same_origin (tuple a) (opaque n) = false
same_origin (tuple a) fresh = false
same_origin (opaque m) (tuple b) = false
same_origin (opaque m) (opaque n) = eqb m n
same_origin (opaque m) fresh = false
same_origin fresh o = false
