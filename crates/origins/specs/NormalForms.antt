-- 01, "Tidied headers", with R-3 of 02: an expression's normal form, "lower case, no leading zeros, default port dropped"; and an origin's text.
use Rattle.std.specs.Prelude.{ℕ, ◌+◌, ◌≤◌, ◌≡◌, List, [], ◌∷◌, ◌++◌, Bool, true, false, ◌&&◌, eqb}
use Rattle.limits.specs.Limits.{last_port, host_bytes, port_digits}
use Rattle.ascii.specs.Bytes.{pick}
use Rattle.ascii.specs.Texts.{same_bytes}
use Rattle.ascii.specs.Decimals.{last_digits}
use Rattle.origins.specs.Hosts.{is_host, is_origin_host}
use Rattle.origins.specs.Ports.{default_port}
use Rattle.origins.specs.Origins.{TupleOrigin, scheme_text, scheme_slashes}
use Rattle.origins.specs.Expressions.{HostPart, SourceExpression}
use Rattle.origins.specs.Expressions.HostPart.{no_host, any_host, exact_host, subdomains_of}
use Rattle.origins.specs.Matching.{same_scheme}
use Rattle.origins.specs.declared.Scheme.{Scheme}
use Rattle.origins.specs.declared.Scheme.TheVariants.{Http, Https}
use Rattle.origins.specs.declared.PortPart.{PortPart}
use Rattle.origins.specs.declared.PortPart.TheVariants.{Default, Any, Number}

-- a port without leading zeros
abbrev pub port_text : ℕ → List ℕ
port_text n = last_digits port_digits n

unfoldable pub port_part_text : PortPart → List ℕ
port_part_text Default = []
port_part_text Any = 58 ∷ 42 ∷ []
port_part_text (Number n) = 58 ∷ port_text n

unfoldable pub expression_parts_text : Scheme → HostPart → PortPart → List ℕ
expression_parts_text k no_host p = scheme_text k
expression_parts_text k any_host p = scheme_slashes k ++ (42 ∷ port_part_text p)
expression_parts_text k (exact_host h) p = scheme_slashes k ++ (h ++ port_part_text p)
expression_parts_text k (subdomains_of h) p = scheme_slashes k ++ (42 ∷ 46 ∷ (h ++ port_part_text p))

-- an expression as a text
abbrev pub expression_text : SourceExpression → List ℕ
expression_text e = expression_parts_text e.scheme e.host e.port

-- whether a port after a scheme is dropped: "default port dropped", and R-3, "the tidied form keeps a written `:80` after http"
unfoldable pub is_dropped : Scheme → ℕ → Bool
is_dropped Http n = false
is_dropped Https n = eqb n (default_port Https)

unfoldable pub normal_port : Scheme → PortPart → PortPart
normal_port k Default = Default
normal_port k Any = Any
normal_port k (Number n) = pick (is_dropped k n) Default (Number n)

-- the default port of https dropped
unfoldable pub normal : SourceExpression → SourceExpression
normal e = record { scheme = e.scheme; host = e.host; port = normal_port e.scheme e.port }

-- the normal form of an expression
abbrev pub normal_form : SourceExpression → List ℕ
normal_form e = expression_text (normal e)

-- whether two expressions are the same, part by part
unfoldable pub same_host : HostPart → HostPart → Bool
same_host no_host no_host = true
same_host no_host any_host = false
same_host no_host (exact_host y) = false
same_host no_host (subdomains_of y) = false
same_host any_host no_host = false
same_host any_host any_host = true
same_host any_host (exact_host y) = false
same_host any_host (subdomains_of y) = false
same_host (exact_host x) no_host = false
same_host (exact_host x) any_host = false
same_host (exact_host x) (exact_host y) = same_bytes x y
same_host (exact_host x) (subdomains_of y) = false
same_host (subdomains_of x) no_host = false
same_host (subdomains_of x) any_host = false
same_host (subdomains_of x) (exact_host y) = false
same_host (subdomains_of x) (subdomains_of y) = same_bytes x y

unfoldable pub same_port : PortPart → PortPart → Bool
same_port Default Default = true
same_port Default Any = false
same_port Default (Number n) = false
same_port Any Default = false
same_port Any Any = true
same_port Any (Number n) = false
same_port (Number m) Default = false
same_port (Number m) Any = false
same_port (Number m) (Number n) = eqb m n

unfoldable pub same_expression : SourceExpression → SourceExpression → Bool
same_expression a b = same_scheme a.scheme b.scheme && same_port a.port b.port && same_host a.host b.host

-- a tuple origin's text
unfoldable pub origin_text : TupleOrigin → List ℕ
origin_text o =
    scheme_slashes o.scheme ++ (o.host ++ pick (eqb o.port (default_port o.scheme)) [] (58 ∷ port_text o.port))

-- the longest origin text: `https://`, a host, `:` and a port
abbrev pub origin_bytes : ℕ
origin_bytes = 8 + host_bytes + 1 + port_digits

-- port-parts that a text can say
abbrev pub GoodPort : PortPart → Type 0
GoodPort Default = Unit {0}
GoodPort Any = Unit {0}
GoodPort (Number n) = n ≤ last_port

-- host parts that a text can say
abbrev pub GoodHost : HostPart → PortPart → Type 0
GoodHost no_host p = p ≡ Default
GoodHost any_host p = Unit {0}
GoodHost (exact_host h) p = is_host h ≡ true
GoodHost (subdomains_of h) p = is_host h ≡ true

-- an expression that a text can say
pub record GoodExpression (e : SourceExpression) : Type 0 where
  pub host : GoodHost e.host e.port
  pub port : GoodPort e.port

-- an origin that a text can say
pub record GoodOrigin (o : TupleOrigin) : Type 0 where
  pub host : is_origin_host o.host ≡ true
  pub port : o.port ≤ last_port
