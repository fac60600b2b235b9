-- A hash of an expression, ours: no paper speaks of one. All that is asked of it is that it is a function of the expression.
use Rattle.std.specs.Prelude.{ℕ, suc, ◌+◌, ◌*◌, ◌%◌, List, [], ◌∷◌, Bool, not, eqb}
use Rattle.ascii.specs.Bytes.{pick}
use Rattle.origins.specs.Expressions.{HostPart, SourceExpression}
use Rattle.origins.specs.Expressions.HostPart.{no_host, any_host, exact_host, subdomains_of}
use Rattle.origins.specs.declared.Scheme.{Scheme}
use Rattle.origins.specs.declared.Scheme.TheVariants.{Http, Https}
use Rattle.origins.specs.declared.PortPart.{PortPart}
use Rattle.origins.specs.declared.PortPart.TheVariants.{Default, Any, Number}

-- of a text, from a number on: 31 times what it was, and the next byte
unfoldable pub text_hash : ℕ → List ℕ → ℕ
text_hash x [] = x
text_hash x (b ∷ l) = text_hash ((31 * x + b) % 65536) l

abbrev pub scheme_hash : Scheme → ℕ
scheme_hash Http = 0
scheme_hash Https = 31

abbrev pub port_hash : PortPart → ℕ
port_hash Default = 0
port_hash Any = 1
port_hash (Number n) = n % 65536

-- of a host part, from a number on: `*.` and a host as `*` and the host
abbrev pub host_hash : ℕ → HostPart → ℕ
host_hash x no_host = x
host_hash x any_host = (31 * x + 42) % 65536
host_hash x (exact_host h) = text_hash x h
host_hash x (subdomains_of h) = text_hash ((31 * x + 42) % 65536) h

-- of an expression: its host part's, from its scheme and port on
unfoldable pub hash_of : SourceExpression → ℕ
hash_of e = host_hash ((scheme_hash e.scheme + port_hash e.port) % 65536) e.host

abbrev pub is_other : ℕ → ℕ → Bool
is_other x y = not (eqb y x)

-- the first place of a number; past the last where there is none
unfoldable pub first_place : ℕ → List ℕ → ℕ
first_place x [] = 0
first_place x (y ∷ l) = pick (eqb y x) 0 (suc (first_place x l))
