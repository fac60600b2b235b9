-- 01, "Origins and expressions": source expressions. The names are those of Content Security Policy Level 3.
use Rattle.std.specs.Prelude.{ℕ, List, Bool, length, take, drop}
use Rattle.std.specs.Prelude.{Option, Some, None}
use Rattle.ascii.specs.Bytes.{pick}
use Rattle.ascii.specs.Literals.{text}
use Rattle.ascii.specs.Texts.{lowered, same_bytes, same_lowered}
use Rattle.ascii.specs.Reading.{run_of, past}
use Rattle.origins.specs.Hosts.{is_host}
use Rattle.origins.specs.Ports.{port_part_of}
use Rattle.origins.specs.Origins.{scheme_text, scheme_slashes, past_scheme, starts_with, not_colon}
use Rattle.origins.specs.declared.Scheme.{Scheme}
use Rattle.origins.specs.declared.Scheme.TheVariants.{Http, Https}
use Rattle.origins.specs.declared.PortPart.{PortPart}
use Rattle.origins.specs.declared.PortPart.TheVariants.{Default}

-- "The host part is a host, `*` (any host), or `*.` and a host"; a scheme-source has none
pub data HostPart : Type 0 where
  no_host : HostPart
  any_host : HostPart
  exact_host : List ℕ → HostPart
  subdomains_of : List ℕ → HostPart

-- hosts are kept in lower case: "scheme and host letters in expressions ignore case"
pub record SourceExpression : Type 0 where
  pub scheme : Scheme
  pub host : HostPart
  pub port : PortPart

-- of a host part in lower case
unfoldable pub host_part_of : List ℕ → Option HostPart
host_part_of h =
    pick (same_bytes h (text "*")) (Some any_host)
    (pick (starts_with (text "*.") h) (pick (is_host (drop 2 h)) (Some (subdomains_of (drop 2 h))) None)
    (pick (is_host h) (Some (exact_host h)) None))

-- "`http:` or `https:` alone (any origin of that scheme)"; by R-3 of 02 `http:` is any http or https origin
abbrev pub scheme_source : Scheme → SourceExpression
scheme_source k = record { scheme = k; host = no_host; port = Default }

unfoldable pub with_parts : Scheme → Option HostPart → Option PortPart → Option SourceExpression
with_parts k (Some h) (Some p) = Some (record { scheme = k; host = h; port = p })
with_parts k (Some h) None = None
with_parts k None p = None

-- past the scheme and `://`: a host part, and perhaps a port-part
unfoldable pub host_source_of : Scheme → List ℕ → Option SourceExpression
host_source_of k l = with_parts k (host_part_of (lowered (run_of not_colon l))) (port_part_of (past not_colon l))

-- begins with a text, ignoring the case of what is read
unfoldable pub starts_lowered : List ℕ → List ℕ → Bool
starts_lowered t s = same_lowered (take (length t) s) t

-- the expression that a text is, or none: "A path, a missing scheme or another scheme makes it no expression"
unfoldable pub expression_of : List ℕ → Option SourceExpression
expression_of s =
    pick (same_lowered s (scheme_text Http)) (Some (scheme_source Http))
    (pick (same_lowered s (scheme_text Https)) (Some (scheme_source Https))
    (pick (starts_lowered (scheme_slashes Http) s) (host_source_of Http (past_scheme Http s))
    (pick (starts_lowered (scheme_slashes Https) s) (host_source_of Https (past_scheme Https s)) None)))
