-- What the code's answers mean: 01's values for each of their cases, with hosts as ranges of the texts that they stand in.
use Rattle.std.specs.Prelude.{ℕ, ◌+◌, ◌≡◌, List, ◌++◌, length, drop, replicate}
use Rattle.std.specs.Prelude.{Option, Some, None}
use Rattle.limits.specs.Limits.{port_digits}
use Rattle.ascii.specs.Texts.{lowered, part_in}
use Rattle.origins.specs.Origins.{TupleOrigin, Origin, OriginSaid, scheme_slashes}
use Rattle.origins.specs.Origins.Origin.{tuple, opaque, fresh}
use Rattle.origins.specs.Origins.OriginSaid.{says_empty, says_null, says_tuple, no_origin}
use Rattle.origins.specs.Expressions.{HostPart, SourceExpression}
use Rattle.origins.specs.Expressions.HostPart.{no_host, any_host, exact_host, subdomains_of}
use Rattle.origins.specs.NormalForms.{port_text}
use Rattle.origins.specs.declared.PortText.{PortText}
use Rattle.origins.specs.declared.Scheme.{Scheme}
use Rattle.origins.specs.declared.TupleRange.{TupleRange}
use Rattle.origins.specs.declared.OriginText.{OriginText}
use Rattle.origins.specs.declared.OriginText.TheVariants as text
use Rattle.origins.specs.declared.OriginRange.{OriginRange}
use Rattle.origins.specs.declared.OriginRange.TheVariants as range
use Rattle.origins.specs.declared.HostKind.{HostKind}
use Rattle.origins.specs.declared.HostKind.TheVariants as kind
use Rattle.origins.specs.declared.ExpressionRange.{ExpressionRange}
use Rattle.origins.specs.declared.ExpressionParts.{ExpressionParts}
use Rattle.origins.specs.declared.TupleParts.{TupleParts}

-- the host stands right past the scheme and `://`
abbrev pub tuple_range : TupleOrigin → TupleRange
tuple_range o =
    record { parts = record { scheme = o.scheme; port = o.port }; host = record { from = length (scheme_slashes o.scheme); to = length (scheme_slashes o.scheme) + length o.host } }

-- the answer to an origin text
abbrev pub origin_as : OriginSaid → Option OriginText
origin_as says_empty = Some text.Empty
origin_as says_null = Some text.Null
origin_as (says_tuple o) = Some (text.Tuple (tuple_range o))
origin_as no_origin = None

-- the origin that parts say beside the text of its host, and that a range in a text stands for
abbrev pub tuple_by : TupleParts → List ℕ → TupleOrigin
tuple_by o h = record { scheme = o.scheme; host = h; port = o.port }

abbrev pub tuple_in : List ℕ → TupleRange → TupleOrigin
tuple_in s r = tuple_by r.parts (part_in s r.host)

abbrev pub origin_in : List ℕ → OriginRange → Origin
origin_in s (range.Tuple r) = tuple (tuple_in s r)
origin_in s (range.Opaque n) = opaque n
origin_in s range.Fresh = fresh

-- a host part's kind, and where its host begins and ends; with no host, the empty range at 0
abbrev pub host_kind : HostPart → Option HostKind
host_kind no_host = None
host_kind any_host = Some kind.Any
host_kind (exact_host h) = Some kind.Exact
host_kind (subdomains_of h) = Some kind.Subdomains

abbrev pub host_from : Scheme → HostPart → ℕ
host_from k no_host = 0
host_from k any_host = 0
host_from k (exact_host h) = length (scheme_slashes k)
host_from k (subdomains_of h) = length (scheme_slashes k) + 2

abbrev pub host_to : Scheme → HostPart → ℕ
host_to k no_host = 0
host_to k any_host = 0
host_to k (exact_host h) = length (scheme_slashes k) + length h
host_to k (subdomains_of h) = length (scheme_slashes k) + 2 + length h

abbrev pub expression_range : SourceExpression → ExpressionRange
expression_range e =
    record { parts = record { scheme = e.scheme; host = host_kind e.host; port = e.port }; host = record { from = host_from e.scheme e.host; to = host_to e.scheme e.host } }

-- the answer to a text that may be an expression
abbrev pub source_as : Option SourceExpression → Option ExpressionRange
source_as (Some e) = Some (expression_range e)
source_as None = None

-- the expression that parts say beside the text of its host, and that a range in a text stands for
abbrev pub host_in : Option HostKind → List ℕ → HostPart
host_in None h = no_host
host_in (Some kind.Any) h = any_host
host_in (Some kind.Exact) h = exact_host h
host_in (Some kind.Subdomains) h = subdomains_of h

abbrev pub expression_by : ExpressionParts → List ℕ → SourceExpression
expression_by e h = record { scheme = e.scheme; host = host_in e.host h; port = e.port }

abbrev pub expression_in : List ℕ → ExpressionRange → SourceExpression
expression_in s r = expression_by r.parts (lowered (part_in s r.host))

-- a port's digits at the end of five bytes, zeros before them
pub record IsPortText (n : ℕ) (r : PortText) : Type 0 where
  pub from : r.from + length (port_text n) ≡ port_digits
  pub bytes : r.bytes ≡ replicate r.from 48 ++ port_text n
  pub text : drop r.from r.bytes ≡ port_text n
