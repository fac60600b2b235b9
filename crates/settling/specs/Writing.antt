-- 01, "How a decision falls": "Policies are settled at load." The bytes that a header is settled into; `settled` has the layout, and says what they say.
use Rattle.std.specs.Prelude.{ℕ, ◌+◌, ◌*◌, ◌/◌, ◌%◌, List, [], ◌∷◌, ◌++◌, map, true, false, length, take, drop, replicate}
use Rattle.std.specs.Prelude.{Option, Some, None}
use Rattle.features.specs.Features.{feature_of}
use Rattle.origins.specs.Expressions.{HostPart, SourceExpression}
use Rattle.origins.specs.Expressions.HostPart.{no_host, any_host, exact_host, subdomains_of}
use Rattle.origins.specs.Answers.{host_kind}
use Rattle.origins.specs.declared.Scheme.{Scheme}
use Rattle.origins.specs.declared.Scheme.TheVariants.{Http, Https}
use Rattle.origins.specs.declared.HostKind.{HostKind}
use Rattle.origins.specs.declared.HostKind.TheVariants as kind
use Rattle.origins.specs.declared.PortPart.{PortPart}
use Rattle.origins.specs.declared.PortPart.TheVariants as port
use Rattle.dictionaries.specs.Dictionaries.{Value, Plain, value_items, members}
use Rattle.dictionaries.specs.Lookup.{into}
use Rattle.allowlists.specs.Allowlists.{Allowlist, sources_of}
use Rattle.allowlists.specs.Allowlists.Allowlist.{all, listed}
use Rattle.declarations.specs.Declarations.{item_meaning, value_declares}
use Rattle.settled.specs.Settled.{entry_bytes, head_bytes}

-- the parts of an expression's kind, and its port, as numbers
abbrev pub scheme_number : Scheme → ℕ
scheme_number Http = 0
scheme_number Https = 1

abbrev pub host_number : Option HostKind → ℕ
host_number None = 0
host_number (Some kind.Any) = 1
host_number (Some kind.Exact) = 2
host_number (Some kind.Subdomains) = 3

abbrev pub port_number : PortPart → ℕ
port_number port.Default = 0
port_number port.Any = 1
port_number (port.Number n) = 2

abbrev pub port_value : PortPart → ℕ
port_value port.Default = 0
port_value port.Any = 0
port_value (port.Number n) = n

-- the host that an expression names, empty where it names none
abbrev pub host_text : HostPart → List ℕ
host_text no_host = []
host_text any_host = []
host_text (exact_host h) = h
host_text (subdomains_of h) = h

abbrev pub kind_of : SourceExpression → ℕ
kind_of e = scheme_number e.scheme + 2 * host_number (host_kind e.host) + 8 * port_number e.port

-- an expression: its kind, the length of its host, its port in two bytes, and the host
unfoldable pub expression_bytes : SourceExpression → List ℕ
expression_bytes e =
    kind_of e ∷ length (host_text e.host) ∷ port_value e.port % 256 ∷ port_value e.port / 256 ∷ host_text e.host

unfoldable pub expressions_bytes : List SourceExpression → List ℕ
expressions_bytes [] = []
expressions_bytes (e ∷ es) = expression_bytes e ++ expressions_bytes es

-- the expressions of a member's value, those of a list with `*` too
abbrev pub value_sources : Value → List SourceExpression
value_sources v = sources_of (map item_meaning (value_items v))

-- the mark of what is declared
unfoldable pub mark_of : Option Allowlist → ℕ
mark_of None = 0
mark_of (Some all) = 1
mark_of (Some (listed false b es)) = 2
mark_of (Some (listed true b es)) = 3

-- an entry of the head: a mark, where the expressions start past the head, and how many they are
abbrev pub entry_text : ℕ → ℕ → ℕ → List ℕ
entry_text mark start count = mark ∷ start % 256 ∷ start / 256 ∷ count % 256 ∷ count / 256 ∷ []

-- a head with another entry for a feature
unfoldable pub with_entry : List ℕ → ℕ → List ℕ → List ℕ
with_entry head n t = take (entry_bytes * n) head ++ (t ++ drop (entry_bytes * n + entry_bytes) head)

-- a head and the bytes past it
pub record SettledDocument : Type 0 where
  pub head : List ℕ
  pub body : List ℕ

-- a feature's value: its expressions stand past those so far, and its entry tells of them; a key that is no feature's name counts for nothing
unfoldable pub with_value : SettledDocument → Option ℕ → Value → SettledDocument
with_value d None v = d
with_value d (Some n) v =
    record {
      head = with_entry d.head n (entry_text (mark_of (value_declares v)) (length d.body) (length (value_sources v)));
      body = d.body ++ expressions_bytes (value_sources v);
    }

-- "A repeated key keeps only its last value": no entry tells any longer of a list that a later member replaces
abbrev pub with_member : SettledDocument → Plain → SettledDocument
with_member d m = with_value d (feature_of m.key) m.value

abbrev pub empty_document : SettledDocument
empty_document = record { head = replicate head_bytes 0; body = [] }

-- "A malformed header declares nothing"
unfoldable pub document_of : Option (List Plain) → SettledDocument
document_of (Some ms) = into with_member empty_document ms
document_of None = empty_document

-- the bytes that a header is settled into
unfoldable pub settled_bytes : List ℕ → List ℕ
settled_bytes s = (document_of (members s)).head ++ (document_of (members s)).body
