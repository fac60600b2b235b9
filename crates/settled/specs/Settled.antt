-- 01, "How a decision falls": "Policies are settled at load." What the bytes say that are kept of a header; the layout is ours.
-- A head of five bytes for each feature: a mark, where its list starts past the head, and how many expressions it has, each in two bytes.
-- Past the head the expressions of the lists: a kind, the length of the host, the port in two bytes, and the host in lower case.
use Rattle.std.specs.Prelude.{ℕ, zero, suc, ◌+◌, ◌*◌, ◌/◌, ◌%◌, List, [], ◌∷◌, false, get_or, take, drop, eqb, ltb}
use Rattle.std.specs.Prelude.{Option, Some, None}
use Rattle.ascii.specs.Bytes.{pick}
use Rattle.features.specs.Features.{feature_count}
use Rattle.origins.specs.Expressions.{SourceExpression}
use Rattle.origins.specs.Answers.{expression_by}
use Rattle.origins.specs.declared.ExpressionParts.{ExpressionParts}
use Rattle.origins.specs.declared.Scheme.{Scheme}
use Rattle.origins.specs.declared.Scheme.TheVariants.{Http, Https}
use Rattle.origins.specs.declared.HostKind.{HostKind}
use Rattle.origins.specs.declared.HostKind.TheVariants as kind
use Rattle.origins.specs.declared.PortPart.{PortPart}
use Rattle.origins.specs.declared.PortPart.TheVariants as port
use Rattle.allowlists.specs.Allowlists.{Allowlist, allowlist}

abbrev pub entry_bytes : ℕ
entry_bytes = 5

-- an entry for each feature
abbrev pub head_bytes : ℕ
head_bytes = 85

-- two bytes as a number, the lower first
abbrev pub word : ℕ → ℕ → ℕ
word x y = x + 256 * y

-- the number at a place; a byte past the end counts as 0
abbrev pub word_at : List ℕ → ℕ → ℕ
word_at d i = word (get_or d i 0) (get_or d (i + 1) 0)

abbrev pub scheme_bits : ℕ → Scheme
scheme_bits k = pick (eqb k 0) Http Https

abbrev pub host_bits : ℕ → Option HostKind
host_bits k = pick (eqb k 0) None (Some (pick (eqb k 1) kind.Any (pick (eqb k 2) kind.Exact kind.Subdomains)))

abbrev pub port_bits : ℕ → ℕ → PortPart
port_bits k p = pick (eqb k 0) port.Default (pick (eqb k 1) port.Any (port.Number p))

-- an expression's parts by its kind and its port: the kind's lowest bit is the scheme, the next two the kind of host, the rest the kind of port
unfoldable pub parts_of : ℕ → ℕ → ExpressionParts
parts_of k p = record { scheme = scheme_bits (k % 2); host = host_bits (k / 2 % 4); port = port_bits (k / 8) p }

-- so many expressions, one after the other; fewer where the bytes end before
unfoldable pub expressions_from : ℕ → List ℕ → List SourceExpression
expressions_from zero l = []
expressions_from (suc i) [] = []
expressions_from (suc i) (k ∷ []) = []
expressions_from (suc i) (k ∷ n ∷ []) = []
expressions_from (suc i) (k ∷ n ∷ x ∷ []) = []
expressions_from (suc i) (k ∷ n ∷ x ∷ y ∷ l) = expression_by (parts_of k (word x y)) (take n l) ∷ expressions_from i (drop n l)

-- an entry of the head
pub record Entry : Type 0 where
  pub mark : ℕ
  pub start : ℕ
  pub count : ℕ

abbrev pub entry_in : List ℕ → ℕ → Entry
entry_in d i = record { mark = get_or d i 0; start = word_at d (i + 1); count = word_at d (i + 3) }

-- a mark and a list's expressions: 0 is undeclared, 1 is `*`, 2 a list, 3 a list with `self`; a header's list has no src-origin
unfoldable pub marked : ℕ → List SourceExpression → Option Allowlist
marked m es = pick (eqb m 0) None (Some (allowlist (eqb m 1) (eqb m 3) false es))

-- what an entry declares, over the bytes past the head
unfoldable pub entry_declares : Entry → List ℕ → Option Allowlist
entry_declares e l = marked e.mark (expressions_from e.count (drop e.start l))

-- what a document's bytes say for a feature; a number of none is undeclared
unfoldable pub declared_in : List ℕ → ℕ → Option Allowlist
declared_in d n = pick (ltb n feature_count) (entry_declares (entry_in d (entry_bytes * n)) (drop head_bytes d)) None
