-- Source document 003, section 4.7: allowlists, and what an item of a header or a word of an attribute means in one.
use Rattle.std.specs.Prelude.{List, [], ◌∷◌, Bool, true, false, ◌&&◌, ◌||◌}
use Rattle.std.specs.Prelude.{Option, Some, None}
use Rattle.ascii.specs.Bytes.{pick}
use Rattle.origins.specs.Origins.{Origin}
use Rattle.origins.specs.Expressions.{SourceExpression}
use Rattle.origins.specs.Matching.{admits, same_origin}

-- `*`; or whether it has the self-origin, whether it has the src-origin, and its expressions in order
pub data Allowlist : Type 0 where
  all : Allowlist
  listed : Bool → Bool → List SourceExpression → Allowlist

-- the empty list, which admits nobody
abbrev pub empty_list : Allowlist
empty_list = listed false false []

-- what an item or a word means: `*`, the self-origin, the src-origin, an expression, or nothing
pub data Meaning : Type 0 where
  star : Meaning
  self : Meaning
  src : Meaning
  source : SourceExpression → Meaning
  nothing : Meaning

-- a text that may be an expression
unfoldable pub source_meaning : Option SourceExpression → Meaning
source_meaning (Some e) = source e
source_meaning None = nothing

abbrev pub is_star : Meaning → Bool
is_star star = true
is_star self = false
is_star src = false
is_star (source e) = false
is_star nothing = false

abbrev pub is_self : Meaning → Bool
is_self star = false
is_self self = true
is_self src = false
is_self (source e) = false
is_self nothing = false

abbrev pub is_src : Meaning → Bool
is_src star = false
is_src self = false
is_src src = true
is_src (source e) = false
is_src nothing = false

unfoldable pub with_source : Meaning → List SourceExpression → List SourceExpression
with_source star es = es
with_source self es = es
with_source src es = es
with_source (source e) es = e ∷ es
with_source nothing es = es

-- whether one of several meanings passes a test
unfoldable pub some_is : (Meaning → Bool) → List Meaning → Bool
some_is test [] = false
some_is test (m ∷ ms) = test m || some_is test ms

abbrev pub has_star : List Meaning → Bool
has_star ms = some_is is_star ms

abbrev pub has_self : List Meaning → Bool
has_self ms = some_is is_self ms

abbrev pub has_src : List Meaning → Bool
has_src ms = some_is is_src ms

-- the expressions among several meanings, in order
unfoldable pub sources_of : List Meaning → List SourceExpression
sources_of [] = []
sources_of (m ∷ ms) = with_source m (sources_of ms)

-- 01, "Header and attribute": "A list with `*` is `*`"; "A word `*` makes the list `*`"
unfoldable pub allowlist : Bool → Bool → Bool → List SourceExpression → Allowlist
allowlist any own declared es = pick any all (listed own declared es)

-- the list that meanings make
unfoldable pub allowlist_of : List Meaning → Allowlist
allowlist_of ms = allowlist (has_star ms) (has_self ms) (has_src ms) (sources_of ms)

-- whether one of several expressions admits an origin
unfoldable pub any_admits : List SourceExpression → Origin → Bool
any_admits [] o = false
any_admits (e ∷ es) o = admits e o || any_admits es o

-- 01, "How a decision falls": "A list admits an origin if it is `*`, or if it holds that origin or an expression that admits it":
-- told whether the origin is the self-origin and whether it is the src-origin
unfoldable pub list_admits : Allowlist → Bool → Bool → Origin → Bool
list_admits all at_self at_src o = true
list_admits (listed a b es) at_self at_src o = a && at_self || b && at_src || any_admits es o

-- the same beside the self-origin and the src-origin
abbrev pub allows : Allowlist → Origin → Origin → Origin → Bool
allows l self_origin src_origin o = list_admits l (same_origin self_origin o) (same_origin src_origin o) o

-- whether the list that there may be admits an origin; no answer without a list
unfoldable pub some_admits : Option Allowlist → Bool → Bool → Origin → Option Bool
some_admits (Some l) at_self at_src o = Some (list_admits l at_self at_src o)
some_admits None at_self at_src o = None

-- whether a list of one item or word admits an origin
unfoldable pub meaning_admits : Meaning → Bool → Bool → Origin → Bool
meaning_admits star at_self at_src o = true
meaning_admits self at_self at_src o = at_self
meaning_admits src at_self at_src o = at_src
meaning_admits (source e) at_self at_src o = admits e o
meaning_admits nothing at_self at_src o = false
