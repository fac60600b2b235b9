-- 01, "Header and attribute": what the items of a header mean, and what the header declares.
use Rattle.std.specs.Prelude.{ℕ, List, [], ◌∷◌, map, Bool, false, not}
use Rattle.std.specs.Prelude.{Option, Some, None}
use Rattle.ascii.specs.Bytes.{pick}
use Rattle.ascii.specs.Literals.{text}
use Rattle.ascii.specs.Texts.{same_bytes}
use Rattle.features.specs.Features.{name_of}
use Rattle.origins.specs.Origins.{Origin}
use Rattle.origins.specs.Expressions.{expression_of}
use Rattle.origins.specs.Matching.{same_origin}
use Rattle.items.specs.Items.{Item}
use Rattle.items.specs.Items.Item.{token, string, other}
use Rattle.dictionaries.specs.Dictionaries.{Value, members}
use Rattle.dictionaries.specs.Dictionaries.Value.{one, many}
use Rattle.dictionaries.specs.Lookup.{last_value_in, is_some}
use Rattle.allowlists.specs.Allowlists.{Allowlist, Meaning, source_meaning, allowlist_of, some_admits}
use Rattle.allowlists.specs.Allowlists.Meaning.{star, self, src, source, nothing}

-- "token `*`, token `self`"
unfoldable pub token_meaning : List ℕ → Meaning
token_meaning t = pick (same_bytes t (text "*")) star (pick (same_bytes t (text "self")) self nothing)

-- "token `*`, token `self`, a string that is an expression"; no item means the src-origin
unfoldable pub item_meaning : Item → Meaning
item_meaning (token t) = token_meaning t
item_meaning (string t) = source_meaning (expression_of t)
item_meaning other = nothing

-- "Items of an inner list that are none of the three are skipped."
abbrev pub items_list : List Item → Allowlist
items_list xs = allowlist_of (map item_meaning xs)

-- a lone item declares what a list of it alone would; "any other value and the member is ignored, the feature undeclared"
unfoldable pub lone_declares : Meaning → Option Allowlist
lone_declares star = Some (allowlist_of (star ∷ []))
lone_declares self = Some (allowlist_of (self ∷ []))
lone_declares src = Some (allowlist_of (src ∷ []))
lone_declares (source e) = Some (allowlist_of (source e ∷ []))
lone_declares nothing = None

unfoldable pub value_declares : Value → Option Allowlist
value_declares (one x) = lone_declares (item_meaning x)
value_declares (many xs) = Some (items_list xs)

-- of the last value of a key, if the header is a dictionary and has that key: "A malformed header declares nothing"
unfoldable pub last_declares : Option (Option Value) → Option Allowlist
last_declares (Some (Some v)) = value_declares v
last_declares (Some None) = None
last_declares None = None

-- what a header declares for a feature: none, or an allowlist; "A repeated key keeps only its last value"
unfoldable pub declares : List ℕ → ℕ → Option Allowlist
declares s n = last_declares (last_value_in (name_of n) (members s))

-- "A malformed header declares nothing, and the load says so."
unfoldable pub is_malformed : List ℕ → Bool
is_malformed s = not (is_some (members s))

-- whether what a document's header declares admits an origin: "`self` is the document's own origin"; a header has no src-origin
unfoldable pub declared_admits : Option Allowlist → Origin → Origin → Option Bool
declared_admits d own o = some_admits d (same_origin own o) false o
