-- 01, "Header and attribute", with 02's request R-1: the container policy of a frame.
use Rattle.std.specs.Prelude.{ℕ, List, ◌++◌, Bool, true, false, not, ◌&&◌, eqb}
use Rattle.std.specs.Prelude.{Option, Some, None}
use Rattle.ascii.specs.Bytes.{pick}
use Rattle.ascii.specs.Literals.{text}
use Rattle.features.specs.Features.{Default, name_of, default_of}
use Rattle.features.specs.Features.Default.{star, self}
use Rattle.allowlists.specs.Allowlists.{Allowlist, empty_list}
use Rattle.allowlists.specs.Allowlists.Allowlist.{all}
use Rattle.allowlists.specs.Allowlists.Meaning.{src}
use Rattle.pieces.specs.Pieces.{has_keyword, entry_of}
use Rattle.pieces.specs.Words.{entry_list}
use Rattle.containers.specs.Attributes.{Attributes}
use Rattle.containers.specs.Sandboxes.{sandbox_words}

-- an allow attribute "is cut at every `;`"
abbrev pub is_semicolon : ℕ → Bool
is_semicolon b = eqb b 59

-- the numbers of the features `fullscreen` and `plugins`
abbrev pub fullscreen : ℕ
fullscreen = 4

abbrev pub plugins : ℕ
plugins = 10

-- an entry's list, or else another: "No further words: the list is the declared origin"
unfoldable pub entry_else : Option Allowlist → Option (List (List ℕ)) → Option Allowlist
entry_else other (Some ws) = Some (entry_list src ws)
entry_else other None = other

-- "With allowfullscreen and no fullscreen entry, fullscreen gets `*`."
unfoldable pub allowed_fullscreen : Bool → ℕ → Option Allowlist
allowed_fullscreen mark n = pick (mark && eqb n fullscreen) (Some all) None

-- ---- 02, R-1: "Sandbox as a policy". A frame's own sandbox attribute: none, or its words

abbrev pub is_star_default : Option Default → Bool
is_star_default (Some star) = true
is_star_default (Some self) = false
is_star_default None = false

-- one of "01's ten features with default *"
unfoldable pub has_default_star : ℕ → Bool
has_default_star n = is_star_default (default_of n)

-- "its keyword ... (`allow-` and the feature's name, case ignored; plugins has none)"; only the ten are spoken of
unfoldable pub keyword_of : ℕ → Option (List ℕ)
keyword_of n = pick (has_default_star n && not (eqb n plugins)) (Some (text "allow-" ++ name_of n)) None

-- "its keyword stands": the one that a feature may have is among words
unfoldable pub keyword_stands : Option (List ℕ) → List (List ℕ) → Bool
keyword_stands (Some k) ws = has_keyword k ws
keyword_stands None ws = false

-- "With sandbox present, each of 01's ten features with default * gets an empty list unless its keyword stands". To close a feature, our word, is to give it the empty list
unfoldable pub sandbox_closes : Option (List (List ℕ)) → ℕ → Bool
sandbox_closes None n = false
sandbox_closes (Some ws) n = has_default_star n && not (keyword_stands (keyword_of n) ws)

-- "but plugins stays empty whatever allow says"
unfoldable pub closes_plugins : Option (List (List ℕ)) → ℕ → Bool
closes_plugins None n = false
closes_plugins (Some ws) n = eqb n plugins

-- what allow, allowfullscreen and the sandbox attribute give a feature: "unless ... the allow attribute names the feature; the allow list then decides";
-- "01's rule for features absent from the attribute reads from now on with this step before it"
unfoldable pub attribute_policy : List ℕ → Bool → Option (List (List ℕ)) → ℕ → Option Allowlist
attribute_policy allow mark sandbox n =
    pick (closes_plugins sandbox n) (Some empty_list)
    (entry_else (pick (sandbox_closes sandbox n) (Some empty_list) (allowed_fullscreen mark n)) (entry_of is_semicolon allow n))

-- the container policy: the list that a frame's attributes give a feature, or none
unfoldable pub container_policy : Attributes → ℕ → Option Allowlist
container_policy a n = attribute_policy a.allow a.allowfullscreen (sandbox_words a.has_sandbox a.sandbox) n
