-- 01, "Header and attribute": sandboxed documents and the declared origin.
use Rattle.std.specs.Prelude.{ℕ, List, Bool, false, not, ◌||◌}
use Rattle.std.specs.Prelude.{Option, Some, None}
use Rattle.ascii.specs.Bytes.{pick}
use Rattle.ascii.specs.Literals.{text}
use Rattle.origins.specs.Origins.{Origin, OriginSaid, origin_of}
use Rattle.origins.specs.Origins.Origin.{tuple, fresh}
use Rattle.origins.specs.Origins.OriginSaid.{says_empty, says_null, says_tuple, no_origin}
use Rattle.pieces.specs.Pieces.{words, has_keyword}
use Rattle.containers.specs.Attributes.{Attributes}

-- a sandbox attribute: none, or its words. "No sandbox attribute and an empty one differ."
unfoldable pub sandbox_words : Bool → List ℕ → Option (List (List ℕ))
sandbox_words stands s = pick stands (Some (words s)) None

abbrev pub allow_same_origin : List ℕ
allow_same_origin = text "allow-same-origin"

-- "a sandbox attribute stands without `allow-same-origin`"
unfoldable pub without_same_origin : Option (List (List ℕ)) → Bool
without_same_origin (Some ws) = not (has_keyword allow_same_origin ws)
without_same_origin None = false

-- the same of a frame's attributes
abbrev pub sandboxes : Attributes → Bool
sandboxes a = without_same_origin (sandbox_words a.has_sandbox a.sandbox)

-- whether a frame's document is sandboxed, told whether the container document is: "A document loaded under either condition is itself sandboxed."
unfoldable pub is_sandboxed : Bool → Attributes → Bool
is_sandboxed above a = above || sandboxes a

-- what src says, beside the container's origin: "Empty means: the container's origin"; a fresh one "for src `null` too"; none where src is no origin text, which the calls refuse
unfoldable pub src_origin : OriginSaid → Origin → Option Origin
src_origin says_empty container = Some container
src_origin says_null container = Some fresh
src_origin (says_tuple o) container = Some (tuple o)
src_origin no_origin container = None

unfoldable pub fresh_if : Bool → Option Origin → Option Origin
fresh_if sandboxed (Some o) = Some (pick sandboxed fresh o)
fresh_if sandboxed None = None

-- "Declared origin: fresh and opaque if" the frame's document is sandboxed, "else the src origin text"; told whether the container document is sandboxed, and its origin
unfoldable pub declared_origin : Bool → Attributes → Origin → Option Origin
declared_origin above a container = fresh_if (is_sandboxed above a) (src_origin (origin_of a.src) container)
