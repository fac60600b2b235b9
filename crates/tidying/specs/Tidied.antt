-- 01, "Tidied headers".
use Rattle.std.specs.Prelude.{ℕ, zero, suc, ◌≡◌, List, [], ◌∷◌, ◌++◌, map, Bool, true, false, ◌||◌}
use Rattle.std.specs.Prelude.{Option, Some, None}
use Rattle.ascii.specs.Literals.{text}
use Rattle.features.specs.Features.{name_of, feature_count}
use Rattle.origins.specs.Expressions.{SourceExpression}
use Rattle.origins.specs.NormalForms.{normal, expression_text, same_expression}
use Rattle.items.specs.Items.{Item}
use Rattle.items.specs.Items.Item.{token, string}
use Rattle.dictionaries.specs.Dictionaries.{Value, Plain}
use Rattle.dictionaries.specs.Dictionaries.Value.{one, many}
use Rattle.dictionaries.specs.Written.{written}
use Rattle.allowlists.specs.Allowlists.{Allowlist}
use Rattle.allowlists.specs.Allowlists.Allowlist.{all, listed}
use Rattle.declarations.specs.Declarations.{declares}

-- whether an expression is one of several
unfoldable pub among : SourceExpression → List SourceExpression → Bool
among e [] = false
among e (f ∷ fs) = same_expression e f || among e fs

-- an expression, unless it was there before
unfoldable pub unless : Bool → SourceExpression → List SourceExpression → List SourceExpression
unless true e es = es
unless false e es = e ∷ es

-- "each expression once, in order of first appearance": those that are not among the ones before them
unfoldable pub once_after : List SourceExpression → List SourceExpression → List SourceExpression
once_after before [] = []
once_after before (e ∷ es) = unless (among e before) e (once_after (e ∷ before) es)

-- the normal forms of expressions, repetitions dropped
abbrev pub normals_of : List SourceExpression → List SourceExpression
normals_of es = once_after [] (map normal es)

-- "as a string"
abbrev pub source_item : SourceExpression → Item
source_item e = string (expression_text e)

-- "with `self` first"
unfoldable pub self_item : Bool → List Item
self_item true = token (text "self") ∷ []
self_item false = []

-- "`name=*`, else `name=(...)`"; a header's list has no src-origin
unfoldable pub tidy_value : Allowlist → Value
tidy_value all = one (token (text "*"))
tidy_value (listed own src es) = many (self_item own ++ map source_item (normals_of es))

-- a declared feature's member before others
unfoldable pub with_member : ℕ → Option Allowlist → List Plain → List Plain
with_member n (Some l) ms = record { key = name_of n; value = tidy_value l } ∷ ms
with_member n None ms = ms

-- of so many features from a number on
unfoldable pub tidy_from : (ℕ → Option Allowlist) → ℕ → ℕ → List Plain
tidy_from d n zero = []
tidy_from d n (suc k) = with_member n (d n) (tidy_from d (suc n) k)

-- "Known, declared features in number order"
abbrev pub tidy_members : (ℕ → Option Allowlist) → List Plain
tidy_members d = tidy_from d 0 feature_count

-- the tidied form of a header: "joined by `, `", parameters dropped
unfoldable pub tidied : List ℕ → List ℕ
tidied s = written (tidy_members (declares s))

-- demand 2: "declares the same policy": both undeclared, both `*`, or lists with `self` in both or in neither, whose expressions have the same
-- normal forms, repetitions dropped, in the same order
pub data SamePolicy : Option Allowlist → Option Allowlist → Type 0 where
  undeclared : SamePolicy None None
  everything : SamePolicy (Some all) (Some all)
  lists : (own : Bool) (es fs : List SourceExpression) → normals_of es ≡ normals_of fs → SamePolicy (Some (listed own false es)) (Some (listed own false fs))
