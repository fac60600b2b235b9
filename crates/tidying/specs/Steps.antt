-- What the steps of tidying promise of one another.
use Rattle.std.specs.Prelude.{ℕ, ◌+◌, ◌≤◌, ◌<◌, ◌≡◌, List, [], ◌∷◌, ◌++◌, map, Bool, true, false, ◌||◌, length, get_or, take, drop}
use Rattle.origins.specs.Expressions.{SourceExpression}
use Rattle.origins.specs.NormalForms.{normal}
use Rattle.dictionaries.specs.Written.{each_after, joined_by, item_text}
use Rattle.hashes.specs.Hashes.{hash_of}
use Rattle.settled.specs.Settled.{expressions_from}
use Rattle.tidying.specs.Tidied.{among, unless, normals_of, source_item}
use Rattle.tidying.specs.Writing.{Adding}
use Rattle.tidying.specs.declared.Text.{Text}
use Rattle.tidying.specs.declared.Index.{Index}

-- texts with a separator before each, but for the first of all
unfoldable pub following : Bool → List ℕ → List (List ℕ) → List ℕ
following true sep ts = each_after sep ts
following false sep ts = joined_by sep ts

unfoldable pub is_some : {A : Type 0} → List A → Bool
is_some [] = false
is_some (x ∷ xs) = true

-- texts were added after others, or as the first; and whether a text stands before the next one
pub record Spelling (sep : List ℕ) (before : Text) (any : Bool) (ts : List (List ℕ)) (after : Text) (r : Bool) : Type 0 where
  pub text : Adding before (following any sep ts) after
  pub some : r ≡ any || is_some ts

-- an expression's normal form as a string
abbrev pub source_text : SourceExpression → List ℕ
source_text e = item_text (source_item (normal e))

-- expressions as they are written, each once
unfoldable pub source_texts : List SourceExpression → List (List ℕ)
source_texts es = map item_text (map source_item (normals_of es))

-- an expression as it is written after others: not at all if one of them has its normal form
unfoldable pub new_text : List SourceExpression → SourceExpression → List (List ℕ)
new_text es e = map item_text (map source_item (unless (among (normal e) (map normal es)) (normal e) []))

-- so many expressions from a place on, and where the next one stands
pub record Passed (d : List ℕ) (first i p : ℕ) : Type 0 where
  pub is : (k : ℕ) → expressions_from (i + k) (drop first d) ≡ expressions_from i (drop first d) ++ expressions_from k (drop p d)

-- the index of a list after so many of its expressions, as far as it has room: the hashes of their normal forms, and their places
pub record Indexed (d : List ℕ) (first n : ℕ) (x : Index) : Type 0 where
  pub hashed : (j : ℕ) → j ≤ n → j ≤ length x.hashes → take j x.hashes ≡ map hash_of (map normal (expressions_from j (drop first d)))
  pub placed : (j : ℕ) → j < n → j < length x.places → Passed d first j (get_or x.places j 0)
