-- The expressions of a settled list as they are written, each once. Assumes nothing.
use Rattle.std.specs.Prelude.{Option, Some, None}
use mathlib.Core.Path.{◌≡◌, refl, ap, ◌∙◌, sym}
use Prim.Native.Nat.{ℕ, suc, ◌+◌, ◌-◌, ◌≤◌, ◌<◌}
use mathlib.Core.List.{List, [], ◌∷◌, ◌++◌, map, map-append, append_assoc, append-nil}
use mathlib.Core.Bool.{Bool, true, false, ◌||◌}
use native.Mathlib.Omega.{arith}
use native.Mathlib.Nat.{zero-add}
use lib.ListN.{drop}
use Rattle.std.specs.List.{list_any}
use Rattle.ascii.specs.Bytes.{pick}
use Rattle.ascii.specs.Literals.{text}
use Rattle.ascii.specs.Texts.{part_in}
use Rattle.ascii.proofs.Bytes.{or-false}
use Rattle.origins.specs.Expressions.{SourceExpression}
use Rattle.origins.specs.Answers.{expression_by}
use Rattle.origins.specs.NormalForms.{normal, normal_form, same_expression}
use Rattle.dictionaries.specs.Written.{item_text}
use Rattle.dictionaries.proofs.Written.{string-text}
use Rattle.settled.specs.Settled.{expressions_from}
use Rattle.settled.specs.Answers.{settled_in, IsExpressionAt}
use Rattle.origins.specs.declared.ExpressionRange.{ExpressionRange}
use Rattle.settled.proofs.Laws.{from-none}
use Rattle.tidying.specs.Tidied.{among, unless, once_after, source_item}
use Rattle.tidying.specs.Writing.{Adding}
use Rattle.tidying.specs.Steps.{following, Spelling, source_text, source_texts, new_text, Passed}
use Rattle.tidying.specs.declared.Text.{Text}
use Rattle.tidying.proofs.Growing.{adding-on}
use Rattle.tidying.proofs.Spellings.{spelling-none, spelling-one, spelling-on}

-- an expression is among others where one of them has its normal form
pub among-any : (e : SourceExpression) (es : List SourceExpression) → among e (map normal es) ≡ list_any (λ f. same_expression e (normal f)) es
unfolding among
among-any e [] = refl
among-any e (f ∷ fs) = ap (λ (t : Bool). same_expression e (normal f) || t) (among-any e fs)

-- the parts of a string, one after the other
pub string-parts : (l m n o z : Text) (any : Bool) (e : SourceExpression) → Adding l (pick any (text " ") []) m → Adding m (text "\"") n → Adding n (normal_form e) o → Adding o (text "\"") z → Adding l (pick any (text " ") [] ++ source_text e) z
string-parts l m n o z any e u v w y =
    rw (string-text (normal_form e))
    (adding-on l m z (pick any (text " ") []) (text "\"" ++ (normal_form e ++ text "\"")) u
    (adding-on m n z (text "\"") (normal_form e ++ text "\"") v (adding-on n o z (normal_form e) (text "\"") w y)))

-- an expression after others, by whether one of them has its normal form
module _ (es : List SourceExpression) (e : SourceExpression) (l : Text) (any b : Bool) (g : b ≡ among (normal e) (map normal es)) where
  pub source-old : b ≡ true → Spelling (text " ") l any (new_text es e) l any
  unfolding new_text unless
  source-old t = rw (← g, t) (spelling-none (text " ") l any)

  pub source-new : b ≡ false → (m : Text) → Adding l (pick any (text " ") [] ++ source_text e) m → Spelling (text " ") l any (new_text es e) m true
  unfolding new_text unless
  source-new t m u = rw (← g, t) (spelling-one (text " ") l any m (source_text e) u)

-- each once: one expression more
unless-on : (b : Bool) (e : SourceExpression) (xs ys : List SourceExpression) → unless b e (xs ++ ys) ≡ unless b e xs ++ ys
unfolding unless
unless-on true e xs ys = refl
unless-on false e xs ys = refl

or-moved : (a b c : Bool) → a || (b || c) ≡ (b || a) || c
or-moved true true c = refl
or-moved true false c = refl
or-moved false true c = refl
or-moved false false c = refl

once_more : (before es : List SourceExpression) (e : SourceExpression) → once_after before (es ++ (e ∷ [])) ≡ once_after before es ++ unless (among e es || among e before) e []
unfolding once_after among
once_more before [] e = refl
once_more before (x ∷ es) e =
    rw (once_more (x ∷ before) es e, or-moved (among e es) (same_expression e x) (among e before))
    (unless-on (among x before) x (once_after (x ∷ before) es) (unless ((same_expression e x || among e es) || among e before) e []))

texts-none : source_texts [] ≡ []
unfolding source_texts once_after
texts-none = refl

texts-more : (es : List SourceExpression) (e : SourceExpression) → source_texts (es ++ (e ∷ [])) ≡ source_texts es ++ new_text es e
unfolding source_texts new_text
texts-more es e =
    rw (map-append normal es (e ∷ []), once_more [] (map normal es) (normal e), none_before)
    (ap (map item_text) (map-append (λ x. source_item x) (once_after [] (map normal es)) new) ∙ map-append item_text (map (λ x. source_item x) (once_after [] (map normal es))) (map (λ x. source_item x) new))
  where
    new : List SourceExpression
    new = unless (among (normal e) (map normal es)) (normal e) []

    none_before : among (normal e) (map normal es) || among (normal e) [] ≡ among (normal e) (map normal es)
    none_before = unfold among in or-false (among (normal e) (map normal es))

pub passed_start : (d : List ℕ) (first : ℕ) → Passed d first 0 first
passed_start d first = record { is = λ k. rw (zero-add k, from-none (drop first d)) }

module _ (d : List ℕ) (first i p : ℕ) (g : Passed d first i p) (r : Option ExpressionRange) (a : IsExpressionAt d p r) where
  module _ (e : ExpressionRange) (k : r ≡ Some e) where
    said : (j : ℕ) → expressions_from (i + 1 + j) (drop first d) ≡ expressions_from i (drop first d) ++ (settled_in d e ∷ expressions_from j (drop e.host.to d))
    said j =
        let z : i + 1 + j ≡ i + suc j = omega arith in
        let f : expressions_from (suc j) (drop p d) ≡ settled_in d e ∷ expressions_from j (drop e.host.to d) = rw k at (a.says j) in
        rw z (g.is (suc j) ∙ ap (λ (es : List SourceExpression). expressions_from i (drop first d) ++ es) f)

    pub one_more : expressions_from (i + 1) (drop first d) ≡ expressions_from i (drop first d) ++ (settled_in d e ∷ [])
    one_more = let z : i + 1 + 0 ≡ i + 1 = omega arith in rw (z, from-none (drop e.host.to d)) at (said 0)

    pub passed_on : Passed d first (i + 1) e.host.to
    passed_on = record { is = λ j. said j ∙ (rw one_more (sym (append_assoc (expressions_from i (drop first d)) (settled_in d e ∷ []) (expressions_from j (drop e.host.to d))))) }

    -- one expression was added after those before it
    pub listing-on : (l m n : Text) (any x y : Bool) (h : List ℕ) → h ≡ part_in d e.host → Spelling (text " ") l any (source_texts (expressions_from i (drop first d))) m x → Spelling (text " ") m x (new_text (expressions_from i (drop first d)) (expression_by e.parts h)) n y → Spelling (text " ") l any (source_texts (expressions_from (i + 1) (drop first d))) n y
    listing-on l m n any x y h u v w =
        let es = expressions_from i (drop first d) in
        rw (one_more, texts-more es (settled_in d e)) (spelling-on (text " ") l any m n x y (source_texts es) (new_text es (settled_in d e)) v (rw u at w))

  -- fewer than were asked for
  pub listing-short : (count : ℕ) (l m : Text) (any x : Bool) → i < count → r ≡ None → Spelling (text " ") l any (source_texts (expressions_from i (drop first d))) m x → Adding l (following any (text " ") (source_texts (expressions_from count (drop first d)))) m
  listing-short count l m any x h k v =
      let z : i + suc (count - i - 1) ≡ count = omega arith in
      let f : expressions_from (suc (count - i - 1)) (drop p d) ≡ [] = rw k at (a.says (count - i - 1)) in
      let q : expressions_from count (drop first d) ≡ expressions_from i (drop first d) = ap (λ (j : ℕ). expressions_from j (drop first d)) (sym z) ∙ (g.is (suc (count - i - 1)) ∙ (rw f (append-nil (expressions_from i (drop first d))))) in
      rw q v.text

-- none yet, and all
pub listing_start : (d : List ℕ) (first : ℕ) (l : Text) (any : Bool) → Spelling (text " ") l any (source_texts (expressions_from 0 (drop first d))) l any
listing_start d first l any = rw (from-none (drop first d), texts-none) (spelling-none (text " ") l any)

pub listing-end : (d : List ℕ) (first i count : ℕ) (l m : Text) (any x : Bool) → i ≤ count → count ≤ i → Spelling (text " ") l any (source_texts (expressions_from i (drop first d))) m x → Adding l (following any (text " ") (source_texts (expressions_from count (drop first d)))) m
listing-end d first i count l m any x h k v = let z : count ≡ i = omega arith in rw z v.text
