-- Meanings in the terms of the code: a part of the laws of this crate. Assumes nothing.
use mathlib.Core.Path.{◌≡◌, refl, ap, sym}
use Prim.Native.Nat.{ℕ}
use mathlib.Core.List.{List}
use mathlib.Core.Bool.{Bool, true, false}
use Rattle.std.specs.Prelude.{Option, Some, None}
use Rattle.ascii.proofs.Clash.{clash}
use Rattle.origins.specs.Origins.{Origin}
use Rattle.origins.specs.Expressions.{SourceExpression, expression_of}
use Rattle.origins.specs.Matching.{admits}
use Rattle.origins.specs.Answers.{source_as, expression_range, expression_in}
use Rattle.origins.specs.declared.ExpressionRange.{ExpressionRange}
use Rattle.origins.proofs.Laws.{expression-range}
use Rattle.allowlists.specs.Allowlists.{Meaning, source_meaning, meaning_admits}
use Rattle.allowlists.specs.Allowlists.Meaning.{star, self, src, source, nothing}
use Rattle.allowlists.specs.Answers.{meaning_as, meaning_in}
use Rattle.allowlists.specs.declared.MeaningRange.{MeaningRange}
use Rattle.allowlists.specs.declared.MeaningRange.TheVariants as range

-- a text by what it is read as
module _ (x : Option SourceExpression) (r : Option ExpressionRange) (h : r ≡ source_as x) where
  pub source-found : (e : ExpressionRange) → r ≡ Some e → (Some (range.Source e)) ≡ meaning_as (source_meaning x)
  unfolding source_meaning
  source-found e k = go x h
    where
      go : (y : Option SourceExpression) → r ≡ source_as y → (Some (range.Source e)) ≡ meaning_as (source_meaning y)
      go (Some z) g = let q : expression_range z ≡ e = cc in ap (λ (w : ExpressionRange). Some (range.Source w)) (sym q)
      go None g = clash cc

  pub source-none : r ≡ None → None ≡ meaning_as (source_meaning x)
  unfolding source_meaning
  source-none k = go x h
    where
      go : (y : Option SourceExpression) → r ≡ source_as y → None ≡ meaning_as (source_meaning y)
      go (Some z) g = clash cc
      go None g = refl

-- the meaning that an answer tells
module _ (x : Meaning) (r : Option MeaningRange) (h : r ≡ meaning_as x) where
  pub told-star : r ≡ Some range.All → x ≡ star
  told-star k = go x h
    where
      go : (x : Meaning) → r ≡ meaning_as x → x ≡ star
      go star e = refl
      go self e = clash cc
      go src e = clash cc
      go (source y) e = clash cc
      go nothing e = clash cc

  pub told-self : r ≡ Some range.SelfOrigin → x ≡ self
  told-self k = go x h
    where
      go : (x : Meaning) → r ≡ meaning_as x → x ≡ self
      go star e = clash cc
      go self e = refl
      go src e = clash cc
      go (source y) e = clash cc
      go nothing e = clash cc

  pub told-src : r ≡ Some range.SrcOrigin → x ≡ src
  told-src k = go x h
    where
      go : (x : Meaning) → r ≡ meaning_as x → x ≡ src
      go star e = clash cc
      go self e = clash cc
      go src e = refl
      go (source y) e = clash cc
      go nothing e = clash cc

  pub told-nothing : r ≡ None → x ≡ nothing
  told-nothing k = go x h
    where
      go : (x : Meaning) → r ≡ meaning_as x → x ≡ nothing
      go star e = clash cc
      go self e = clash cc
      go src e = clash cc
      go (source y) e = clash cc
      go nothing e = refl

  pub told-source : (e : ExpressionRange) → r ≡ Some (range.Source e) → (y : SourceExpression) × (x ≡ source y) × (expression_range y ≡ e)
  told-source e k = go x h
    where
      go : (x : Meaning) → r ≡ meaning_as x → (y : SourceExpression) × (x ≡ source y) × (expression_range y ≡ e)
      go star f = clash cc
      go self f = clash cc
      go src f = clash cc
      go (source y) f = (y, refl, cc)
      go nothing f = clash cc

-- where a text's meaning is an expression only if the text is that expression, the answer beside the text says the meaning
pub meaning-in : (x : List ℕ) (m : Meaning) → ((e : SourceExpression) → m ≡ source e → expression_of x ≡ Some e) → meaning_in x (meaning_as m) ≡ m
meaning-in x star h = refl
meaning-in x self h = refl
meaning-in x src h = refl
meaning-in x (source e) h = ap source (expression-range x e (h e refl))
meaning-in x nothing h = refl

-- so it is for a text that may be an expression
pub source_is : (x : Option SourceExpression) (e : SourceExpression) → source_meaning x ≡ source e → x ≡ Some e
unfolding source_meaning
source_is (Some y) e k = let q : y ≡ e = cc in ap Some q
source_is None e k = clash cc

-- and never means the src-origin
pub source-no-src : (x : Option SourceExpression) → source_meaning x ≡ src → ⊥
unfolding source_meaning
source-no-src (Some y) e = clash cc
source-no-src None e = clash cc

-- whether a meaning admits, case by case
module _ (x : List ℕ) (m : Option MeaningRange) (a b : Bool) (o : Origin) where
  pub admits-star : (i : MeaningRange) → m ≡ Some i → i ≡ range.All → true ≡ meaning_admits (meaning_in x m) a b o
  unfolding meaning_admits
  admits-star i k j = rw (k, j)

  pub admits-self : (i : MeaningRange) → m ≡ Some i → i ≡ range.SelfOrigin → a ≡ meaning_admits (meaning_in x m) a b o
  unfolding meaning_admits
  admits-self i k j = rw (k, j)

  pub admits-src : (i : MeaningRange) → m ≡ Some i → i ≡ range.SrcOrigin → b ≡ meaning_admits (meaning_in x m) a b o
  unfolding meaning_admits
  admits-src i k j = rw (k, j)

  pub admits-source : (e : ExpressionRange) (r : Bool) → r ≡ admits (expression_in x e) o → (i : MeaningRange) → m ≡ Some i → i ≡ range.Source e → r ≡ meaning_admits (meaning_in x m) a b o
  unfolding meaning_admits
  admits-source e r h i k j = rw (k, j) h

  pub admits-nothing : m ≡ None → false ≡ meaning_admits (meaning_in x m) a b o
  unfolding meaning_admits
  admits-nothing k = rw k
