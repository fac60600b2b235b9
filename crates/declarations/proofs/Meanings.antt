-- What an item means, in the terms of the code: a part of the laws of this crate. Assumes nothing.
use Rattle.std.specs.Prelude.{Option, None}
use mathlib.Core.Path.{◌≡◌, refl}
use Prim.Native.Nat.{ℕ}
use mathlib.Core.List.{List}
use mathlib.Core.Bool.{Bool, true, false}
use Rattle.std.specs.Prelude.{Some}
use Rattle.ascii.specs.Bytes.{pick}
use Rattle.ascii.specs.Literals.{text}
use Rattle.ascii.specs.Texts.{same_bytes, part_in}
use Rattle.ascii.proofs.Clash.{clash}
use Rattle.origins.specs.Expressions.{SourceExpression, expression_of}
use Rattle.items.specs.Items.{Item}
use Rattle.items.specs.Items.Item.{token, string, other}
use Rattle.items.specs.Found.{item_in}
use Rattle.items.proofs.Laws.{token-in, string-in, other-in}
use Rattle.items.specs.declared.ItemKind.{ItemKind}
use Rattle.items.specs.declared.ItemKind.TheVariants as kind
use Rattle.items.specs.declared.ItemRange.{ItemRange}
use Rattle.allowlists.specs.Allowlists.{Meaning, source_meaning}
use Rattle.allowlists.specs.Allowlists.Meaning.{star, self, src, source, nothing}
use Rattle.allowlists.specs.Answers.{meaning_as, meaning_in}
use Rattle.allowlists.specs.declared.MeaningRange.{MeaningRange}
use Rattle.allowlists.specs.declared.MeaningRange.TheVariants as range
use Rattle.allowlists.proofs.Meanings.{meaning-in, source_is, source-no-src}
use Rattle.declarations.specs.Declarations.{token_meaning, item_meaning}

-- a token, test by test
module _ (t : List ℕ) (a : Bool) (u : a ≡ same_bytes t (text "*")) where
  pub token-star : a ≡ true → (Some range.All) ≡ meaning_as (token_meaning t)
  unfolding token_meaning pick
  token-star v = rw (← u, v)

  module _ (v : a ≡ false) (b : Bool) (w : b ≡ same_bytes t (text "self")) where
    pub token-self : b ≡ true → (Some range.SelfOrigin) ≡ meaning_as (token_meaning t)
    unfolding token_meaning pick
    token-self x = rw (← u, v, ← w, x)

    pub token-nothing : b ≡ false → None ≡ meaning_as (token_meaning t)
    unfolding token_meaning pick
    token-nothing x = rw (← u, v, ← w, x)

-- an item by its kind
module _ (s : List ℕ) (p : ItemRange) (t : List ℕ) (m : t ≡ part_in s p.text) (r : Option MeaningRange) where
  pub item-token : r ≡ meaning_as (token_meaning t) → p.kind ≡ kind.Token → r ≡ meaning_as (item_meaning (item_in s p))
  unfolding item_meaning
  item-token h k = rw (token-in s p k, ← m) h

  pub item-string : r ≡ meaning_as (source_meaning (expression_of t)) → p.kind ≡ kind.String → r ≡ meaning_as (item_meaning (item_in s p))
  unfolding item_meaning
  item-string h k = rw (string-in s p k, ← m) h

pub item-other : (s : List ℕ) (p : ItemRange) → p.kind ≡ kind.Other → None ≡ meaning_as (item_meaning (item_in s p))
unfolding item_meaning
item-other s p k = rw (other-in s p k)

-- no token means an expression or the src-origin
token-means : (t : List ℕ) (P : Meaning → Type 0) → P star → P self → P nothing → P (token_meaning t)
unfolding token_meaning
token-means t P x y z = go (same_bytes t (text "*")) (same_bytes t (text "self"))
  where
    go : (a b : Bool) → P (pick a star (pick b self nothing))
    go true b = unfold pick in x
    go false true = unfold pick in y
    go false false = unfold pick in z

token-no-source : (t : List ℕ) (y : SourceExpression) → token_meaning t ≡ source y → ⊥
token-no-source t y = token-means t (λ m. m ≡ source y → ⊥) (λ e. clash cc) (λ e. clash cc) (λ e. clash cc)

-- an item that means an expression is a string that is the expression
pub source-item : (x : Item) (y : SourceExpression) → item_meaning x ≡ source y → (t : List ℕ) × (x ≡ string t) × (expression_of t ≡ Some y)
unfolding item_meaning
source-item (token t) y e = absurd (token-no-source t y e)
source-item (string t) y e = (t, refl, source_is (expression_of t) y e)
source-item other y e = clash cc

-- no item means the src-origin
pub item-no-src : (x : Item) → item_meaning x ≡ src → ⊥
unfolding item_meaning
item-no-src (token t) e = token-means t (λ m. m ≡ src → ⊥) (λ f. clash cc) (λ f. clash cc) (λ f. clash cc) e
item-no-src (string t) e = source-no-src (expression_of t) e
item-no-src other e = clash cc

kind-source : (s : List ℕ) (p : ItemRange) (y : SourceExpression) (k : ItemKind) → p.kind ≡ k → item_meaning (item_in s p) ≡ source y → expression_of (part_in s p.text) ≡ Some y
unfolding item_meaning
kind-source s p y kind.Token k e = absurd (token-no-source (part_in s p.text) y (rw (token-in s p k) at e))
kind-source s p y kind.String k e = source_is (expression_of (part_in s p.text)) y (rw (string-in s p k) at e)
kind-source s p y kind.Other k e =
    let f : nothing ≡ source y = rw (other-in s p k) at e in
    clash cc

-- what `meaning` answers, beside the item's text, says what the item means
pub item-in : (s : List ℕ) (p : ItemRange) (x : List ℕ) (r : Option MeaningRange) → x ≡ part_in s p.text → r ≡ meaning_as (item_meaning (item_in s p)) → meaning_in x r ≡ item_meaning (item_in s p)
item-in s p x r m h = rw h (meaning-in x (item_meaning (item_in s p)) (λ y e. rw m (kind-source s p y p.kind refl e)))
