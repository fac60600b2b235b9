-- The members of a tidied header, as the code adds them. Assumes nothing.
use mathlib.Core.Path.{◌≡◌, refl, ap, ◌∙◌, sym}
use Prim.Native.Nat.{ℕ, suc, ◌+◌, ◌-◌, ◌≤◌, ◌<◌}
use mathlib.Core.List.{List, [], ◌++◌, map, map-append, append_assoc, append-nil}
use mathlib.Core.Bool.{Bool, true, false}
use Rattle.std.specs.Prelude.{Option, Some, None}
use native.Mathlib.Omega.{arith}
use native.Mathlib.Numerals.{add-one}
use lib.ListN.{drop}
use Rattle.ascii.specs.Bytes.{pick}
use Rattle.ascii.specs.Literals.{text}
use Rattle.features.specs.Features.{name_of, feature_count}
use Rattle.origins.specs.Expressions.{SourceExpression}
use Rattle.origins.specs.NormalForms.{normal}
use Rattle.dictionaries.specs.Dictionaries.{Plain}
use Rattle.dictionaries.specs.Written.{item_text, value_text, member_text, written}
use Rattle.dictionaries.specs.Written.{joined_by}
use Rattle.dictionaries.proofs.Written.{joined-first, token-text, item-text, list-text, member-text, members-text}
use Rattle.allowlists.specs.Allowlists.{Allowlist}
use Rattle.allowlists.specs.Allowlists.Allowlist.{all, listed}
use Rattle.settled.specs.Settled.{expressions_from, declared_in}
use Rattle.settled.specs.Answers.{IsList}
use Rattle.settled.specs.declared.ListRange.{ListRange}
use Rattle.settled.specs.declared.ListFound.{ListFound}
use Rattle.settled.specs.declared.ListFound.TheVariants as list
use Rattle.tidying.specs.Tidied.{once_after, source_item, self_item, tidy_value, with_member, tidy_from, tidy_members}
use Rattle.tidying.specs.Writing.{Adding}
use Rattle.tidying.specs.Steps.{following, Spelling, source_texts}
use Rattle.tidying.specs.declared.Text.{Text}
use Rattle.tidying.proofs.Growing.{adding-on}
use Rattle.tidying.proofs.Spellings.{spelling-none, spelling-one, spelling-on}

-- an allowlist without `*`: what follows `self`
value-is : (own : Bool) (es : List SourceExpression) → value_text (tidy_value (listed own false es)) ≡ text "(" ++ (pick own (text "self") [] ++ (following own (text " ") (source_texts es) ++ text ")"))
unfolding tidy_value source_texts self_item pick
value-is own es =
    rw (list-text, map-append item_text (self_item own) (map source_item (once_after [] (map normal es)))) (go own)
  where
    ts : List (List ℕ)
    ts = map item_text (map source_item (once_after [] (map normal es)))

    go : (b : Bool) → text "(" ++ (joined_by (text " ") (map item_text (self_item b) ++ ts) ++ text ")") ≡ text "(" ++ (pick b (text "self") [] ++ (following b (text " ") ts ++ text ")"))
    go true = unfold self_item pick following in simp (token-text, joined-first, append_assoc)
    go false = unfold self_item pick following in refl

pub value-list : (own : Bool) (es : List SourceExpression) (l m n o z : Text) → Adding l (text "(") m → Adding m (pick own (text "self") []) n → Adding n (following own (text " ") (source_texts es)) o → Adding o (text ")") z → Adding l (value_text (tidy_value (listed own false es))) z
value-list own es l m n o z u v w q =
    let before = pick own (text "self") [] in
    let items = following own (text " ") (source_texts es) in
    rw (value-is own es)
    (adding-on l m z (text "(") (before ++ (items ++ text ")")) u
    (adding-on m n z before (items ++ text ")") v (adding-on n o z items (text ")") w q)))

-- a separator, a name and `=`
pub key-parts : (n : ℕ) (name sep : List ℕ) (l o m z : Text) → name ≡ name_of n → Adding l sep o → Adding o name m → Adding m (text "=") z → Adding l (sep ++ (name_of n ++ text "=")) z
key-parts n name sep l o m z i s u v =
    adding-on l o z sep (name_of n ++ text "=") s (adding-on o m z (name_of n) (text "=") (rw i at u) v)

-- a feature's member, by what is declared
module _ (d : List ℕ) (n : ℕ) (r : Option ListFound) (i : IsList d n r) (l : Text) (any : Bool) where
  pub member-none : r ≡ None → Spelling (text ", ") l any (map member_text (with_member n (declared_in d n) [])) l any
  unfolding with_member
  member-none k = rw (i.says, k) (spelling-none (text ", ") l any)

  some-member : (v : Allowlist) (m z : Text) → declared_in d n ≡ Some v → Adding l (pick any (text ", ") [] ++ (name_of n ++ text "=")) m → Adding m (value_text (tidy_value v)) z → Spelling (text ", ") l any (map member_text (with_member n (declared_in d n) [])) z true
  unfolding with_member
  some-member v m z e u w =
      let t = name_of n ++ text "=" in
      let q : (pick any (text ", ") [] ++ t) ++ value_text (tidy_value v) ≡ pick any (text ", ") [] ++ (name_of n ++ (text "=" ++ value_text (tidy_value v))) = simp append_assoc in
      simp (e, member-text) (spelling-one (text ", ") l any z (name_of n ++ (text "=" ++ value_text (tidy_value v))) (rw q at (adding-on l m z (pick any (text ", ") [] ++ t) (value_text (tidy_value v)) u w)))

  pub member-all : (f : ListFound) → r ≡ Some f → f ≡ list.All → (m z : Text) → Adding l (pick any (text ", ") [] ++ (name_of n ++ text "=")) m → Adding m (text "*") z → Spelling (text ", ") l any (map member_text (with_member n (declared_in d n) [])) z true
  unfolding tidy_value
  member-all f k j m z u w = some-member all m z (rw (k, j) at i.says) u (rw (item-text, token-text) w)

  pub member-list : (f : ListRange) (e : ListFound) → r ≡ Some e → e ≡ list.Listed f → (m z : Text) → Adding l (pick any (text ", ") [] ++ (name_of n ++ text "=")) m → Adding m (value_text (tidy_value (listed f.own false (expressions_from f.count (drop f.at d))))) z → Spelling (text ", ") l any (map member_text (with_member n (declared_in d n) [])) z true
  member-list f e k j m z u w = some-member (listed f.own false (expressions_from f.count (drop f.at d))) m z (rw (k, j) at i.says) u w

-- a member, and then those of the others
members-more : (n : ℕ) (o : Option Allowlist) (ms : List Plain) → map member_text (with_member n o ms) ≡ map member_text (with_member n o []) ++ map member_text ms
unfolding with_member
members-more n (Some l) ms = refl
members-more n None ms = refl

-- feature by feature: what was written, and what is left
pub record Filling (d : List ℕ) (i : ℕ) (l m : Text) (x : Bool) : Type 0 where
  pub texts : List (List ℕ)
  pub spelt : Spelling (text ", ") l false texts m x
  pub rest : texts ++ map member_text (tidy_from (declared_in d) i (feature_count - i)) ≡ map member_text (tidy_members (declared_in d))

pub filling-start : (d : List ℕ) (l : Text) → Filling d 0 l l false
filling-start d l = record { texts = []; spelt = spelling-none (text ", ") l false; rest = refl }

from_more : (d : ℕ → Option Allowlist) (i : ℕ) → i < feature_count → tidy_from d i (feature_count - i) ≡ with_member i (d i) (tidy_from d (i + 1) (feature_count - (i + 1)))
unfolding tidy_from
from_more d i h =
    let q : feature_count - i ≡ suc (feature_count - (i + 1)) = omega arith in
    rw (q, add-one i)

from_past : (d : ℕ → Option Allowlist) (i : ℕ) → feature_count ≤ i → tidy_from d i (feature_count - i) ≡ []
unfolding tidy_from
from_past d i h = let q : feature_count - i ≡ 0 = omega arith in rw q

module _ (d : List ℕ) (i : ℕ) (l m : Text) (x : Bool) (g : Filling d i l m x) where
  pub filling-on : (n : Text) (y : Bool) → i < feature_count → Spelling (text ", ") m x (map member_text (with_member i (declared_in d i) [])) n y → Filling d (i + 1) l n y
  filling-on n y h a =
      let ts = map member_text (with_member i (declared_in d i) []) in
      let us = tidy_from (declared_in d) (i + 1) (feature_count - (i + 1)) in
      record {
        texts = g.texts ++ ts;
        spelt = spelling-on (text ", ") l false m n x y g.texts ts g.spelt a;
        rest = append_assoc g.texts ts (map member_text us)
            ∙ (ap (λ (w : List (List ℕ)). g.texts ++ w) (sym (members-more i (declared_in d i) us) ∙ ap (map member_text) (sym (from_more (declared_in d) i h))) ∙ g.rest);
      }

  pub filling-end : feature_count ≤ i → Adding l (written (tidy_members (declared_in d))) m
  unfolding following
  filling-end h =
      let e : g.texts ++ [] ≡ map member_text (tidy_members (declared_in d)) = rw (from_past (declared_in d) i h) at g.rest in
      let f : g.texts ≡ map member_text (tidy_members (declared_in d)) = sym (append-nil g.texts) ∙ e in
      rw members-text (rw f at g.spelt.text)
