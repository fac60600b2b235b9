-- Texts that are added one after the other, with a separator between them. Assumes nothing.
use mathlib.Core.Path.{◌≡◌, refl, ap, ◌∙◌, sym}
use Prim.Native.Nat.{ℕ}
use mathlib.Core.List.{List, [], ◌∷◌, ◌++◌, append_assoc, append-nil}
use mathlib.Core.Bool.{Bool, true, false, ◌||◌}
use Rattle.ascii.specs.Bytes.{pick}
use Rattle.ascii.proofs.Bytes.{or-false, or-true}
use Rattle.dictionaries.specs.Written.{each_after}
use Rattle.dictionaries.proofs.Written.{each_none, each_more, joined-none, joined-first}
use Rattle.tidying.specs.Writing.{Adding}
use Rattle.tidying.specs.Steps.{following, is_some, Spelling}
use Rattle.tidying.specs.declared.Text.{Text}
use Rattle.tidying.proofs.Growing.{adding-on, adding-none}

after-append : (sep : List ℕ) (ts us : List (List ℕ)) → each_after sep (ts ++ us) ≡ each_after sep ts ++ each_after sep us
after-append sep [] us = rw each_none
after-append sep (t ∷ ts) us = simp (each_more, after-append sep ts us, append_assoc)

-- texts, and then others
pub following-append : (any : Bool) (sep : List ℕ) (ts us : List (List ℕ)) → following any sep (ts ++ us) ≡ following any sep ts ++ following (any || is_some ts) sep us
unfolding following is_some
following-append true sep ts us = after-append sep ts us
following-append false sep [] us = rw joined-none
following-append false sep (t ∷ ts) us = simp (joined-first, after-append sep ts us, append_assoc)

pub following-one : (any : Bool) (sep t : List ℕ) → following any sep (t ∷ []) ≡ pick any sep [] ++ t
unfolding following pick
following-one true sep t = simp (each_more, each_none, append-nil)
following-one false sep t = simp (joined-first, each_none, append-nil)

pub following-none : (any : Bool) (sep : List ℕ) → following any sep [] ≡ []
unfolding following
following-none true sep = each_none sep
following-none false sep = joined-none sep

some-append : {A : Type 0} (a : Bool) (xs ys : List A) → a || is_some (xs ++ ys) ≡ (a || is_some xs) || is_some ys
unfolding is_some
some-append true xs ys = refl
some-append false [] ys = refl
some-append false (x ∷ xs) ys = refl

module _ (sep : List ℕ) (l : Text) (any : Bool) where
  -- none
  pub spelling-none : Spelling sep l any [] l any
  spelling-none = record { text = rw (following-none any sep) (adding-none l); some = unfold is_some in sym (or-false any) }

  -- one, with what stands before it
  pub spelling-one : (n : Text) (t : List ℕ) → Adding l (pick any sep [] ++ t) n → Spelling sep l any (t ∷ []) n true
  spelling-one n t a = record { text = rw (following-one any sep t) a; some = unfold is_some in sym (or-true any) }

  -- some, and then others
  pub spelling-on : (m n : Text) (x y : Bool) (ts us : List (List ℕ)) → Spelling sep l any ts m x → Spelling sep m x us n y → Spelling sep l any (ts ++ us) n y
  spelling-on m n x y ts us a b =
      let u : Adding m (following (any || is_some ts) sep us) n = rw a.some at b.text in
      record {
        text = rw (following-append any sep ts us) (adding-on l m n (following any sep ts) (following (any || is_some ts) sep us) a.text u);
        some = b.some ∙ (ap (λ (z : Bool). z || is_some us) a.some ∙ sym (some-append any ts us));
      }
