-- The added word: what it can be. Assumes nothing.
use mathlib.Core.Path.{◌≡◌, refl}
use Prim.Native.Nat.{ℕ, ◌≤◌, ◌<◌}
use mathlib.Core.List.{List, [], ◌∷◌, ◌++◌, map}
use mathlib.Core.Bool.{Bool, true, false, not, ◌&&◌}
use native.Mathlib.Omega.{arith}
use lib.ListN.{length}
use lib.Dec.{leb}
use borrow.Author.Tests.{leb-true}
use Rattle.ascii.specs.Bytes.{pick, is_white}
use Rattle.ascii.specs.Reading.{is_empty}
use Rattle.ascii.specs.Texts.{every, prepended, cut_at}
use Rattle.ascii.proofs.Bytes.{and_left, and_right}
use Rattle.pieces.specs.Pieces.{non_empty, words, pieces_of}
use Rattle.pieces.specs.OneWordMore.{OneWordMore}

-- a text that can be a word: of at least one byte, none of them white and none that ends a piece
unfoldable pub is_word : (ℕ → Bool) → List ℕ → Bool
is_word ends w = not (is_empty w) && every (λ b. not (is_white b)) w && every (λ b. not (ends b)) w

-- what is cut has no byte that it is cut at, and only bytes of the text
and_both : (a b : Bool) → a ≡ true → b ≡ true → a && b ≡ true
and_both a b e f = rw (e, f)

every-before : (q : ℕ → Bool) (x : ℕ) (ts : List (List ℕ)) → q x ≡ true → every (every q) ts ≡ true → every (every q) (prepended x ts) ≡ true
unfolding every prepended
every-before q x [] e f = rw e
every-before q x (t ∷ ts) e f = rw e f

cut-clean : (cuts : ℕ → Bool) (l : List ℕ) → every (every (λ b. not (cuts b))) (cut_at cuts l) ≡ true
unfolding cut_at
cut-clean cuts [] = unfold every in refl
cut-clean cuts (x ∷ xs) = go (cuts x) refl (cut-clean cuts xs)
  where
    go : (b : Bool) → cuts x ≡ b → every (every (λ b. not (cuts b))) (cut_at cuts xs) ≡ true → every (every (λ b. not (cuts b))) (pick b ([] ∷ cut_at cuts xs) (prepended x (cut_at cuts xs))) ≡ true
    go true t e = unfold pick every in e
    go false t e = unfold pick in (every-before (λ b. not (cuts b)) x (cut_at cuts xs) (rw t) e)

cut_keeps : (q cuts : ℕ → Bool) (l : List ℕ) → every q l ≡ true → every (every q) (cut_at cuts l) ≡ true
unfolding cut_at every
cut_keeps q cuts [] h = refl
cut_keeps q cuts (x ∷ xs) h = go (cuts x) (and_left (q x) (every q xs) h) (cut_keeps q cuts xs (and_right (q x) (every q xs) h))
  where
    go : (b : Bool) → q x ≡ true → every (every q) (cut_at cuts xs) ≡ true → every (every q) (pick b ([] ∷ cut_at cuts xs) (prepended x (cut_at cuts xs))) ≡ true
    go true t e = unfold pick every in e
    go false t e = unfold pick in (every-before q x (cut_at cuts xs) t e)

words-good : (ends : ℕ → Bool) (ts : List (List ℕ)) → every (every (λ b. not (is_white b))) ts ≡ true → every (every (λ b. not (ends b))) ts ≡ true → every (is_word ends) (non_empty ts) ≡ true
unfolding every non_empty
words-good ends [] f g = refl
words-good ends (t ∷ ts) f g = go (is_empty t) refl (words-good ends ts (and_right (every (λ b. not (is_white b)) t) (every (every (λ b. not (is_white b))) ts) f) (and_right (every (λ b. not (ends b)) t) (every (every (λ b. not (ends b))) ts) g))
  where
    one : is_empty t ≡ false → is_word ends t ≡ true
    one e = unfold is_word in (rw (e, and_left (every (λ b. not (is_white b)) t) (every (every (λ b. not (is_white b))) ts) f, and_left (every (λ b. not (ends b)) t) (every (every (λ b. not (ends b))) ts) g))

    go : (b : Bool) → is_empty t ≡ b → every (is_word ends) (non_empty ts) ≡ true → every (is_word ends) (pick b (non_empty ts) (t ∷ non_empty ts)) ≡ true
    go true e k = unfold pick in k
    go false e k = unfold pick every in (and_both (is_word ends t) (every (is_word ends) (non_empty ts)) (one e) k)

pieces-good : (ends : ℕ → Bool) (ps : List (List ℕ)) → every (every (λ b. not (ends b))) ps ≡ true → every (every (is_word ends)) (map words ps) ≡ true
unfolding every words
pieces-good ends [] h = refl
pieces-good ends (p ∷ ps) h =
    and_both
    (every (is_word ends) (words p))
    (every (every (is_word ends)) (map words ps))
    (words-good ends (cut_at is_white p) (cut-clean is_white p) (cut_keeps (λ b. not (ends b)) is_white p (and_left (every (λ b. not (ends b)) p) (every (every (λ b. not (ends b))) ps) h)))
    (pieces-good ends ps (and_right (every (λ b. not (ends b)) p) (every (every (λ b. not (ends b))) ps) h))

every-behind : {A : Type 0} (q : A → Bool) (xs ys : List A) (x : A) → every q (xs ++ (x ∷ ys)) ≡ true → q x ≡ true
unfolding every
every-behind q [] ys x e = and_left (q x) (every q ys) e
every-behind q (z ∷ xs) ys x e = every-behind q xs ys x (and_right (q z) (every q (xs ++ (x ∷ ys))) e)

-- every word of an attribute has a byte, and neither a white byte nor one that ends a piece
pub pieces-good-all : (ends : ℕ → Bool) (s : List ℕ) → every (every (is_word ends)) (pieces_of ends s) ≡ true
unfolding pieces_of
pieces-good-all ends s = pieces-good ends (cut_at ends s) (cut-clean ends s)

-- so the added word is such a text
pub added-word : (ends : ℕ → Bool) (s t : List ℕ) (o : OneWordMore ends s t) → is_word ends o.word ≡ true
added-word ends s t o =
    let e : every (is_word ends) (o.feature ∷ (o.front ++ (o.word ∷ o.back))) ≡ true = every-behind (every (is_word ends)) o.earlier o.later (o.feature ∷ (o.front ++ (o.word ∷ o.back))) (rw o.second at (pieces-good-all ends t)) in
    every-behind (is_word ends) (o.feature ∷ o.front) o.back o.word e

-- a first word after a bare feature is none: it takes the declared origin's place
abbrev few : List (List ℕ) → Bool
few ws = leb (length ws) 1

pub bare-pieces : (ends : ℕ → Bool) (s t : List ℕ) → every few (pieces_of ends s) ≡ true → OneWordMore ends s t → ⊥
bare-pieces ends s t e o =
    let f : few (o.feature ∷ (o.front ++ o.back)) ≡ true = every-behind few o.earlier o.later (o.feature ∷ (o.front ++ o.back)) (rw o.first at e) in
    let h : length (o.feature ∷ (o.front ++ o.back)) ≤ 1 = leb-true (length (o.feature ∷ (o.front ++ o.back))) 1 f in
    let g : 0 < length (o.front ++ o.back) = o.one in
    omega arith
