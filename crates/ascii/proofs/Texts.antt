-- Laws of texts: comparing, lower case, parts. Assumes nothing.
use mathlib.Core.Path.{◌≡◌, refl, ap, ◌∙◌, sym}
use Prim.Native.Nat.{ℕ, zero, suc, ◌+◌, ◌-◌, ◌≤◌, ◌<◌}
use native.Mathlib.Nat.{le_of_suc-le-suc, not-suc-le-zero}
use mathlib.Core.List.{List, [], ◌∷◌, ◌++◌}
use mathlib.Core.Bool.{Bool, true, false, not, ◌&&◌}
use native.Mathlib.Numerals.{add-one}
use lib.ListN.{length, get_or, take, drop, drop_of_length-le}
use lib.Seq.{drop-cons}
use lib.Dec.{eqb}
use borrow.Author.Tests.{eq-eqb, ne_eqb, eqb-true, le-leb, lt-leb}
use Rattle.ascii.proofs.Clash.{clash}
use Rattle.ascii.specs.Bytes.{pick}
use Rattle.ascii.specs.Texts.{every, each, same_by, same_bytes, part_of, prepended, cut_at}
use Rattle.ascii.specs.Reading.{head_of, run_of, past}
use Rattle.ascii.proofs.Bytes.{and_left, and_right}

-- a comparison says that the texts are the same, and the other way round
pub same-is : (f : ℕ → ℕ) (a b : List ℕ) → same_by f a b ≡ true → each f a ≡ b
unfolding same_by each pick
same-is f [] [] e = refl
same-is f [] (y ∷ ys) e = clash cc
same-is f (x ∷ xs) [] e = clash cc
same-is f (x ∷ xs) (y ∷ ys) e = go (eqb (f x) y) refl e (λ h. same-is f xs ys h)
  where
    go : (b : Bool) → eqb (f x) y ≡ b → pick b (same_by f xs ys) false ≡ true → (same_by f xs ys ≡ true → each f xs ≡ ys) → f x ∷ each f xs ≡ y ∷ ys
    go true t h ih = let u : f x ≡ y = eqb-true (f x) y t in let v : each f xs ≡ ys = ih h in cc
    go false t h ih = clash cc

pub is_same : (f : ℕ → ℕ) (a : List ℕ) → same_by f a (each f a) ≡ true
unfolding same_by each pick
is_same f [] = refl
is_same f (x ∷ xs) = rw (eq-eqb (f x) (f x) refl) (is_same f xs)

pub each-id : (a : List ℕ) → each (λ x. x) a ≡ a
unfolding each
each-id [] = refl
each-id (x ∷ xs) = ap (λ (l : List ℕ). x ∷ l) (each-id xs)

pub bytes_same : (a b : List ℕ) → same_bytes a b ≡ true → a ≡ b
bytes_same a b e = sym (each-id a) ∙ same-is (λ x. x) a b e

pub same-bytes : (a : List ℕ) → same_bytes a a ≡ true
same-bytes a = rw each-id at (is_same (λ x. x) a)

-- comparing in lower case is lower case, compared
pub same-each : (f : ℕ → ℕ) (a b : List ℕ) → same_by f a b ≡ same_bytes (each f a) b
unfolding same_by each
same-each f [] [] = refl
same-each f [] (y ∷ ys) = refl
same-each f (x ∷ xs) [] = refl
same-each f (x ∷ xs) (y ∷ ys) = rw (same-each f xs ys)

-- how a comparison goes by one place
module _ (f : ℕ → ℕ) (a b : List ℕ) (i : ℕ) (r : Bool) where
  pub same_end : length a ≤ i → length b ≤ i → same_by f (drop i a) (drop i b) ≡ r → true ≡ r
  unfolding same_by
  same_end h g e = rw (drop_of_length-le a h, drop_of_length-le b g) at e

  pub same-long : length a ≤ i → i < length b → same_by f (drop i a) (drop i b) ≡ r → false ≡ r
  unfolding same_by
  same-long h g e = rw (drop_of_length-le a h, drop-cons b i 0 g) at e

  pub same-short : i < length a → length b ≤ i → same_by f (drop i a) (drop i b) ≡ r → false ≡ r
  unfolding same_by
  same-short h g e = rw (drop-cons a i 0 h, drop_of_length-le b g) at e

  pub same_more : (x : ℕ) → x ≡ f (get_or a i 0) → i < length a → i < length b → x ≡ get_or b i 0 → same_by f (drop i a) (drop i b) ≡ r → same_by f (drop (i + 1) a) (drop (i + 1) b) ≡ r
  unfolding same_by pick
  same_more x u h g q e = simp add-one (rw (drop-cons a i 0 h, drop-cons b i 0 g, eq-eqb _ _ (sym u ∙ q)) at e)

  pub same-ne : (x : ℕ) → x ≡ f (get_or a i 0) → i < length a → i < length b → (x ≡ get_or b i 0 → ⊥) → same_by f (drop i a) (drop i b) ≡ r → false ≡ r
  unfolding same_by pick
  same-ne x u h g q e = rw (drop-cons a i 0 h, drop-cons b i 0 g, ne_eqb _ _ (λ z. q (u ∙ z))) at e

-- the same, compared byte for byte
module _ (a b : List ℕ) (i : ℕ) (r : Bool) where
  pub byte_more : i < length a → i < length b → get_or a i 0 ≡ get_or b i 0 → same_bytes (drop i a) (drop i b) ≡ r → same_bytes (drop (i + 1) a) (drop (i + 1) b) ≡ r
  byte_more h g q e = same_more (λ x. x) a b i r (get_or a i 0) refl h g q e

  pub byte-ne : i < length a → i < length b → (get_or a i 0 ≡ get_or b i 0 → ⊥) → same_bytes (drop i a) (drop i b) ≡ r → false ≡ r
  byte-ne h g q e = same-ne (λ x. x) a b i r (get_or a i 0) refl h g q e

-- a part that lies in the text, and one that doesn't
module _ (s : List ℕ) (a e : ℕ) where
  pub part-in : a ≤ e → e ≤ length s → take (e - a) (drop a s) ≡ part_of s a e
  unfolding part_of pick
  part-in h g = rw (le-leb a e h, le-leb e (length s) g)

  pub part_turned : e < a → [] ≡ part_of s a e
  unfolding part_of pick
  part_turned h = rw (lt-leb a e h)

  pub part-over : a ≤ e → length s < e → [] ≡ part_of s a e
  unfolding part_of pick
  part-over h g = rw (le-leb a e h, lt-leb e (length s) g)

pub every-none : {A : Type 0} (p : A → Bool) → every p [] ≡ true
unfolding every
every-none p = refl

pub every_more : {A : Type 0} (p : A → Bool) (x : A) (xs : List A) → every p (x ∷ xs) ≡ p x && every p xs
unfolding every
every_more p x xs = refl

-- a test that each of a list passes holds at each place
pub every-at : {A : Type 0} (p : A → Bool) (d : A) (xs : List A) (k : ℕ) → every p xs ≡ true → k < length xs → p (get_or xs k d) ≡ true
unfolding every
every-at p d [] k e h = absurd (not-suc-le-zero h)
every-at p d (x ∷ xs) zero e h = and_left (p x) (every p xs) e
every-at p d (x ∷ xs) (suc k) e h = every-at p d xs k (and_right (p x) (every p xs) e) (le_of_suc-le-suc h)

-- a run of bytes that all pass a test, with one after it that doesn't
pub every-run : (p : ℕ → Bool) (xs ys : List ℕ) → every p xs ≡ true → p (head_of ys) ≡ false → run_of p (xs ++ ys) ≡ xs
unfolding every run_of head_of pick
every-run p [] [] e h = refl
every-run p [] (y ∷ ys) e h = rw h
every-run p (x ∷ xs) ys e h = rw (and_left (p x) (every p xs) e, every-run p xs ys (and_right (p x) (every p xs) e) h)

pub every-past : (p : ℕ → Bool) (xs ys : List ℕ) → every p xs ≡ true → p (head_of ys) ≡ false → past p (xs ++ ys) ≡ ys
unfolding every past head_of pick
every-past p [] [] e h = refl
every-past p [] (y ∷ ys) e h = rw h
every-past p (x ∷ xs) ys e h = rw (and_left (p x) (every p xs) e) (every-past p xs ys (and_right (p x) (every p xs) e) h)

-- a text whose bytes all pass a test is one run
pub every-run-whole : (p : ℕ → Bool) (xs : List ℕ) → every p xs ≡ true → run_of p xs ≡ xs
unfolding every run_of pick
every-run-whole p [] e = refl
every-run-whole p (x ∷ xs) e = rw (and_left (p x) (every p xs) e, every-run-whole p xs (and_right (p x) (every p xs) e))

pub every-past-whole : (p : ℕ → Bool) (xs : List ℕ) → every p xs ≡ true → past p xs ≡ []
unfolding every past pick
every-past-whole p [] e = refl
every-past-whole p (x ∷ xs) e = rw (and_left (p x) (every p xs) e) (every-past-whole p xs (and_right (p x) (every p xs) e))

-- tests that agree at every byte cut a text alike
pub cut-same : (p q : ℕ → Bool) → ((b : ℕ) → p b ≡ q b) → (l : List ℕ) → cut_at p l ≡ cut_at q l
unfolding cut_at
cut-same p q h [] = refl
cut-same p q h (x ∷ xs) = rw (h x, cut-same p q h xs)

-- and have the same runs
pub run-same : (p q : ℕ → Bool) → ((b : ℕ) → p b ≡ q b) → (l : List ℕ) → run_of p l ≡ run_of q l
unfolding run_of
run-same p q h [] = refl
run-same p q h (x ∷ xs) = rw (h x, run-same p q h xs)

pub past_same : (p q : ℕ → Bool) → ((b : ℕ) → p b ≡ q b) → (l : List ℕ) → past p l ≡ past q l
unfolding past
past_same p q h [] = refl
past_same p q h (x ∷ xs) = rw (h x, past_same p q h xs)

-- what follows the first cut, cut
unfoldable pub rest_cut : (ℕ → Bool) → List ℕ → List (List ℕ)
rest_cut cuts [] = []
rest_cut cuts (x ∷ m) = cut_at cuts m

-- a text is cut into the run up to the first cut, and the rest
pub cut-run : (cuts : ℕ → Bool) (l : List ℕ) → cut_at cuts l ≡ run_of (λ b. not (cuts b)) l ∷ rest_cut cuts (past (λ b. not (cuts b)) l)
unfolding cut_at run_of past rest_cut
cut-run cuts [] = refl
cut-run cuts (x ∷ xs) = go (cuts x) (cut-run cuts xs)
  where
    go : (b : Bool) → cut_at cuts xs ≡ run_of (λ b. not (cuts b)) xs ∷ rest_cut cuts (past (λ b. not (cuts b)) xs) → pick b ([] ∷ cut_at cuts xs) (prepended x (cut_at cuts xs)) ≡ pick (not b) (x ∷ run_of (λ b. not (cuts b)) xs) [] ∷ rest_cut cuts (pick (not b) (past (λ b. not (cuts b)) xs) (x ∷ xs))
    go true e = unfold pick rest_cut in refl
    go false e = unfold pick prepended in (rw e)
