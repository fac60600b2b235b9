-- The first values of a function, as a list: a part of the laws of this crate. Assumes nothing.
use mathlib.Core.Path.{◌≡◌, refl, ap, ◌∙◌, sym}
use Prim.Native.Nat.{ℕ, zero, suc, ◌+◌, ◌≤◌, ◌<◌}
use mathlib.Core.List.{List, [], ◌∷◌, ◌++◌}
use native.Mathlib.Omega.{arith}
use native.Mathlib.Nat.{add-zero, add-suc, suc-add}
use lib.ListN.{length, get_or}
use Rattle.document_model.specs.Model.{values_from}

pub values-from : {A : Type 0} (f : ℕ → A) (i k n : ℕ) (d : A) → n < k → get_or (values_from f i k) n d ≡ f (i + n)
unfolding values_from
values-from f i zero n d h = absurd (omega arith)
values-from f i (suc k) zero d h = ap f (sym (add-zero i))
values-from f i (suc k) (suc n) d h = values-from f (suc i) k n d (omega arith) ∙ ap f (suc-add i n ∙ sym (add-suc i n))

pub values-at : {A : Type 0} (f : ℕ → A) (k n : ℕ) (d : A) → n < k → get_or (values_from f 0 k) n d ≡ f n
values-at f k n d h = let e : 0 + n ≡ n = omega arith in values-from f 0 k n d h ∙ ap f e

pub values-past : {A : Type 0} (f : ℕ → A) (i k n : ℕ) (d : A) → k ≤ n → get_or (values_from f i k) n d ≡ d
unfolding values_from
values-past f i zero n d h = refl
values-past f i (suc k) zero d h = absurd (omega arith)
values-past f i (suc k) (suc n) d h = values-past f (suc i) k n d (omega arith)

pub values_length : {A : Type 0} (f : ℕ → A) (i k : ℕ) → length (values_from f i k) ≡ k
unfolding values_from
values_length f i zero = refl
values_length f i (suc k) = ap suc (values_length f (suc i) k)

pub values-none : {A : Type 0} (f : ℕ → A) (i : ℕ) → values_from f i 0 ≡ []
unfolding values_from
values-none f i = refl

-- functions with the same values
pub values_same : {A : Type 0} (f g : ℕ → A) (i k : ℕ) → ((n : ℕ) → i ≤ n → n < i + k → f n ≡ g n) → values_from f i k ≡ values_from g i k
unfolding values_from
values_same f g i zero h = refl
values_same f g i (suc k) h = rw (h i (omega arith) (omega arith), values_same f g (suc i) k (λ n a b. h n (omega arith) (omega arith)))

-- one value more at the end
pub values-snoc : {A : Type 0} (f : ℕ → A) (i k : ℕ) → values_from f i (suc k) ≡ values_from f i k ++ (f (i + k) ∷ [])
unfolding values_from
values-snoc f i zero = ap (λ (m : ℕ). f m ∷ []) (sym (add-zero i))
values-snoc {A} f i (suc k) = ap (λ (l : List A). f i ∷ l) (values-snoc f (suc i) k ∙ ap (λ (m : ℕ). values_from f (suc i) k ++ (f m ∷ [])) (suc-add i k ∙ sym (add-suc i k)))
