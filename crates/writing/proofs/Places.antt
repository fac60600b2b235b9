-- Where a text that was put into a run is read back, and that every other byte stays: the laws of writes as equations. Assumes nothing.
use mathlib.Core.Path.{◌≡◌, refl, ap, ◌∙◌, sym}
use Prim.Native.Nat.{ℕ, zero, suc, ◌+◌, ◌≤◌, ◌<◌}
use mathlib.Core.List.{List, [], ◌∷◌, ◌++◌, append_assoc}
use native.Mathlib.Omega.{arith}
use lib.ListN.{length, get_or, take, drop, set, length-set, length-take, length-drop, length-append, take-append-drop}
use lib.Seq.{drop-drop, drop-append-le, get_or-set_same, get_or-set_other, get_or-take, get_or-drop, ext_get_or, length-sets, sets-eq}
use Rattle.writing.specs.Writing.{with_text}

-- the run keeps its length
pub put-long : (l : List ℕ) (at : ℕ) (t : List ℕ) → length (with_text l at t) ≡ length l
unfolding with_text
put-long l at t = length-sets l at t

-- nothing put is nothing changed
pub put-nothing : (l : List ℕ) (at : ℕ) → with_text l at [] ≡ l
unfolding with_text
put-nothing l at = refl

-- byte by byte
pub get-below : (t l : List ℕ) (at j : ℕ) → j < at → get_or (with_text l at t) j 0 ≡ get_or l j 0
unfolding with_text
get-below [] l at j h = refl
get-below (x ∷ t) l at j h = get-below t (set l at x) (suc at) j (omega arith) ∙ get_or-set_other l at j x 0 (λ e. omega arith)

pub get-above : (t l : List ℕ) (at j : ℕ) → at + length t ≤ j → get_or (with_text l at t) j 0 ≡ get_or l j 0
unfolding with_text
get-above [] l at j h = refl
get-above (x ∷ t) l at j h = get-above t (set l at x) (suc at) j (omega arith) ∙ get_or-set_other l at j x 0 (λ e. omega arith)

pub get-here : (t l : List ℕ) (at j : ℕ) → at + length t ≤ length l → j < length t → get_or (with_text l at t) (at + j) 0 ≡ get_or t j 0
unfolding with_text
get-here [] l at j fits h = absurd (omega arith)
get-here (x ∷ t) l at zero fits h =
    let e : at + 0 ≡ at = omega arith in
    rw e (get-below t (set l at x) (suc at) at (omega arith) ∙ get_or-set_same l at x 0 (omega arith))
get-here (x ∷ t) l at (suc j) fits h =
    let e : at + suc j ≡ suc at + j = omega arith in
    let n = length-set l at x in
    rw e (get-here t (set l at x) (suc at) j (omega arith) (omega arith))

-- parts of the run
pub part-here : (t l : List ℕ) (at : ℕ) → at + length t ≤ length l → take (length t) (drop at (with_text l at t)) ≡ t
part-here t l at fits =
    let n = put-long l at t in
    let m : length (take (length t) (drop at (with_text l at t))) ≡ length t = simp (length-take, length-drop) (omega arith) in
    ext_get_or 0 (take (length t) (drop at (with_text l at t))) t m
    (λ j h.
    let lt : j < length t = omega arith in
    rw (get_or-take (length t) (drop at (with_text l at t)) j 0 lt, get_or-drop at (with_text l at t) j 0) (get-here t l at j fits lt))

module _ (t l : List ℕ) (at p n : ℕ) where
  part_same : ((j : ℕ) → j < n → get_or (with_text l at t) (p + j) 0 ≡ get_or l (p + j) 0) → take n (drop p (with_text l at t)) ≡ take n (drop p l)
  part_same same =
      ext_get_or 0 (take n (drop p (with_text l at t))) (take n (drop p l))
      (simp (length-take, length-drop) (rw (put-long l at t) refl))
      (λ j h.
      let lt : j < n = omega (arith, simp (length-take, length-drop) at h) in
      rw (get_or-take n (drop p (with_text l at t)) j 0 lt, get_or-take n (drop p l) j 0 lt, get_or-drop p (with_text l at t) j 0, get_or-drop p l j 0) (same j lt))

  pub part-below : p + n ≤ at → take n (drop p (with_text l at t)) ≡ take n (drop p l)
  part-below h = part_same (λ j lt. get-below t l at (p + j) (omega arith))

  pub part-above : at + length t ≤ p → take n (drop p (with_text l at t)) ≡ take n (drop p l)
  part-above h = part_same (λ j lt. get-above t l at (p + j) (omega arith))

-- what stands past a text that is put stays
pub put-past : (l t : List ℕ) (at e : ℕ) → at + length t ≤ e → drop e (with_text l at t) ≡ drop e l
put-past l t at e h =
    ext_get_or 0 (drop e (with_text l at t)) (drop e l)
    (simp length-drop (rw (put-long l at t) refl))
    (λ j lt. rw (get_or-drop e (with_text l at t) j 0, get_or-drop e l j 0) (get-above t l at (e + j) (omega arith)))

-- a run in which a part was replaced
pub part-put : (l t : List ℕ) (at e : ℕ) → e ≤ length l → at + length t ≡ e → take at l ++ t ++ drop e l ≡ with_text l at t
unfolding with_text
part-put l t at e h q = rw (← q) (sym (sets-eq t l at (omega arith)))

-- the same as a part that was lent comes back
pub mid-put : (l t : List ℕ) (at k : ℕ) → at + k ≤ length l → length t ≡ k → take at l ++ (t ++ drop k (drop at l)) ≡ with_text l at t
mid-put l t at k fits long =
    sym (append_assoc (take at l) t (drop k (drop at l)))
    ∙ (ap (λ (y : List ℕ). (take at l ++ t) ++ y) (drop-drop k at l) ∙ part-put l t at (at + k) fits (omega arith))

-- a text in front of a part, with the rest of the part as it was
pub part-front : (l t : List ℕ) (at n k : ℕ) → at + n ≤ length l → k ≡ length t → k ≤ n → with_text l at (t ++ drop k (take n (drop at l))) ≡ with_text l at t
part-front l t at n k fits is room =
    let x = drop at l in
    let m : length (take n (drop at l)) ≡ n = simp (length-take, length-drop) (omega arith) in
    let whole : length (t ++ drop k (take n (drop at l))) ≡ n = simp (length-append, length-drop) (omega arith) in
    let rest : drop k (take n (drop at l)) ++ drop (at + n) l ≡ drop (at + k) l =
    ap (λ (y : List ℕ). drop k (take n (drop at l)) ++ y) (sym (drop-drop n at l))
    ∙ (sym (drop-append-le k (take n (drop at l)) (drop n (drop at l)) (omega arith)) ∙ (ap (drop k) (take-append-drop n (drop at l)) ∙ drop-drop k at l)) in
    sym (part-put l (t ++ drop k (take n (drop at l))) at (at + n) fits (omega arith))
    ∙ (ap (λ (y : List ℕ). y ++ drop (at + n) l) (sym (append_assoc (take at l) t (drop k (take n (drop at l)))))
    ∙ (append_assoc (take at l ++ t) (drop k (take n (drop at l))) (drop (at + n) l)
    ∙ (ap (λ (y : List ℕ). (take at l ++ t) ++ y) rest
    ∙ part-put l t at (at + k) (omega arith) (omega arith))))

-- two texts one after the other
pub with_append : (s t l : List ℕ) (at : ℕ) → with_text l at (s ++ t) ≡ with_text (with_text l at s) (at + length s) t
unfolding with_text
with_append [] t l at = let e : at + 0 ≡ at = omega arith in rw e
with_append (x ∷ s) t l at = let e : at + suc (length s) ≡ suc at + length s = omega arith in rw e (with_append s t (set l at x) (suc at))
