-- Steps of the readings, in the terms of the code. Assumes nothing.
use mathlib.Core.Path.{◌≡◌, refl, ap, ◌∙◌, sym}
use Prim.Native.Nat.{ℕ, suc, ◌+◌, ◌-◌, ◌≤◌, ◌<◌, min}
use mathlib.Core.List.{List, [], ◌∷◌}
use mathlib.Core.Bool.{Bool, true, false}
use native.Mathlib.Omega.{arith}
use native.Mathlib.Numerals.{add-one}
use lib.ListN.{length, get_or, take, drop, length-drop}
use lib.Seq.{take_all, drop-cons}
use lib.Dec.{leb, ltb, eqb}
use borrow.Author.Tests.{le-leb, lt-leb, leb-true, leb-false, lt-ltb, le-ltb, eq-eqb, ne_eqb}
use Rattle.ascii.specs.Bytes.{pick}
use Rattle.ascii.specs.Texts.{every, each, same_by, same_bytes, same_lowered}
use Rattle.ascii.specs.Reading.{head_of}
use Rattle.limits.specs.Limits.{host_bytes}
use Rattle.origins.specs.Hosts.{labels, is_label, is_host}
use Rattle.ascii.specs.Decimals.{leads_zero}
use Rattle.origins.specs.Origins.{starts_with}
use Rattle.origins.specs.Expressions.{starts_lowered}
use Rattle.origins.specs.Matching.{ends_in}
use lib.Pointwise.{pointwise}
use Rattle.std.proofs.lemmas.Slice.Eq.{bytes_eq-Decides}
use Rattle.ascii.proofs.Clash.{clash}
use Rattle.ascii.proofs.Texts.{same-each, same-bytes, bytes_same}

pub each-as-is : (l : List ℕ) → each (λ b. b) l ≡ l
unfolding each
each-as-is [] = refl
each-as-is (x ∷ xs) = ap (λ (m : List ℕ). x ∷ m) (each-as-is xs)

pub each-length : (f : ℕ → ℕ) (l : List ℕ) → length (each f l) ≡ length l
unfolding each
each-length f [] = refl
each-length f (x ∷ xs) = ap suc (each-length f xs)

-- as much of a text as there is
pub take-place : (n m : ℕ) (s : List ℕ) → n ≡ min m (length s) → take n s ≡ take m s
take-place n m s e = go (leb m (length s)) refl
  where
    go : (b : Bool) → leb m (length s) ≡ b → take n s ≡ take m s
    go true t = let h : m ≤ length s = leb-true m (length s) t in let k : n ≡ m = omega arith in rw k
    go false t =
        let h : length s < m = leb-false m (length s) t in
        let k : length s ≤ n = omega arith in
        let j : length s ≤ m = omega arith in
        take_all n s k ∙ sym (take_all m s j)

pub starts_is : (s t : List ℕ) (r : Bool) → r ≡ pointwise eqb t (take (length t) s) → r ≡ starts_with t s
unfolding starts_with
starts_is s t r h = h ∙ go (pointwise eqb t front) (same_bytes front t) refl refl
  where
    front : List ℕ
    front = take (length t) s

    go : (u v : Bool) → pointwise eqb t front ≡ u → same_bytes front t ≡ v → u ≡ v
    go true true e f = refl
    go false false e f = refl
    go true false e f = let q : t ≡ front = (bytes_eq-Decides t front).0 e in clash (cc (same-bytes t))
    go false true e f = let q : t ≡ front = sym (bytes_same front t f) in clash (cc ((bytes_eq-Decides t front).1 q))

pub starts-lowered-is : (s t : List ℕ) (n : ℕ) (r : Bool) → n ≡ min (length t) (length s) → r ≡ same_lowered (take n s) t → r ≡ starts_lowered t s
unfolding starts_lowered
starts-lowered-is s t n r e h = rw (take-place n (length t) s e) at h

-- no zero in front
module _ (ds : List ℕ) where
  pub zero-many : 1 < length ds → eqb (get_or ds 0 0) 48 ≡ leads_zero ds
  unfolding leads_zero head_of
  zero-many = elim ds as (λ ys. 1 < length ys → eqb (get_or ys 0 0) 48 ≡ leads_zero ys) [ [] ↦ λ h. absurd (omega arith) | x ∷ xs ↦ λ h. rw (lt-ltb 1 (length (x ∷ xs)) h) ]

  pub zero-few : length ds ≤ 1 → ltb 1 (length ds) ≡ leads_zero ds
  unfolding leads_zero
  zero-few h = rw (le-ltb 1 (length ds) h)

-- a text from a place on is the part up to its end
pub rest_all : (s : List ℕ) (i : ℕ) → take (length s - i) (drop i s) ≡ drop i s
rest_all s i = take_all (length s - i) (drop i s) (omega (arith, length-drop i s))

-- a host that ends in a dot and another host of `n` bytes, whose every byte is changed, place by place; the dot's place is `length h - n - 1`
module _ (f : ℕ → ℕ) (x h : List ℕ) where
  pub sub-short : length h ≤ length x → false ≡ ends_in (46 ∷ each f x) h
  unfolding ends_in
  sub-short g = let k : length h ≤ length (46 ∷ each f x) = omega (arith, each-length f x) in rw (le-ltb (length (46 ∷ each f x)) (length h) k)

  pub sub-bare : length x < length h → length h - length x - 1 ≡ 0 → false ≡ ends_in (46 ∷ each f x) h
  unfolding ends_in
  sub-bare l g = let k : length h ≤ length (46 ∷ each f x) = omega (arith, each-length f x) in rw (le-ltb (length (46 ∷ each f x)) (length h) k)

  module _ (l : length x < length h) (g : length h - length x - 1 ≡ 0 → ⊥) where
    abbrev dot : ℕ
    dot = length h - length x - 1

    sub_at : ends_in (46 ∷ each f x) h ≡ pick (eqb 46 (get_or h dot 0)) (same_bytes (each f x) (drop (dot + 1) h)) false
    unfolding ends_in same_by
    sub_at =
        let k : length (46 ∷ each f x) < length h = omega (arith, each-length f x) in
        let p : length h - length (46 ∷ each f x) ≡ dot = omega (arith, each-length f x) in
        let q : dot < length h = omega arith in
        rw (lt-ltb (length (46 ∷ each f x)) (length h) k, p, drop-cons h dot 0 q, add-one)

    pub sub-other : (get_or h (length h - length x - 1) 0 ≡ 46 → ⊥) → false ≡ ends_in (46 ∷ each f x) h
    unfolding pick
    sub-other d = rw (sub_at, ne_eqb 46 (get_or h dot 0) (λ e. d (sym e)))

    pub sub_is : (r : Bool) → get_or h (length h - length x - 1) 0 ≡ 46 → r ≡ same_by f x (take (length h - (length h - length x - 1 + 1)) (drop (length h - length x - 1 + 1) h)) → r ≡ ends_in (46 ∷ each f x) h
    unfolding pick
    sub_is r d e = rw (sub_at, eq-eqb 46 (get_or h dot 0) (sym d), ← (same-each f x (drop (dot + 1) h))) (rw (rest_all h (dot + 1)) at e)

-- a host's length, and then its labels
module _ (f : ℕ → ℕ) (h : List ℕ) where
  pub host-none : length h ≡ 0 → false ≡ is_host (each f h)
  unfolding is_host
  host-none e =
      let k : length (each f h) < 1 = omega (arith, each-length f h) in
      rw (lt-leb 1 (length (each f h)) k)

  pub host-long : (length h ≡ 0 → ⊥) → host_bytes < length h → false ≡ is_host (each f h)
  unfolding is_host
  host-long z e =
      let j : 1 ≤ length (each f h) = omega (arith, each-length f h) in
      let k : host_bytes < length (each f h) = omega (arith, each-length f h) in
      rw (le-leb 1 (length (each f h)) j, lt-leb (length (each f h)) host_bytes k)

  pub host-is : (r : Bool) → (length h ≡ 0 → ⊥) → length h ≤ host_bytes → r ≡ every is_label (labels (each f h)) → r ≡ is_host (each f h)
  unfolding is_host
  host-is r z e u =
      let j : 1 ≤ length (each f h) = omega (arith, each-length f h) in
      let k : length (each f h) ≤ host_bytes = omega (arith, each-length f h) in
      rw (le-leb 1 (length (each f h)) j, le-leb (length (each f h)) host_bytes k) u
