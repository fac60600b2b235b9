-- The index of a list: an expression is not among those with another hash. Assumes nothing.
use Rattle.std.specs.Prelude.{Option, Some}
use mathlib.Core.Path.{◌≡◌, refl, ap, ◌∙◌, sym}
use Prim.Native.Nat.{ℕ, suc, ◌+◌, ◌-◌, ◌≤◌, ◌<◌, min}
use mathlib.Core.List.{List, [], ◌∷◌, ◌++◌, map, map-append}
use mathlib.Core.Bool.{Bool, true, false, not, ◌&&◌, ◌||◌}
use native.Mathlib.Omega.{arith}
use native.Mathlib.Numerals.{add-one}
use lib.ListN.{length, get_or, take, drop, set, length-set, length-take}
use lib.Seq.{take-set-le, take-suc-set, take-take, get_or-set_same, get_or-set_other}
use lib.Dec.{leb, eqb}
use borrow.Author.Tests.{leb-true, leb-false, eq-eqb, eqb-true, eqb-false}
use Rattle.ascii.specs.Texts.{every, part_in}
use Rattle.ascii.proofs.Bytes.{and_right}
use Rattle.ascii.proofs.Texts.{every_more}
use Rattle.ascii.proofs.Clash.{clash}
use Rattle.origins.specs.Expressions.{SourceExpression}
use Rattle.origins.specs.Answers.{expression_by}
use Rattle.origins.specs.NormalForms.{normal, same_expression}
use Rattle.origins.specs.declared.ExpressionParts.{ExpressionParts}
use Rattle.origins.proofs.Laws.{same-expression-is}
use Rattle.hashes.specs.Hashes.{hash_of, is_other, first_place}
use Rattle.hashes.proofs.Laws.{place-upto, place-before}
use Rattle.settled.specs.Settled.{expressions_from}
use Rattle.settled.specs.Answers.{settled_in, IsExpressionAt}
use Rattle.origins.specs.declared.ExpressionRange.{ExpressionRange}
use Rattle.settled.proofs.Laws.{from-none}
use Rattle.tidying.specs.Tidied.{among}
use Rattle.tidying.specs.Steps.{Passed, Indexed}
use Rattle.tidying.specs.declared.Index.{Index}
use Rattle.tidying.proofs.Listing.{one_more}

pub kept : (l m : List ℕ) (i x y : ℕ) → m ≡ set l i x → x ≡ y → m ≡ set l i y
kept l m i x y g e = rw (← e) g

-- an expression isn't among those with other hashes
hash-apart : (e : SourceExpression) (es : List SourceExpression) → every (is_other (hash_of e)) (map hash_of es) ≡ true → among e es ≡ false
unfolding among
hash-apart e [] h = refl
hash-apart e (f ∷ fs) h = go (same_expression e f) refl (rw (every_more (is_other (hash_of e)) (hash_of f) (map hash_of fs)) at h) (hash-apart e fs)
  where
    go : (b : Bool) → same_expression e f ≡ b → not (eqb (hash_of f) (hash_of e)) && every (is_other (hash_of e)) (map hash_of fs) ≡ true → (every (is_other (hash_of e)) (map hash_of fs) ≡ true → among e fs ≡ false) → b || among e fs ≡ false
    go true s g ih =
        let z : eqb (hash_of f) (hash_of e) ≡ true = eq-eqb (hash_of f) (hash_of e) (ap hash_of (sym (same-expression-is e f s))) in
        let y : false ≡ true = rw z at g in
        clash cc
    go false s g ih = ih (and_right (not (eqb (hash_of f) (hash_of e))) (every (is_other (hash_of e)) (map hash_of fs)) g)

among-append : (e : SourceExpression) (xs ys : List SourceExpression) → among e xs ≡ false → among e (xs ++ ys) ≡ among e ys
unfolding among
among-append e [] ys h = refl
among-append e (x ∷ xs) ys h = go (same_expression e x) h (among-append e xs ys)
  where
    go : (b : Bool) → b || among e xs ≡ false → (among e xs ≡ false → among e (xs ++ ys) ≡ among e ys) → b || among e (xs ++ ys) ≡ among e ys
    go true g ih = clash cc
    go false g ih = ih g

module _ (d : List ℕ) (first n : ℕ) (ix : Index) (g : Indexed d first n ix) (e : ExpressionParts) (h : List ℕ) (x : ℕ) (v : x ≡ hash_of (normal (expression_by e h))) (j : ℕ) (room : n ≤ length ix.hashes) (at : j ≡ first_place x (take n ix.hashes)) where
  -- none before the first of its hash has its normal form
  none_before : j ≤ n → among (normal (expression_by e h)) (map normal (expressions_from j (drop first d))) ≡ false
  none_before k =
      let a : every (is_other x) (take j ix.hashes) ≡ true = rw (← at, take-take j n ix.hashes k) at (place-before x (take n ix.hashes)) in
      let b : every (is_other (hash_of (normal (expression_by e h)))) (map hash_of (map normal (expressions_from j (drop first d)))) ≡ true = rw (← g.hashed j k (omega arith), ← v) a in
      hash-apart (normal (expression_by e h)) (map normal (expressions_from j (drop first d))) b

  upto : j ≤ n
  upto = let a : first_place x (take n ix.hashes) ≤ length (take n ix.hashes) = place-upto x (take n ix.hashes) in let b : length (take n ix.hashes) ≡ min n (length ix.hashes) = length-take n ix.hashes in omega arith

  -- none has its hash
  pub listed-none : n ≤ j → false ≡ among (normal (expression_by e h)) (map normal (expressions_from n (drop first d)))
  listed-none k = let z : n ≡ j = omega (arith, upto) in rw z (sym (none_before upto))

  -- the first with its hash is the first that is compared
  pub listed-rest : j < n → j < length ix.places → (q : ℕ) → q ≡ get_or ix.places j 0 → (r : Bool) → r ≡ among (normal (expression_by e h)) (map normal (expressions_from (n - j) (drop q d))) → r ≡ among (normal (expression_by e h)) (map normal (expressions_from n (drop first d)))
  listed-rest k m q u r w =
      let z : j + (n - j) ≡ n = omega arith in
      let s : expressions_from n (drop first d) ≡ expressions_from j (drop first d) ++ expressions_from (n - j) (drop q d) = rw (z, ← u) at ((g.placed j k m).is (n - j)) in
      rw (s, map-append normal (expressions_from j (drop first d)) (expressions_from (n - j) (drop q d)))
      (w ∙ sym (among-append (normal (expression_by e h)) (map normal (expressions_from j (drop first d))) (map normal (expressions_from (n - j) (drop q d))) (none_before upto)))

-- places, and one more
placed_on : (d : List ℕ) (first i p : ℕ) (places : List ℕ) → ((j : ℕ) → j < i → j < length places → Passed d first j (get_or places j 0)) → Passed d first i p → (j : ℕ) → j < i + 1 → j < length (set places i p) → Passed d first j (get_or (set places i p) j 0)
placed_on d first i p places g s j m n = go (eqb j i) refl
  where
    go : (b : Bool) → eqb j i ≡ b → Passed d first j (get_or (set places i p) j 0)
    go true t = let z : j ≡ i = eqb-true j i t in rw (z, get_or-set_same places i p 0 (omega (arith, length-set places i p))) s
    go false t =
        let z : j ≡ i → ⊥ = eqb-false j i t in
        let w : j < i = omega arith in
        rw (get_or-set_other places i j p 0 z) (g j w (omega (arith, length-set places i p)))

-- nothing yet
pub indexed-start : (d : List ℕ) (first : ℕ) (ix : Index) → Indexed d first 0 ix
indexed-start d first ix =
    record { hashed = λ j k m. (let z : j ≡ 0 = omega arith in rw (z, from-none (drop first d)) refl); placed = λ j k m. absurd (omega arith) }

-- an expression stands within the bytes
pub place-narrow : (d : List ℕ) (p : ℕ) (r : Option ExpressionRange) (e : ExpressionRange) → IsExpressionAt d p r → r ≡ Some e → length d ≤ 65535 → p ≤ 65535
place-narrow d p r e a k m = let u : p < e.host.to = rw k at a.past in let v : e.host.to ≤ length d = rw k at a.upto in omega arith

-- an expression more
module _ (d : List ℕ) (first i p : ℕ) (ix : Index) (g : Indexed d first i ix) (s : Passed d first i p) (r : Option ExpressionRange) (a : IsExpressionAt d p r) (e : ExpressionRange) (k : r ≡ Some e) where
  module _ (h : List ℕ) (u : h ≡ part_in d e.host) where
    hashed-more : i < length ix.hashes → take (suc i) (set ix.hashes i (hash_of (normal (expression_by e.parts h)))) ≡ map hash_of (map normal (expressions_from (i + 1) (drop first d)))
    hashed-more m =
        let es = expressions_from i (drop first d) in
        rw (one_more d first i p s r a e k, map-append normal es (settled_in d e ∷ []), map-append hash_of (map normal es) (normal (settled_in d e) ∷ []))
        (take-suc-set ix.hashes i (hash_of (normal (expression_by e.parts h))) m ∙ (rw (g.hashed i (omega arith) (omega arith), u) refl))

    hashed-on : (j : ℕ) → j ≤ i + 1 → j ≤ length (set ix.hashes i (hash_of (normal (expression_by e.parts h)))) → take j (set ix.hashes i (hash_of (normal (expression_by e.parts h)))) ≡ map hash_of (map normal (expressions_from j (drop first d)))
    hashed-on j m n = go (leb j i) refl
      where
        go : (b : Bool) → leb j i ≡ b → take j (set ix.hashes i (hash_of (normal (expression_by e.parts h)))) ≡ map hash_of (map normal (expressions_from j (drop first d)))
        go true t = let w : j ≤ i = leb-true j i t in take-set-le j ix.hashes i (hash_of (normal (expression_by e.parts h))) w ∙ g.hashed j w (omega (arith, length-set ix.hashes i (hash_of (normal (expression_by e.parts h)))))
        go false t =
            let w : i < j = leb-false j i t in
            let z : j ≡ i + 1 = omega arith in
            rw (z, add-one i) (rw (add-one i) at (hashed-more (omega (arith, length-set ix.hashes i (hash_of (normal (expression_by e.parts h)))))))

    pub indexed-on : (iy : Index) → iy.hashes ≡ set ix.hashes i (hash_of (normal (expression_by e.parts h))) → iy.places ≡ set ix.places i p → Indexed d first (i + 1) iy
    indexed-on iy y z = record { hashed = rw y hashed-on; placed = rw z (placed_on d first i p ix.places g.placed s) }
