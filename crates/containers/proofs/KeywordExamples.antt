-- The added keyword, by computation: where it can stand, and what is none. Assumes nothing.
use mathlib.Core.Path.{◌≡◌, refl, ap, sym, ◌∙◌}
use Prim.Native.Nat.{ℕ, ◌+◌}
use native.Mathlib.Omega.{arith}
use mathlib.Core.List.{List, [], ◌∷◌, ◌++◌}
use Rattle.std.specs.Prelude.{Some, None}
use lib.ListN.{length, drop, length-append}
use Rattle.ascii.specs.Bytes.{lower}
use Rattle.ascii.specs.Literals.{text}
use Rattle.ascii.specs.Texts.{lowered}
use Rattle.ascii.proofs.Clash.{clash}
use Rattle.ascii.proofs.Texts.{same-is}
use Rattle.features.specs.Features.{feature_of}
use Rattle.pieces.specs.Pieces.{words}
use Rattle.containers.specs.Policies.{plugins, keyword_of}
use Rattle.containers.specs.Widening.{OneKeywordMore}
use Rattle.containers.specs.Computing.{computing}
use Rattle.containers.proofs.Laws.{keyword-found, same-origin-keyword}

-- in an empty attribute, in the middle, last, and beside itself; in any case, whatever stands between the words
into-empty : OneKeywordMore [] (text "allow-popups")
unfolding computing
into-empty = record { front = []; back = []; word = text "allow-popups"; feature = 12; keyword = text "allow-popups"; is_keyword = refl; any_case = refl; first = refl; second = refl }

middle-place : OneKeywordMore (text "allow-same-origin x") (text "\tallow-same-origin  allow-MODALS\nx")
unfolding computing
middle-place = record { front = text "allow-same-origin" ∷ []; back = text "x" ∷ []; word = text "allow-MODALS"; feature = 7; keyword = text "allow-modals"; is_keyword = refl; any_case = refl; first = refl; second = refl }

last-place : OneKeywordMore (text "x") (text "x\u{c}Allow-Downloads-Without-User-Activation")
unfolding computing
last-place = record { front = text "x" ∷ []; back = []; word = text "Allow-Downloads-Without-User-Activation"; feature = 2; keyword = text "allow-downloads-without-user-activation"; is_keyword = refl; any_case = refl; first = refl; second = refl }

again : OneKeywordMore (text "allow-scripts") (text "allow-scripts allow-scripts")
unfolding computing
again = record { front = []; back = text "allow-scripts" ∷ []; word = text "allow-scripts"; feature = 14; keyword = text "allow-scripts"; is_keyword = refl; any_case = refl; first = refl; second = refl }

-- one word more, and no other number
one-longer : (s t : List ℕ) → OneKeywordMore s t → length (words t) ≡ length (words s) + 1
one-longer s t o = rw (o.first, o.second) (omega (arith, length-append o.front o.back, length-append o.front (o.word ∷ o.back)))

two-more : OneKeywordMore [] (text "allow-forms allow-scripts") → ⊥
two-more o = let n : length (words (text "allow-forms allow-scripts")) ≡ 2 = unfold computing in refl in let m : length (words []) ≡ 0 = unfold computing in refl in omega (arith, one-longer _ _ o)

replaced : OneKeywordMore (text "x") (text "allow-scripts") → ⊥
replaced o = let n : length (words (text "allow-scripts")) ≡ 1 = unfold computing in refl in let m : length (words (text "x")) ≡ 1 = unfold computing in refl in omega (arith, one-longer _ _ o)

-- the word that is added to an empty attribute must be a keyword
alone : (t w k : List ℕ) → words t ≡ w ∷ [] → lowered w ≡ k → ((n : ℕ) → keyword_of n ≡ Some k → ⊥) → OneKeywordMore [] t → ⊥
alone t w k e l h o = h o.feature (o.is_keyword ∙ ap Some (sym (same-is lower o.word o.keyword o.any_case) ∙ ap lowered (go o.front o.back (empty ∙ o.first) (sym e ∙ o.second)) ∙ l))
  where
    empty : [] ≡ words []
    empty = unfold computing in refl

    go : (front back : List (List ℕ)) → [] ≡ front ++ back → w ∷ [] ≡ front ++ (o.word ∷ back) → o.word ≡ w
    go [] [] f g = cc
    go [] (x ∷ back) f g = clash cc
    go (x ∷ front) back f g = clash cc

-- a word that would be the keyword of a feature that has none
no-keyword : (m : ℕ) (k : List ℕ) → feature_of (drop 6 k) ≡ Some m → keyword_of m ≡ None → (n : ℕ) → keyword_of n ≡ Some k → ⊥
no-keyword m k f z n e = let g : feature_of (drop 6 k) ≡ Some n = keyword-found n k e in let q : m ≡ n = cc in let y : keyword_of m ≡ Some k = rw q e in clash cc

same-origin : OneKeywordMore [] (text "allow-same-origin") → ⊥
same-origin = alone (text "allow-same-origin") (text "allow-same-origin") (text "allow-same-origin") (unfold computing in refl) (unfold computing in refl) same-origin-keyword

for-plugins : OneKeywordMore [] (text "Allow-Plugins") → ⊥
for-plugins = alone (text "Allow-Plugins") (text "Allow-Plugins") (text "allow-plugins") (unfold computing in refl) (unfold computing in refl) (no-keyword plugins (text "allow-plugins") (unfold computing in refl) (unfold computing in refl))

for-camera : OneKeywordMore [] (text "allow-camera") → ⊥
for-camera = alone (text "allow-camera") (text "allow-camera") (text "allow-camera") (unfold computing in refl) (unfold computing in refl) (no-keyword 0 (text "allow-camera") (unfold computing in refl) (unfold computing in refl))
