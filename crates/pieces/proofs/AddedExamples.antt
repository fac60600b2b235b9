-- The added word, by computation: where it can stand. Assumes nothing.
use mathlib.Core.Path.{refl}
use Prim.Native.Nat.{ℕ}
use mathlib.Core.List.{[], ◌∷◌}
use mathlib.Core.Bool.{Bool}
use native.Mathlib.Omega.{arith}
use lib.Dec.{eqb}
use Rattle.ascii.specs.Literals.{text}
use Rattle.pieces.specs.OneWordMore.{OneWordMore}
use Rattle.pieces.specs.Computing.{computing}
use Rattle.pieces.proofs.Added.{bare-pieces}

-- pieces cut at `;`
abbrev ends : ℕ → Bool
ends b = eqb b 59

-- first, in the middle and last after the feature
first-place : OneWordMore ends (text "camera https://b.example 'none'") (text "camera * https://b.example 'none'")
unfolding computing
first-place =
    record {
      earlier = [];
      later = [];
      feature = text "camera";
      front = [];
      back = text "https://b.example" ∷ text "'none'" ∷ [];
      one = omega arith;
      word = text "*";
      first = refl;
      second = refl;
    }

middle-place : OneWordMore ends (text "camera https://b.example 'none'") (text "camera https://b.example 'self' 'none'")
unfolding computing
middle-place =
    record {
      earlier = [];
      later = [];
      feature = text "camera";
      front = text "https://b.example" ∷ [];
      back = text "'none'" ∷ [];
      one = omega arith;
      word = text "'self'";
      first = refl;
      second = refl;
    }

last-place : OneWordMore ends (text "camera 'none'") (text "camera 'none' junk")
unfolding computing
last-place =
    record {
      earlier = [];
      later = [];
      feature = text "camera";
      front = text "'none'" ∷ [];
      back = [];
      one = omega arith;
      word = text "junk";
      first = refl;
      second = refl;
    }

-- in a piece that a later one replaces, and of an unknown feature, with other spacing
replaced-piece : OneWordMore ends (text "camera 'self';usb; camera *") (text "camera 'src' 'self';usb; camera *")
unfolding computing
replaced-piece =
    record {
      earlier = [];
      later = (text "usb" ∷ []) ∷ (text "camera" ∷ text "*" ∷ []) ∷ [];
      feature = text "camera";
      front = [];
      back = text "'self'" ∷ [];
      one = omega arith;
      word = text "'src'";
      first = refl;
      second = refl;
    }

unknown-piece : OneWordMore ends (text ";  foo\tx ;camera") (text "\n;foo x\r\ny;  camera ")
unfolding computing
unknown-piece =
    record {
      earlier = [] ∷ [];
      later = (text "camera" ∷ []) ∷ [];
      feature = text "foo";
      front = text "x" ∷ [];
      back = [];
      one = omega arith;
      word = text "y";
      first = refl;
      second = refl;
    }

-- a first word after a bare feature is no added word: it takes the declared origin's place
bare-feature : OneWordMore ends (text "camera") (text "camera 'self'") → ⊥
unfolding computing
bare-feature o = bare-pieces ends (text "camera") (text "camera 'self'") refl o
