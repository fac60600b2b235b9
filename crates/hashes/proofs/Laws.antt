-- The laws of places, for the crates above. Assumes nothing.
use mathlib.Core.Path.{◌≡◌, refl}
use Prim.Native.Nat.{ℕ, suc, ◌≤◌}
use mathlib.Core.List.{List, [], ◌∷◌}
use mathlib.Core.Bool.{Bool, true, false}
use native.Mathlib.Omega.{arith}
use lib.ListN.{length, take}
use lib.Dec.{eqb}
use Rattle.ascii.specs.Bytes.{pick}
use Rattle.ascii.specs.Texts.{every}
use Rattle.ascii.proofs.Texts.{every-none, every_more}
use Rattle.hashes.specs.Hashes.{is_other, first_place}

-- the first place of a number is a place or the end
pub place-upto : (x : ℕ) (l : List ℕ) → first_place x l ≤ length l
unfolding first_place pick
place-upto x [] = omega arith
place-upto x (y ∷ l) = go (eqb y x) (place-upto x l)
  where
    go : (b : Bool) → first_place x l ≤ length l → pick b 0 (suc (first_place x l)) ≤ suc (length l)
    go true h = omega arith
    go false h = omega arith

-- and before it stand others
pub place-before : (x : ℕ) (l : List ℕ) → every (is_other x) (take (first_place x l) l) ≡ true
unfolding first_place pick
place-before x [] = every-none (is_other x)
place-before x (y ∷ l) = go (eqb y x) refl (place-before x l)
  where
    go : (b : Bool) → eqb y x ≡ b → every (is_other x) (take (first_place x l) l) ≡ true → every (is_other x) (take (pick b 0 (suc (first_place x l))) (y ∷ l)) ≡ true
    go true e h = every-none (is_other x)
    go false e h = rw (every_more (is_other x) y (take (first_place x l) l), e) h
