-- Laws of texts in numbers: the bytes that two numbers tell. Assumes nothing.
use mathlib.Core.Path.{◌≡◌, refl}
use mathlib.Core.Bool.{Bool, true, false}
use mathlib.Core.List.{List}
use Prim.Native.Nat.{ℕ, zero, suc, ◌+◌, ◌-◌, ◌*◌, ◌<◌, ◌≤◌, min}
use native.Mathlib.Nat.{add-zero}
use native.Mathlib.Omega.{arith}
use lib.Dec.{ltb}
use lib.ListN.{length, get_or}
use lib.Seq.{ext_get_or}
use borrow.Author.Tests.{ltb-true, ltb-false}
use Rattle.features.specs.Packing.{four_at, front_of, back_of}

-- the least digit of two numbers that are the same, and the others
digit : (x y u v : ℕ) → x < 256 → y < 256 → x + 256 * u ≡ y + 256 * v → x ≡ y
digit x y u v h g e = omega arith

digits : (x y u v : ℕ) → x < 256 → y < 256 → x + 256 * u ≡ y + 256 * v → u ≡ v
digits x y u v h g e = omega arith

low : (x y u v : ℕ) → x < 4294967296 → y < 4294967296 → x + 4294967296 * u ≡ y + 4294967296 * v → x ≡ y
low x y u v h g e = omega arith

high : (x y u v : ℕ) → x < 4294967296 → y < 4294967296 → x + 4294967296 * u ≡ y + 4294967296 * v → u ≡ v
high x y u v h g e = omega arith

-- every element of a text is below 256, as a byte is
abbrev pub Bytes : List ℕ → Type 0
Bytes s = (i : ℕ) → get_or s i 0 < 256

four_below : (s : List ℕ) (p : ℕ) → Bytes s → four_at s p < 4294967296
four_below s p b = omega (arith, b p, b (p + 1), b (p + 2), b (p + 3))

module _ (s t : List ℕ) (bs : Bytes s) (bt : Bytes t) where
  -- four bytes are told by their number
  four-tells : (p k : ℕ) → four_at s p ≡ four_at t p → k < 4 → get_or s (p + k) 0 ≡ get_or t (p + k) 0
  four-tells p zero e l = rw (add-zero p) (digit _ _ _ _ (bs p) (bt p) e)
  four-tells p (suc zero) e l = digit _ _ _ _ (bs (p + 1)) (bt (p + 1)) (digits _ _ _ _ (bs p) (bt p) e)
  four-tells p (suc (suc zero)) e l = digit _ _ _ _ (bs (p + 2)) (bt (p + 2)) (digits _ _ _ _ (bs (p + 1)) (bt (p + 1)) (digits _ _ _ _ (bs p) (bt p) e))
  four-tells p (suc (suc (suc zero))) e l = digits _ _ _ _ (bs (p + 2)) (bt (p + 2)) (digits _ _ _ _ (bs (p + 1)) (bt (p + 1)) (digits _ _ _ _ (bs p) (bt p) e))
  four-tells p (suc (suc (suc (suc k)))) e l = absurd (omega arith)

  window : (p i : ℕ) → four_at s p ≡ four_at t p → p ≤ i → i < p + 4 → get_or s i 0 ≡ get_or t i 0
  window p i e h l = let u : p + (i - p) ≡ i = omega arith in rw u at (four-tells p (i - p) e (omega arith))

  -- a text of 4 to 16 bytes is told by its length and its two numbers
  module _ (len : length s ≡ length t) (from : 4 ≤ length s) (to : length s ≤ 16) (front : front_of s ≡ front_of t) (back : back_of s ≡ back_of t) where
    four-1 : four_at s 0 ≡ four_at t 0
    four-1 = low _ _ _ _ (four_below s 0 bs) (four_below t 0 bt) front

    four-2 : four_at s (min 4 (length s - 4)) ≡ four_at t (min 4 (length s - 4))
    four-2 = high _ _ _ _ (four_below s 0 bs) (four_below t 0 bt) (rw (← len) at front)

    four-3 : four_at s (min 8 (length s - 4)) ≡ four_at t (min 8 (length s - 4))
    four-3 = low _ _ _ _ (four_below s (min 8 (length s - 4)) bs) (four_below t (min 8 (length s - 4)) bt) (rw (← len) at back)

    four-4 : four_at s (length s - 4) ≡ four_at t (length s - 4)
    four-4 = high _ _ _ _ (four_below s (min 8 (length s - 4)) bs) (four_below t (min 8 (length s - 4)) bt) (rw (← len) at back)

    byte-told : (i : ℕ) → i < length s → get_or s i 0 ≡ get_or t i 0
    byte-told i l = go (ltb i 4) (ltb i 8) (ltb i 12) refl refl refl
      where
        go : (a b c : Bool) → ltb i 4 ≡ a → ltb i 8 ≡ b → ltb i 12 ≡ c → get_or s i 0 ≡ get_or t i 0
        go true b c x y z = let u : i < 4 = ltb-true i 4 x in window 0 i four-1 (omega arith) (omega arith)
        go false true c x y z = let u : 4 ≤ i = ltb-false i 4 x in let v : i < 8 = ltb-true i 8 y in window (min 4 (length s - 4)) i four-2 (omega arith) (omega arith)
        go false false true x y z = let u : 8 ≤ i = ltb-false i 8 y in let v : i < 12 = ltb-true i 12 z in window (min 8 (length s - 4)) i four-3 (omega arith) (omega arith)
        go false false false x y z = let u : 12 ≤ i = ltb-false i 12 z in window (length s - 4) i four-4 (omega arith) (omega arith)

    pub packed-same : s ≡ t
    packed-same = ext_get_or 0 s t len byte-told
