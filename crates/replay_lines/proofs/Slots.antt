-- A field's part of the run: bytes kept in it, and those of other fields. Assumes nothing.
use mathlib.Core.Path.{◌≡◌, refl, ◌∙◌, sym}
use Prim.Native.Nat.{ℕ, suc, ◌+◌, ◌-◌, ◌*◌, ◌≤◌, ◌<◌, min}
use mathlib.Core.List.{List}
use mathlib.Core.Bool.{Bool, true, false}
use native.Mathlib.Omega.{arith}
use native.Mathlib.Numerals.{add-one}
use lib.ListN.{length, take, drop, set, length-take, length-drop}
use lib.Seq.{take-take, take_all, take-set-le, take-suc-set, drop-set-lt, drop-set-add}
use lib.Dec.{ltb}
use borrow.Author.Tests.{lt-ltb, le-ltb, ltb-true, ltb-false}
use Rattle.ascii.specs.Bytes.{pick}
use Rattle.ascii.specs.Texts.{part_of}
use Rattle.ascii.proofs.Texts.{part-in}
use Rattle.replay_lines.specs.Reading.{field_limit, field_bytes, line_bytes, keep_byte}
use Rattle.replay_lines.specs.Answers.{slot_of, kept_in, IsKept}

-- a byte stored in one part leaves the others
slot-other : (run : List ℕ) (j n b k : ℕ) → n < field_bytes → (k ≡ j → ⊥) → slot_of (set run (j * field_bytes + n) b) k ≡ slot_of run k
slot-other run j n b k h d = go (ltb k j) refl
  where
    go : (t : Bool) → ltb k j ≡ t → slot_of (set run (j * field_bytes + n) b) k ≡ slot_of run k
    go true e =
        let l : k < j = ltb-true k j e in
        let p : j * field_bytes + n ≡ k * field_bytes + (j * field_bytes + n - k * field_bytes) = omega arith in
        rw (p, drop-set-add) (take-set-le field_bytes (drop (k * field_bytes) run) (j * field_bytes + n - k * field_bytes) b (omega arith))
    go false e =
        let l : j < k = omega (arith, ltb-false k j e) in
        rw (drop-set-lt (k * field_bytes) run (j * field_bytes + n) b (omega arith))

pub take-least : (m n : ℕ) (l : List ℕ) → take (min m n) l ≡ take m (take n l)
take-least m n l = go (ltb m n) refl
  where
    go : (t : Bool) → ltb m n ≡ t → take (min m n) l ≡ take m (take n l)
    go true e =
        let h : m < n = ltb-true m n e in
        let q : min m n ≡ m = omega arith in
        rw q (sym (take-take m n l (omega arith)))
    go false e =
        let h : n ≤ m = ltb-false m n e in
        let q : min m n ≡ n = omega arith in
        rw q (sym (take_all m (take n l) (omega (arith, length-take n l))))

module _ (run : List ℕ) (j : ℕ) (s : length run ≡ line_bytes) (h : j < field_limit) where
  slot-long : length (slot_of run j) ≡ field_bytes
  slot-long = omega (arith, length-take field_bytes (drop (j * field_bytes) run), length-drop (j * field_bytes) run)

  pub kept-long : (n : ℕ) → length (kept_in run j n) ≡ min n field_bytes
  unfolding kept_in
  kept-long n = omega (arith, length-take n (slot_of run j), slot-long)

  -- a byte is kept where there is room
  pub keep-room : (n b : ℕ) → n < field_bytes → IsKept run j n b (set run (j * field_bytes + n) b) (n + 1)
  unfolding kept_in keep_byte pick
  keep-room n b g =
      let d = drop (j * field_bytes) run in
      let l : length d ≡ line_bytes - j * field_bytes = omega (arith, length-drop (j * field_bytes) run) in
      let m : length (take n (slot_of run j)) < field_bytes = omega (arith, length-take n (slot_of run j), slot-long) in
      record {
        is = rw (drop-set-add, add-one, take-take (suc n) field_bytes (set d n b) (omega arith), take-suc-set d n b (omega arith), lt-ltb _ _ m, take-take n field_bytes d (omega arith));
        others = record { same = λ k e. slot-other run j n b k g e };
      }

  -- and dropped where there is none
  pub keep-full : (n b : ℕ) → field_bytes ≤ n → IsKept run j n b run n
  unfolding kept_in keep_byte pick
  keep-full n b g =
      let m : field_bytes ≤ length (take n (slot_of run j)) = omega (arith, length-take n (slot_of run j), slot-long) in
      record { is = rw (le-ltb _ _ m); others = record { same = λ k e. refl } }

  -- the bytes kept are a part of the run
  pub kept-part : (n : ℕ) → part_of run (j * field_bytes) (j * field_bytes + min n field_bytes) ≡ kept_in run j n
  unfolding kept_in
  kept-part n =
      let a = j * field_bytes in
      let d = drop a run in
      let w : a + min n field_bytes - a ≡ min n field_bytes = omega arith in
      sym (part-in run a (a + min n field_bytes) (omega arith) (omega (arith, s, h))) ∙ rw w (take-least n field_bytes d)
