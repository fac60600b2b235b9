-- A text put into a run at once or a byte at a time: what the code knows. Assumes nothing.
use mathlib.Core.Path.{◌≡◌, refl, ap, ◌∙◌}
use Prim.Native.Nat.{ℕ, suc, ◌+◌, ◌-◌, ◌≤◌, ◌<◌, min}
use mathlib.Core.List.{List, [], ◌∷◌, ◌++◌, append-nil}
use mathlib.Core.Bool.{Bool, true, false}
use native.Mathlib.Omega.{arith}
use lib.ListN.{length, take, drop, set, length-take, take-append-drop, drop_of_length-le}
use lib.Seq.{set_out}
use lib.Dec.{leb}
use borrow.Author.Tests.{leb-true, leb-false}
use borrow.Rule.Slice.PartMut.{put_mid}
use Rattle.writing.specs.Writing.{with_text, Puts}
use Rattle.writing.proofs.Places.{put-long, mid-put, with_append}

-- past the run's end nothing is stored
pub out-of-run : (t l : List ℕ) (at : ℕ) → length l ≤ at → l ≡ with_text l at t
unfolding with_text
out-of-run [] l at h = refl
out-of-run (x ∷ t) l at h = rw (set_out l at x h) (out-of-run t l (suc at) (omega arith))

-- as much of a text as the run has room for, copied into the part where it stands
pub copied : (l t m : List ℕ) (at n k : ℕ) → at ≤ length l → n ≡ min (length t) (length l - at) → k ≡ n → m ≡ take n t → put_mid at k l m ≡ with_text l at t
copied l t m at n k within least is e =
    let long : length (take n t) ≡ n = simp length-take (omega arith) in
    rw (e, is)
    (mid-put l (take n t) at n (omega arith) long
    ∙ (rest (leb (length t) n) refl long ∙ ap (with_text l at) (take-append-drop n t)))
  where
    rest : (b : Bool) → leb (length t) n ≡ b → length (take n t) ≡ n → with_text l at (take n t) ≡ with_text l at (take n t ++ drop n t)
    rest true f long = let z : length t ≤ n = leb-true (length t) n f in rw (drop_of_length-le t z, append-nil (take n t)) refl
    rest false f long =
        let z : n < length t = leb-false (length t) n f in
        let w = put-long l at (take n t) in
        rw (with_append (take n t) (drop n t) l at) (out-of-run (drop n t) (with_text l at (take n t)) (at + length (take n t)) (omega arith))

module _ (l t m : List ℕ) (at n k : ℕ) (within : at ≤ length l) (least : n ≡ min (length t) (length l - at)) (is : k ≡ n) (e : m ≡ take n t) where
  copied-long : length (put_mid at k l m) ≡ length l
  copied-long = rw (copied l t m at n k within least is e) (put-long l at t)

  -- not all of it has room, or all has
  pub puts-cut : n < length t → Puts l at t (put_mid at k l m) (length (put_mid at k l m) + 1)
  puts-cut h = record { run = copied l t m at n k within least is e; to = let w = copied-long in omega arith }

  pub puts-all : length t ≤ n → Puts l at t (put_mid at k l m) (at + n)
  puts-all h = record { run = copied l t m at n k within least is e; to = omega arith }

-- a place past the run's end has room for nothing
pub puts-nowhere : (l t : List ℕ) (at : ℕ) → length l < at → Puts l at t l (length l + 1)
puts-nowhere l t at h = record { run = out-of-run t l at (omega arith); to = omega arith }

-- one byte
pub one_byte : (l : List ℕ) (at x : ℕ) → set l at x ≡ with_text l at (x ∷ [])
unfolding with_text
one_byte l at x = refl

-- one byte has room or not
pub byte_nowhere : (l : List ℕ) (at x : ℕ) → length l ≤ at → Puts l at (x ∷ []) l (length l + 1)
byte_nowhere l at x h = record { run = out-of-run (x ∷ []) l at h; to = omega arith }

pub byte_put : (l : List ℕ) (at x : ℕ) → at < length l → Puts l at (x ∷ []) (set l at x) (at + 1)
byte_put l at x h = record { run = one_byte l at x; to = omega arith }

-- what the code's two writes leave
pub ruleset puts = (puts-nowhere, puts-cut, puts-all, byte_nowhere, byte_put)
