-- What the functions on lent bytes write, in the terms of the code. Assumes nothing.
use mathlib.Core.Path.{◌≡◌, refl}
use Prim.Native.Nat.{ℕ, ◌+◌, ◌≤◌}
use mathlib.Core.List.{List}
use lib.ListN.{length}
use borrow.Rule.Slice.PartMut.{put_mid}
use Rattle.writing.specs.Writing.{with_text}
use Rattle.writing.proofs.Places.{mid-put}

-- a text copied into the part where it stands
pub copied : (l t m : List ℕ) (at k : ℕ) → at + length t ≤ length l → k ≡ length t → m ≡ t → put_mid at k l m ≡ with_text l at t
copied l t m at k fits is e = rw (e, is) (mid-put l t at (length t) fits refl)
