-- A text that grows in a buffer of the limit's size. Assumes nothing.
use mathlib.Core.Path.{◌≡◌, refl, ap, ◌∙◌}
use Prim.Native.Nat.{ℕ, ◌+◌, ◌≤◌, ◌<◌}
use mathlib.Core.List.{List, [], ◌++◌, append_assoc, append-nil}
use mathlib.Core.Bool.{Bool, true, false}
use native.Mathlib.Omega.{arith}
use lib.ListN.{length, take, length-append}
use lib.Dec.{leb}
use borrow.Author.Tests.{leb-true, leb-false}
use Rattle.limits.specs.Limits.{text_bytes}
use Rattle.ascii.specs.Bytes.{pick}
use Rattle.writing.specs.Writing.{Puts}
use Rattle.writing.proofs.Laws.{puts-after, puts-upto}
use Rattle.tidying.specs.Writing.{Holds, Adding}
use Rattle.tidying.specs.declared.Text.{Text}

-- a text that is put is added: it fits, or the whole is too long
module _ (x : Text) (long : length x.bytes ≡ text_bytes) (t m : List ℕ) (r : ℕ) (p : Puts x.bytes x.len t m r) (d : List ℕ) (g : Holds x d) where
  add-fits : r ≤ text_bytes → (r ≡ length (d ++ t)) × (take r m ≡ d ++ t)
  add-fits w =
      let h : x.len + length t ≤ length x.bytes = omega (arith, p.to) in
      let f = g.fits (omega arith) in
      (omega (arith, length-append d t, puts-after x.bytes m x.len r t p h, f.0), puts-upto x.bytes m x.len r t p h ∙ ap (λ (z : List ℕ). z ++ t) f.1)

  add-over : text_bytes < r → text_bytes < length (d ++ t)
  add-over w = go (leb x.len text_bytes) refl
    where
      go : (b : Bool) → leb x.len text_bytes ≡ b → text_bytes < length (d ++ t)
      go true e = omega (arith, length-append d t, p.to, (g.fits (leb-true x.len text_bytes e)).0)
      go false e = omega (arith, length-append d t, g.over (leb-false x.len text_bytes e))

pub add-puts : (x : Text) (t m : List ℕ) (r : ℕ) → length x.bytes ≡ text_bytes → Puts x.bytes x.len t m r → Adding x t (record { bytes = m; len = r })
add-puts x t m r n p = record { holds = λ d g. record { fits = add-fits x n t m r p d g; over = add-over x n t m r p d g } }

-- one after the other
pub adding-on : (l m n : Text) (a b : List ℕ) → Adding l a m → Adding m b n → Adding l (a ++ b) n
adding-on l m n a b x y = record { holds = λ d g. rw (← append_assoc d a b) (y.holds (d ++ a) (x.holds d g)) }

-- nothing
pub adding-none : (l : Text) → Adding l [] l
adding-none l = record { holds = λ d g. rw append-nil g }

-- a text that may be missing
pub maybe-yes : (l m : Text) (b : Bool) (t : List ℕ) → b ≡ true → Adding l t m → Adding l (pick b t []) m
unfolding pick
maybe-yes l m b t e h = rw e h

pub maybe-no : (l : Text) (b : Bool) (t : List ℕ) → b ≡ false → Adding l (pick b t []) l
unfolding pick
maybe-no l b t e = rw e (adding-none l)
