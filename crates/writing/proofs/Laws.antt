-- The laws of texts put into a run, for the crates above, which open no definition of this crate: here, in Places (a text put at a place is read back, and elsewhere nothing changes), and of Copies `one_byte`. Assumes nothing.
use mathlib.Core.Path.{◌≡◌, refl, ap, ◌∙◌, sym}
use Prim.Native.Nat.{ℕ, ◌+◌, ◌/◌, ◌%◌, ◌≤◌, ◌<◌}
use mathlib.Core.List.{List, [], ◌∷◌, ◌++◌}
use mathlib.Core.Bool.{Bool, true, false}
use native.Mathlib.Omega.{arith}
use lib.ListN.{length, take, drop, length-append}
use lib.Dec.{leb}
use borrow.Author.Tests.{leb-true, leb-false}
use lib.Seq.{sets-eq, take_at, length-take-le}
use Rattle.ascii.specs.Decimals.{decimal_text}
use Rattle.ascii.proofs.Decimals.{decimal-small, decimal-great}
use Rattle.writing.specs.Writing.{with_text, place_after, Puts}
use Rattle.writing.proofs.Copies.{out-of-run}
use Rattle.writing.proofs.Places.{put-long, with_append}

-- from the place after a text on, even if that has no room
with-next : (s t l : List ℕ) (at r : ℕ) → r ≡ place_after l at s → with_text (with_text l at s) r t ≡ with_text l at (s ++ t)
with-next s t l at r h = go (leb (at + length s) (length l)) refl
  where
    go : (b : Bool) → leb (at + length s) (length l) ≡ b → with_text (with_text l at s) r t ≡ with_text l at (s ++ t)
    go true e = let f : r ≡ at + length s = omega (arith, leb-true (at + length s) (length l) e) in rw f (sym (with_append s t l at))
    go false e =
        let f : length l < at + length s = leb-false (at + length s) (length l) e in
        let g : length (with_text l at s) ≡ length l = put-long l at s in
        sym (out-of-run t (with_text l at s) r (omega arith))
        ∙ (out-of-run t (with_text l at s) (at + length s) (omega arith) ∙ sym (with_append s t l at))

module _ (l m : List ℕ) (at r : ℕ) (s : List ℕ) (p : Puts l at s m r) where
  pub puts-long : length m ≡ length l
  puts-long = rw p.run (put-long l at s)

  -- one text after another is the two together
  pub puts-on : (n t : List ℕ) (q : ℕ) → Puts m r t n q → Puts l at (s ++ t) n q
  puts-on n t q g = record { run = g.run ∙ (rw p.run (with-next s t l at r p.to)); to = omega (arith, p.to, g.to, puts-long, length-append s t) }

  -- nothing after it
  pub puts-ended : Puts m r [] m r
  unfolding with_text
  puts-ended = record { run = refl; to = omega (arith, p.to, puts-long) }

  -- where there is room for the whole, it stands there, the other bytes are as before, and the answer is the place after it
  pub puts_whole : at + length s ≤ length l → m ≡ take at l ++ s ++ drop (at + length s) l
  unfolding with_text
  puts_whole h = p.run ∙ sets-eq s l at h

  pub puts-after : at + length s ≤ length l → r ≡ at + length s
  puts-after h = omega (arith, p.to)

  pub puts-upto : at + length s ≤ length l → take r m ≡ take at l ++ s
  puts-upto h =
      rw (puts_whole h, puts-after h)
      (take_at (take at l ++ s) (drop (at + length s) l) (at + length s) (length-append (take at l) s ∙ ap (λ (n : ℕ). n + length s) (length-take-le at l (omega arith))))

-- a number: one digit, or those of its tenth and one more
module _ (l m : List ℕ) (at r n : ℕ) where
  pub puts-small : n < 10 → Puts l at ((48 + n) ∷ []) m r → Puts l at (decimal_text n) m r
  puts-small h p = rw (decimal-small n h) p

  pub puts-great : (o : ℕ) (k : List ℕ) → 10 ≤ n → Puts l at (decimal_text (n / 10)) k o → Puts k o ((48 + n % 10) ∷ []) m r → Puts l at (decimal_text n) m r
  puts-great o k h p g = rw (decimal-great n h) (puts-on l k at o (decimal_text (n / 10)) p m ((48 + n % 10) ∷ []) r g)
