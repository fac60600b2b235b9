-- The states of fields beside the run: a byte read, and the fields of a line. Assumes nothing.
use mathlib.Core.Path.{◌≡◌, refl, ap, ◌∙◌, sym}
use Prim.Native.Nat.{ℕ, zero, suc, ◌+◌, ◌≤◌, ◌<◌, min}
use mathlib.Core.List.{List, [], ◌∷◌, map}
use mathlib.Core.Bool.{Bool, true, false, ◌||◌}
use native.Mathlib.Omega.{arith}
use native.Mathlib.Nat.{le_of_suc-le-suc, not-suc-le-zero}
use lib.ListN.{length, get_or, length-map, get_or-eq_default}
use lib.Dec.{eqb, leb}
use borrow.Author.Tests.{eq-eqb, ne_eqb, leb-true, leb-false}
use Rattle.ascii.specs.Bytes.{pick}
use Rattle.ascii.specs.Reading.{is_empty}
use Rattle.replay_lines.specs.Format.{nothing, is_hex, hex_byte}
use Rattle.replay_lines.specs.Reading.{field_limit, field_bytes, line_bytes, field_byte, kept_says}
use Rattle.replay_lines.specs.Answers.{kept_in, field_in, fields_from, said_in, Elsewhere, IsKept, IsByteRead, IsFieldAt, broken_field, moved_as}
use Rattle.replay_lines.specs.declared.FieldState.{FieldState}
use Rattle.replay_lines.specs.declared.Place.TheVariants.{Plain, Percent, Digit, Broken}
use Rattle.replay_lines.proofs.Slots.{kept-long}

-- ---- a byte read

same-run : (run : List ℕ) (j : ℕ) → Elsewhere run j run
same-run run j = record { same = λ k e. refl }

empty-long : (t : List ℕ) → is_empty t ≡ eqb (length t) 0
unfolding is_empty
empty-long [] = refl
empty-long (x ∷ xs) = sym (ne_eqb (length (x ∷ xs)) 0 (λ e. absurd (omega arith)))

kept-empty : (run : List ℕ) (j : ℕ) → length run ≡ line_bytes → j < field_limit → (n : ℕ) → is_empty (kept_in run j n) ≡ eqb n 0
kept-empty run j s h n = empty-long (kept_in run j n) ∙ (ap (λ (k : ℕ). eqb k 0) (kept-long run j s h n) ∙ least n)
  where
    least : (n : ℕ) → eqb (min n field_bytes) 0 ≡ eqb n 0
    least zero = refl
    least (suc n) =
        ne_eqb (min (suc n) field_bytes) 0 (λ e. absurd (omega arith)) ∙ sym (ne_eqb (suc n) 0 (λ e. absurd (omega arith)))

-- a byte of a field, by where it stands
module _ (run : List ℕ) (j : ℕ) (f : FieldState) (b : ℕ) where
  pub byte-percent : length run ≡ line_bytes → j < field_limit → f.place ≡ Plain → b ≡ 37 → IsByteRead run j f b run (record { kept = f.kept; escaped = true; opens = f.opens || eqb f.kept 0; place = Percent })
  unfolding field_byte field_in pick
  byte-percent s h e q = record { is = rw (e, eq-eqb b 37 q, kept-empty run j s h f.kept); others = same-run run j }

  pub byte-plain : f.place ≡ Plain → (b ≡ 37 → ⊥) → (after : List ℕ) (k : ℕ) → IsKept run j f.kept b after k → IsByteRead run j f b after (record { kept = k; escaped = f.escaped; opens = f.opens; place = Plain })
  unfolding field_byte field_in pick
  byte-plain e q after k g = record { is = rw (e, ne_eqb b 37 q, g.is); others = g.others }

  pub byte-broken : f.place ≡ Broken → IsByteRead run j f b run f
  unfolding field_byte field_in
  byte-broken e = record { is = rw e; others = same-run run j }

  module _ (t : Bool) (u : t ≡ is_hex b) where
    pub byte-digit : f.place ≡ Percent → t ≡ true → (r : FieldState) → r ≡ moved_as f (Digit b) → IsByteRead run j f b run r
    unfolding field_byte field_in pick
    byte-digit e v r w = let x : is_hex b ≡ true = sym u ∙ v in record { is = rw (w, e, x); others = same-run run j }

    pub byte-no-digit : f.place ≡ Percent → t ≡ false → (r : FieldState) → r ≡ moved_as f Broken → IsByteRead run j f b run r
    unfolding field_byte field_in pick
    byte-no-digit e v r w = let x : is_hex b ≡ false = sym u ∙ v in record { is = rw (w, e, x); others = same-run run j }

    pub byte-second : (a : ℕ) → f.place ≡ Digit a → t ≡ true → (after : List ℕ) (x k : ℕ) → x ≡ hex_byte a b → IsKept run j f.kept x after k → IsByteRead run j f b after (record { kept = k; escaped = f.escaped; opens = f.opens; place = Plain })
    unfolding field_byte field_in pick
    byte-second a e v after x k w g =
        let y : is_hex b ≡ true = sym u ∙ v in
        record { is = rw (e, y, ← w, g.is); others = g.others }

    pub byte-no-second : (a : ℕ) → f.place ≡ Digit a → t ≡ false → (r : FieldState) → r ≡ moved_as f Broken → IsByteRead run j f b run r
    unfolding field_byte field_in pick
    byte-no-second a e v r w = let x : is_hex b ≡ false = sym u ∙ v in record { is = rw (w, e, x); others = same-run run j }

-- ---- the fields of a line

pub fields-long : (run : List ℕ) (k : ℕ) (fs : List FieldState) → length (fields_from run k fs) ≡ length fs
unfolding fields_from
fields-long run k [] = refl
fields-long run k (f ∷ fs) = ap suc (fields-long run (suc k) fs)

said-from : (run : List ℕ) (k : ℕ) (fs : List FieldState) (j : ℕ) → j < length fs → get_or (map kept_says (fields_from run k fs)) j nothing ≡ kept_says (field_in run (k + j) (get_or fs j broken_field))
unfolding fields_from
said-from run k [] j h = absurd (not-suc-le-zero h)
said-from run k (f ∷ fs) zero h = let z : k + 0 ≡ k = omega arith in rw z
said-from run k (f ∷ fs) (suc j) h = let z : k + suc j ≡ suc k + j = omega arith in rw z (said-from run (suc k) fs j (le_of_suc-le-suc h))

broken-nothing : (run : List ℕ) (j : ℕ) → kept_says (field_in run j broken_field) ≡ nothing
unfolding kept_says field_in pick
broken-nothing run j = refl

pub field-said : (fs : List FieldState) (j : ℕ) (r : FieldState) → r ≡ get_or fs j broken_field → IsFieldAt fs j r
unfolding said_in
field-said fs j r e = record { says = λ run. rw e (go run (leb (suc j) (length fs)) refl) }
  where
    go : (run : List ℕ) (t : Bool) → leb (suc j) (length fs) ≡ t → kept_says (field_in run j (get_or fs j broken_field)) ≡ get_or (map kept_says (fields_from run 0 fs)) j nothing
    go run true u = let z : 0 + j ≡ j = omega arith in sym (rw z at (said-from run 0 fs j (leb-true (suc j) (length fs) u)))
    go run false u =
        let l : length fs ≤ j = omega (arith, leb-false (suc j) (length fs) u) in
        let m : length (map kept_says (fields_from run 0 fs)) ≤ j = omega (arith, length-map (fields_from run 0 fs) kept_says, fields-long run 0 fs) in
        rw (get_or-eq_default fs broken_field l) (broken-nothing run j ∙ sym (get_or-eq_default (map kept_says (fields_from run 0 fs)) nothing m))
