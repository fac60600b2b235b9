-- The state of a line beside the run: a TAB, a byte, the end. Assumes nothing.
use Rattle.std.specs.Prelude.{Option}
use mathlib.Core.Path.{◌≡◌, refl, ap, ◌∙◌, sym}
use Prim.Native.Nat.{ℕ, suc, ◌+◌, ◌≤◌, ◌<◌}
use mathlib.Core.List.{List, [], ◌∷◌, ◌++◌}
use native.Mathlib.Omega.{arith}
use native.Mathlib.Numerals.{add-one}
use lib.ListN.{length, take, drop, get_or, set, length-take, drop_of_length-le}
use lib.Seq.{take-suc-set, drop-cons}
use borrow.Author.Tests.{lt-ltb, le-ltb, ne_eqb}
use Rattle.ascii.specs.Bytes.{pick}
use Rattle.replay_lines.specs.Format.{Text, Line, Said, nothing, row_of, call_of}
use Rattle.replay_lines.specs.Format.Line.{bad_line}
use Rattle.replay_lines.specs.Reading.{Field, Reading, field_limit, next_field, read_byte, read_on, line_from}
use Rattle.replay_lines.specs.Reading.Reading.{reading, too_many}
use Rattle.replay_lines.specs.Answers.{kept_in, field_in, fields_from, reading_of, said_in, Elsewhere, IsByteRead, fresh_field}
use Rattle.replay_lines.specs.declared.CallName.{CallName}
use Rattle.replay_lines.specs.declared.FieldState.{FieldState}
use Rattle.replay_lines.proofs.FieldStates.{fields-long}

-- one field more
fields-append : (run : List ℕ) (k : ℕ) (fs gs : List FieldState) → fields_from run k (fs ++ gs) ≡ fields_from run k fs ++ fields_from run (k + length fs) gs
unfolding fields_from
fields-append run k [] gs = let z : k + 0 ≡ k = omega arith in rw z
fields-append run k (f ∷ fs) gs =
    let z : k + length (f ∷ fs) ≡ suc k + length fs = omega arith in
    rw z (ap (λ (l : List Field). field_in run k f ∷ l) (fields-append run (suc k) fs gs))

-- fields whose parts are unchanged
field-other : (run after : List ℕ) (j k : ℕ) (f : FieldState) → Elsewhere run j after → k < j → field_in after k f ≡ field_in run k f
unfolding field_in kept_in
field-other run after j k f e h = rw (e.same k (λ q. absurd (omega arith)))

fields-other : (run after : List ℕ) (j k : ℕ) (fs : List FieldState) → Elsewhere run j after → k + length fs ≤ j → fields_from after k fs ≡ fields_from run k fs
unfolding fields_from
fields-other run after j k [] e h = refl
fields-other run after j k (f ∷ fs) e h = rw (field-other run after j k f e (omega arith), fields-other run after j (suc k) fs e (omega arith))

pub many-stays : (s : Text) → read_on too_many s ≡ too_many
unfolding read_on
many-stays [] = refl
many-stays (b ∷ s) = many-stays s

-- a state with a field more than there may be, or with none
module _ (run : List ℕ) (ended : List FieldState) (n : ℕ) (f : FieldState) where
  of-many : field_limit ≤ n → reading_of run ended n f ≡ too_many
  unfolding reading_of pick
  of-many h = rw (le-ltb n field_limit h)

  of-few : n < field_limit → reading_of run ended n f ≡ reading (fields_from run 0 (take n ended)) (field_in run n f)
  unfolding reading_of pick
  of-few h = rw (lt-ltb n field_limit h)

  module _ (s : length ended ≡ field_limit) (h : n < field_limit) where
    taken-long : length (take n ended) ≡ n
    taken-long = omega (arith, length-take n ended)

    with-last : fields_from run 0 (take (n + 1) (set ended n f)) ≡ fields_from run 0 (take n ended) ++ (field_in run n f ∷ [])
    unfolding fields_from
    with-last =
        let z : 0 + length (take n ended) ≡ n = omega (arith, taken-long) in
        rw (add-one, take-suc-set ended n f (omega arith), fields-append, z)

    -- a TAB
    after-tab : (g : FieldState) → g ≡ fresh_field → reading_of run (set ended n f) (n + 1) g ≡ read_byte (reading_of run ended n f) 9
    unfolding reading_of next_field field_in kept_in pick
    after-tab g e =
        let z : suc (length (fields_from run 0 (take n ended))) ≡ n + 1 = omega (arith, fields-long run 0 (take n ended), taken-long) in
        rw (e, of-few h, z, with-last)

    -- any other byte
    after-byte : (b : ℕ) → (b ≡ 9 → ⊥) → (after : List ℕ) (g : FieldState) → IsByteRead run n f b after g → reading_of after ended n g ≡ read_byte (reading_of run ended n f) b
    unfolding reading_of pick
    after-byte b d after g r =
        let l : 0 + length (take n ended) ≤ n = omega (arith, taken-long) in
        rw (lt-ltb n field_limit h, ne_eqb b 9 d, fields-other run after n 0 (take n ended) r.others l, r.is)

    -- the end of the line
    pub at-end : (R : Line) → R ≡ call_of (said_in run (take (n + 1) (set ended n f))) → R ≡ line_from (reading_of run ended n f)
    unfolding said_in line_from
    at-end R e = rw (of-few h, ← with-last) e

  pub at-many : field_limit ≤ n → bad_line ≡ line_from (reading_of run ended n f)
  unfolding line_from
  at-many h = rw (of-many h)

-- how the reading of a piece goes by one place
module _ (piece : List ℕ) (i : ℕ) (X : Reading) where
  pub piece-end : (r : Reading) → length piece ≤ i → read_on r (drop i piece) ≡ X → r ≡ X
  unfolding read_on
  piece-end r h e = rw (drop_of_length-le piece h) at e

  next-byte : (r : Reading) → i < length piece → read_on r (drop i piece) ≡ X → read_on (read_byte r (get_or piece i 0)) (drop (i + 1) piece) ≡ X
  unfolding read_on
  next-byte r h e = rw add-one (rw (drop-cons piece i 0 h) at e)

  module _ (run : List ℕ) (ended : List FieldState) (n : ℕ) (f : FieldState) (e : read_on (reading_of run ended n f) (drop i piece) ≡ X) where
    pub piece-many : field_limit ≤ n → reading_of run ended n f ≡ X
    piece-many h = let m = of-many run ended n f h in m ∙ (sym (many-stays (drop i piece)) ∙ (rw m at e))

    module _ (s : length ended ≡ field_limit) (h : n < field_limit) (l : i < length piece) where
      pub piece-tab : get_or piece i 0 ≡ 9 → (g : FieldState) → g ≡ fresh_field → read_on (reading_of run (set ended n f) (n + 1) g) (drop (i + 1) piece) ≡ X
      piece-tab t g w = rw (after-tab run ended n f s h g w, ← t) (next-byte (reading_of run ended n f) l e)

      pub piece_byte : (get_or piece i 0 ≡ 9 → ⊥) → (after : List ℕ) (g : FieldState) → IsByteRead run n f (get_or piece i 0) after g → read_on (reading_of after ended n g) (drop (i + 1) piece) ≡ X
      piece_byte t after g r = rw (after-byte run ended n f s h (get_or piece i 0) t after g r) (next-byte (reading_of run ended n f) l e)

-- the call by its name
pub call_row : (fs : List Said) (k r : Option CallName) (R : Line) → r ≡ (get_or fs 0 nothing).name → r ≡ k → R ≡ row_of k fs → R ≡ call_of fs
unfolding call_of
call_row fs k r R e f g = let x : (get_or fs 0 nothing).name ≡ k = sym e ∙ f in rw x g
