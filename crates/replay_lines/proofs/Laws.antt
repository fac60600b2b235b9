-- The laws of lines that the crates above cite: read in any pieces, a line is the call that the format says, its texts cut. Assumes nothing.
use Rattle.std.specs.Prelude.{Option}
use mathlib.Core.Path.{◌≡◌, refl, ap, ◌∙◌, sym}
use Prim.Native.Nat.{ℕ, suc, ◌<◌}
use mathlib.Core.List.{List, [], ◌∷◌, ◌++◌, map}
use mathlib.Core.Bool.{Bool, true, false, not}
use native.Mathlib.Omega.{arith}
use lib.ListN.{length, length-append, length-map}
use lib.Seq.{append_snoc}
use lib.Dec.{ltb}
use borrow.Author.Tests.{ltb-true, ltb-false}
use Rattle.ascii.specs.Bytes.{pick}
use Rattle.ascii.specs.Reading.{run_of, past}
use Rattle.ascii.specs.Texts.{cut_at, prepended}
use Rattle.ascii.proofs.Texts.{cut-run, rest_cut}
use Rattle.replay_lines.specs.Format.{Text, is_tab, says, call_of, line_of}
use Rattle.replay_lines.specs.Reading.{Field, Reading, field_limit, new_field, field_byte, next_field, read_byte, read_on, new_reading, kept_says, line_from, cut_line}
use Rattle.replay_lines.specs.Reading.Reading.{reading, too_many}
use Rattle.replay_lines.specs.Answers.{reading_in, line_in}
use Rattle.replay_lines.specs.declared.LineState.{LineState}
use Rattle.replay_lines.specs.declared.Line.{Line as LineRead}
use Rattle.replay_lines.proofs.Lines.{many-stays}
use Rattle.replay_lines.proofs.CutLines.{cut_said, cut-call, many-bad}
use Rattle.replay_lines.proofs.FieldTexts.{read_field, field-says}

-- a line in two pieces
pub pieces-join : (r : Reading) (s t : Text) → read_on r (s ++ t) ≡ read_on (read_on r s) t
unfolding read_on
pieces-join r [] t = refl
pieces-join r (b ∷ s) t = pieces-join (read_byte r b) s t

-- the fields that follow the current one, each read by itself
unfoldable fields_after : List Field → Field → List Text → Reading
fields_after ended f [] = reading ended f
fields_after ended f (u ∷ us) = pick (ltb (suc (length ended)) field_limit) (fields_after (ended ++ (f ∷ [])) (read_field new_field u) us) too_many

-- and the rest of the current one before them
unfoldable fields_on : List Field → Field → List Text → Reading
fields_on ended f [] = reading ended f
fields_on ended f (u ∷ us) = fields_after ended (read_field f u) us

module _ (ended : List Field) (f : Field) where
  on-byte : (b : ℕ) (us : List Text) → fields_on ended f (prepended b us) ≡ fields_on ended (field_byte f b) us
  unfolding fields_on fields_after prepended read_field
  on-byte b [] = refl
  on-byte b (u ∷ us) = refl

  on_tab : (l : List Text) (u : Text) (us : List Text) → l ≡ u ∷ us → pick (ltb (suc (length ended)) field_limit) (fields_on (ended ++ (f ∷ [])) new_field l) too_many ≡ fields_on ended f ([] ∷ l)
  unfolding fields_on fields_after read_field
  on_tab l u us e = rw e

abbrev Splits : Text → Type 0
Splits s = (ended : List Field) (f : Field) → read_on (reading ended f) s ≡ fields_on ended f (cut_at is_tab s)

-- a line's bytes are its fields, one after the other
module _ (b : ℕ) (s : Text) (ih : Splits s) (ended : List Field) (f : Field) where
  past-tab : (t : Bool) → read_on (pick t (reading (ended ++ (f ∷ [])) new_field) too_many) s ≡ pick t (fields_on (ended ++ (f ∷ [])) new_field (cut_at is_tab s)) too_many
  unfolding pick
  past-tab true = ih (ended ++ (f ∷ [])) new_field
  past-tab false = many-stays s

  past-byte : (t : Bool) → read_on (pick t (next_field ended f) (reading ended (field_byte f b))) s ≡ fields_on ended f (pick t ([] ∷ cut_at is_tab s) (prepended b (cut_at is_tab s)))
  unfolding pick next_field
  past-byte true =
      past-tab (ltb (suc (length ended)) field_limit)
      ∙ on_tab ended f (cut_at is_tab s) (run_of (λ b. not (is_tab b)) s) (rest_cut is_tab (past (λ b. not (is_tab b)) s)) (cut-run is_tab s)
  past-byte false = ih ended (field_byte f b) ∙ sym (on-byte ended f b (cut_at is_tab s))

read-fields : (s : Text) → Splits s
unfolding read_on cut_at
read-fields [] = λ ended f. unfold fields_on fields_after read_field in refl
read-fields (b ∷ s) = λ ended f. past-byte b s (read-fields s) ended f (is_tab b)

-- the call of what was read is the call of all fields
abbrev all_of : List Field → Field → List Text → List Field
all_of ended f us = ended ++ (f ∷ map (read_field new_field) us)

abbrev Calls : List Text → Type 0
Calls us = (ended : List Field) (f : Field) → length ended < field_limit → line_from (fields_after ended f us) ≡ call_of (map kept_says (all_of ended f us))

module _ (u : Text) (us : List Text) (ih : Calls us) (ended : List Field) (f : Field) where
  next-call : (t : Bool) → ltb (suc (length ended)) field_limit ≡ t → line_from (pick t (fields_after (ended ++ (f ∷ [])) (read_field new_field u) us) too_many) ≡ call_of (map kept_says (all_of ended f (u ∷ us)))
  unfolding pick line_from
  next-call true e =
      let l : length (ended ++ (f ∷ [])) < field_limit = omega (arith, length-append ended (f ∷ []), ltb-true (suc (length ended)) field_limit e) in
      ih (ended ++ (f ∷ [])) (read_field new_field u) l ∙ ap (λ (fs : List Field). call_of (map kept_says fs)) (append_snoc ended f (map (read_field new_field) (u ∷ us)))
  next-call false e =
      let fs = all_of ended f (u ∷ us) in
      let l : field_limit < length (map kept_says fs) =
      omega (arith, ltb-false (suc (length ended)) field_limit e, length-map fs kept_says, length-append ended (f ∷ map (read_field new_field) (u ∷ us))) in
      sym (many-bad (map kept_says fs) l)

calls : (us : List Text) → Calls us
unfolding fields_after
calls [] = λ ended f h. unfold line_from in refl
calls (u ∷ us) = λ ended f h. next-call u us (calls us) ended f (ltb (suc (length ended)) field_limit) refl

fields-say : (us : List Text) → map kept_says (map (read_field new_field) us) ≡ map cut_said (map says us)
fields-say [] = refl
fields-say (u ∷ us) = rw (field-says u, fields-say us)

-- the fields of a line, read, are the call that the format says of them
fields-call : (us : List Text) (u : Text) (ts : List Text) → us ≡ u ∷ ts → line_from (fields_on [] new_field us) ≡ cut_line (call_of (map says us))
unfolding fields_on
fields-call us u ts e =
    let c : line_from (fields_after [] (read_field new_field u) ts) ≡ call_of (map kept_says (map (read_field new_field) (u ∷ ts))) = calls ts [] (read_field new_field u) (omega arith) in
    rw e (c ∙ (ap call_of (fields-say (u ∷ ts)) ∙ cut-call (map says (u ∷ ts))))

-- a line, read byte by byte, is the call that the format says, its texts cut
pub line-read : (s : Text) → line_from (read_on new_reading s) ≡ cut_line (line_of s)
unfolding line_of
line-read s =
    ap line_from (read-fields s [] new_field)
    ∙ fields-call (cut_at is_tab s) (run_of (λ b. not (is_tab b)) s) (rest_cut is_tab (past (λ b. not (is_tab b)) s)) (cut-run is_tab s)

-- so is the answer of `call`, by its contract, for a state that `read` left by its own
pub call-read : (run : List ℕ) (state : LineState) (r : Option LineRead) (s : Text) → reading_in run state ≡ read_on new_reading s → line_in run r ≡ line_from (reading_in run state) → line_in run r ≡ cut_line (line_of s)
call-read run state r s e f = f ∙ (ap line_from e ∙ line-read s)
