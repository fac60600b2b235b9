-- The words of a text, and pieces one after the other: a part of the laws of this crate. Assumes nothing.
use Rattle.std.specs.Prelude.{Option, Some, None}
use mathlib.Core.Path.{◌≡◌, refl, ap, ◌∙◌, sym}
use Prim.Native.Nat.{ℕ, ◌+◌, ◌-◌, ◌≤◌, ◌<◌, min}
use mathlib.Core.List.{List, [], ◌∷◌}
use mathlib.Core.Bool.{Bool, true, false, not}
use native.Mathlib.Omega.{arith}
use lib.ListN.{length, drop, length-drop}
use lib.Seq.{take_all}
use Rattle.ascii.specs.Bytes.{pick, is_white}
use Rattle.ascii.specs.declared.TextRange.{TextRange}
use Rattle.ascii.specs.Reading.{head_of, is_empty, run_of, past}
use Rattle.ascii.specs.Texts.{part_of, part_in, cut_at}
use Rattle.ascii.proofs.Clash.{clash}
use Rattle.ascii.proofs.Reading.{run-from, run-part, empty-yes, empty-no}
use Rattle.ascii.proofs.Texts.{rest_cut, cut-run, part-in}
use Rattle.pieces.specs.Pieces.{non_empty, words}
use Rattle.pieces.specs.Answers.{is_word_byte, word_at, low_end, high_end, IsNextWord}

-- the words of a text, by its first byte
pub words-none : words [] ≡ []
unfolding words cut_at non_empty is_empty pick
words-none = refl

pub words-white : (x : ℕ) (xs : List ℕ) → is_white x ≡ true → words (x ∷ xs) ≡ words xs
unfolding words cut_at non_empty is_empty pick
words-white x xs e = rw e

words-rest : (l : List ℕ) → non_empty (rest_cut is_white (past is_word_byte l)) ≡ words (past is_word_byte l)
unfolding past
words-rest [] = unfold words cut_at non_empty is_empty pick rest_cut in refl
words-rest (x ∷ xs) = go (is_white x) refl (words-rest xs)
  where
    go : (b : Bool) → is_white x ≡ b → non_empty (rest_cut is_white (past is_word_byte xs)) ≡ words (past is_word_byte xs) → non_empty (rest_cut is_white (pick (not b) (past is_word_byte xs) (x ∷ xs))) ≡ words (pick (not b) (past is_word_byte xs) (x ∷ xs))
    go true t e = unfold pick rest_cut words in (sym (words-white x xs t))
    go false t e = unfold pick in e

whole : (l : List ℕ) → words l ≡ non_empty (run_of is_word_byte l ∷ rest_cut is_white (past is_word_byte l))
unfolding words
whole l = ap non_empty (cut-run is_white l)

non-empty : (x : ℕ) (t : List ℕ) (ts : List (List ℕ)) → non_empty ((x ∷ t) ∷ ts) ≡ (x ∷ t) ∷ non_empty ts
unfolding non_empty is_empty pick
non-empty x t ts = refl

words-word : (x : ℕ) (xs : List ℕ) → is_white x ≡ false → words (x ∷ xs) ≡ run_of is_word_byte (x ∷ xs) ∷ words (past is_word_byte (x ∷ xs))
words-word x xs e =
    let r : run_of is_word_byte (x ∷ xs) ≡ x ∷ run_of is_word_byte xs = unfold run_of pick in (rw e) in
    let w : non_empty (rest_cut is_white (past is_word_byte (x ∷ xs))) ≡ words (past is_word_byte (x ∷ xs)) = words-rest (x ∷ xs) in
    whole (x ∷ xs) ∙ rw (r, non-empty x (run_of is_word_byte xs) (rest_cut is_white (past is_word_byte (x ∷ xs))), w)

-- the first word, where a byte is left that is not white
unfoldable pub first_by : Bool → List ℕ → List (List ℕ)
first_by none_left l = pick none_left [] (run_of is_word_byte l ∷ words (past is_word_byte l))

pub words-first : (l : List ℕ) → words l ≡ first_by (is_empty (past is_white l)) (past is_white l)
unfolding past first_by
words-first [] = unfold pick is_empty in words-none
words-first (x ∷ xs) = go (is_white x) refl (words-first xs)
  where
    go : (b : Bool) → is_white x ≡ b → words xs ≡ pick (is_empty (past is_white xs)) [] (run_of is_word_byte (past is_white xs) ∷ words (past is_word_byte (past is_white xs))) → words (x ∷ xs) ≡ pick (is_empty (pick b (past is_white xs) (x ∷ xs))) [] (run_of is_word_byte (pick b (past is_white xs) (x ∷ xs)) ∷ words (past is_word_byte (pick b (past is_white xs) (x ∷ xs))))
    go true t e = rw (words-white x xs t) (unfold pick in e)
    go false t e = unfold pick is_empty in (words-word x xs t)

-- what is left past white bytes begins with one that is not white
past_head : (p : ℕ → Bool) (l : List ℕ) → is_empty (past p l) ≡ false → p (head_of (past p l)) ≡ false
unfolding past
past_head p [] e = clash (unfold is_empty in cc)
past_head p (x ∷ xs) e = go (p x) refl e (λ f. past_head p xs f)
  where
    go : (b : Bool) → p x ≡ b → is_empty (pick b (past p xs) (x ∷ xs)) ≡ false → (is_empty (past p xs) ≡ false → p (head_of (past p xs)) ≡ false) → p (head_of (pick b (past p xs) (x ∷ xs))) ≡ false
    go true t f ih = unfold pick in (ih (unfold pick in f))
    go false t f ih = unfold pick head_of in t

-- what `next_word` answers, test by test
module _ (s : List ℕ) (at from : ℕ) (a : drop from s ≡ past is_white (drop at s)) (lo : min at (length s) ≤ from) (hi : from ≤ length s) where
  left-of : length (past is_white (drop at s)) ≡ length s - from
  left-of = ap length (sym a) ∙ length-drop from s

  pub none-says : length s ≤ from → words (drop at s) ≡ []
  unfolding first_by pick
  none-says h =
      let e : is_empty (past is_white (drop at s)) ≡ true = rw (← a) (empty-yes s from h) in
      words-first (drop at s) ∙ rw e

  pub none-range : length s ≤ from → None ≡ word_at s (past is_white (drop at s))
  unfolding word_at pick
  none-range h =
      let e : is_empty (past is_white (drop at s)) ≡ true = rw (← a) (empty-yes s from h) in
      rw e

  module _ (h : from < length s) (to : ℕ) (b : drop to s ≡ past is_word_byte (drop (from + 1) s)) (low : min (from + 1) (length s) ≤ to) (high : to ≤ length s) where
    not-empty : is_empty (past is_white (drop at s)) ≡ false
    not-empty = rw (← a) (empty-no s from h)

    word_first : is_word_byte (head_of (drop from s)) ≡ true
    word_first = rw a (rw (past_head is_white (drop at s) not-empty))

    word-past : drop to s ≡ past is_word_byte (drop from s)
    word-past = run-from is_word_byte s from to word_first h b

    run_is : part_of s from to ≡ run_of is_word_byte (drop from s)
    run_is = sym (part-in s from to (omega arith) high) ∙ run-part is_word_byte s from to hi word-past (omega arith) high

    past_is : past is_word_byte (past is_white (drop at s)) ≡ drop to s
    past_is = rw (← a) (sym word-past)

    to_is : length s - length (past is_word_byte (past is_white (drop at s))) ≡ to
    to_is = omega (arith, ap length past_is, length-drop to s)

    from_is : length s - length (past is_white (drop at s)) ≡ from
    from_is = omega (arith, left-of)

    words-is : first_by false (past is_white (drop at s)) ≡ part_of s from to ∷ words (drop to s)
    unfolding first_by pick
    words-is = rw (past_is, ← a, run_is)

    range-is : Some (record { from = from; to = to }) ≡ word_at s (past is_white (drop at s))
    unfolding word_at pick
    range-is = rw (not-empty, to_is, from_is)

    pub next-some : IsNextWord s at (Some (record { from = from; to = to }))
    next-some =
        record {
          says = words-first (drop at s) ∙ (rw not-empty words-is);
          range = range-is;
          past_it = omega arith;
          upto = high;
        }

-- the end of a word that is answered, as a bound
pub low-end : (f : Option TextRange) (w : TextRange) → f ≡ Some w → low_end f ≡ w.to
low-end f w k = rw k

pub high-end : (f : Option TextRange) (w : TextRange) → f ≡ Some w → high_end f ≡ w.to
high-end f w k = rw k

pub ruleset low-ends = (arith, low-end)

pub ruleset high-ends = (arith, high-end)

-- what a walk from word to word leaves
pub words_nil : words [] ≡ []
unfolding first_by past is_empty pick
words_nil = words-first []

module _ (s : List ℕ) (w : TextRange) (is : words s ≡ part_in s w ∷ words (drop w.to s)) (upto : w.to ≤ length s) (rest : List ℕ) (left : rest ≡ part_of s w.to (length s)) where
  rest_is : rest ≡ drop w.to s
  rest_is = left ∙ (sym (part-in s w.to (length s) upto (omega arith)) ∙ take_all (length s - w.to) (drop w.to s) (omega (arith, length-drop w.to s)))

  pub word-steps : (x : List ℕ) → x ≡ part_in s w → words s ≡ x ∷ words rest
  word-steps x e = is ∙ rw (e, rest_is) refl

  pub fewer_words : length (words rest) < length (words s)
  fewer_words = rw (is, rest_is) (omega arith)
