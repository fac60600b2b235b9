-- The entry of each feature, piece by piece, in the terms of the code. Assumes nothing.
use mathlib.Core.Path.{◌≡◌, refl, ap, ◌∙◌, sym}
use Prim.Native.Nat.{ℕ, ◌+◌, ◌-◌, ◌≤◌, ◌<◌, min}
use mathlib.Core.List.{List, [], ◌∷◌}
use mathlib.Core.Bool.{Bool, true, false}
use Rattle.std.specs.Prelude.{Option, Some, None}
use native.Mathlib.Omega.{arith}
use native.Mathlib.Numerals.{add-one}
use lib.ListN.{length, get_or, set, drop, drop_of_length-le, length-drop, length-take}
use lib.Seq.{drop-cons, get_or-set_same, get_or-set_other}
use lib.Dec.{eqb, leb}
use borrow.Author.Tests.{eqb-true, eqb-false, leb-true, leb-false}
use Rattle.ascii.specs.Bytes.{pick, is_white}
use Rattle.ascii.specs.Bytes.{outside}
use Rattle.ascii.specs.declared.TextRange.{TextRange}
use Rattle.ascii.specs.Reading.{is_empty, run_of, past}
use Rattle.ascii.specs.Texts.{part_of, cut_at}
use Rattle.ascii.proofs.Clash.{clash}
use Rattle.ascii.proofs.Reading.{run-part}
use Rattle.ascii.proofs.Texts.{part-in, rest_cut, cut-run}
use Rattle.features.specs.Features.{feature_of, feature_count}
use Rattle.features.specs.Answers.{number_in}
use Rattle.features.proofs.Laws.{number-known}
use Rattle.pieces.specs.Pieces.{words, feature_in, is_for}
use Rattle.pieces.specs.Answers.{is_word_byte, words_found, word_at, past_first, range_at, piece_as, feature_bound, piece_entry, last_at, entry_at}
use Rattle.pieces.specs.declared.PieceFor.{PieceFor}
use Rattle.pieces.proofs.Cutting.{words-none}

-- where the first word of a text ends
first_ends : (p : List ℕ) (f : Option TextRange) (w : TextRange) → f ≡ word_at p (past is_white p) → f ≡ Some w → w.to ≡ length p - length (past_first p)
unfolding word_at past_first
first_ends p f w is k = go (is_empty (past is_white p)) (sym k ∙ is)
  where
    go : (b : Bool) → Some w ≡ pick b None (Some (record { from = length p - length (past is_white p); to = length p - length (past is_word_byte (past is_white p)) })) → w.to ≡ length p - length (past is_word_byte (past is_white p))
    go true e = clash (unfold pick in cc)
    go false e = unfold pick in cc

-- a piece, by what its first word is found to be
module _ (s : List ℕ) (from to : ℕ) (p : List ℕ) (part : p ≡ part_of s from to) (f : Option TextRange) (says : words (drop 0 p) ≡ words_found p f) where
  pub piece-empty : f ≡ None → None ≡ piece_as from (part_of s from to) (feature_in (words (part_of s from to)))
  unfolding feature_in
  piece-empty k = rw (← part, says, k)

  module _ (w : TextRange) (k : f ≡ Some w) (x : List ℕ) (cut : x ≡ part_of p w.from w.to) (r : Option ℕ) (found : r ≡ feature_of x) where
    feature-is : feature_in (words p) ≡ r
    unfolding feature_in
    feature-is = rw (says, k, found, cut)

    pub piece-unknown : r ≡ None → None ≡ piece_as from (part_of s from to) (feature_in (words (part_of s from to)))
    piece-unknown u = rw (← part, feature-is, u)

    pub piece-known : (range : f ≡ word_at p (past is_white (drop 0 p))) (h : from ≤ to) (g : to ≤ length s) (n : ℕ) → r ≡ Some n → Some (record { feature = n; words = record { from = from + w.to; to = to } }) ≡ piece_as from (part_of s from to) (feature_in (words (part_of s from to)))
    unfolding range_at
    piece-known range h g n u =
        let l : length p ≡ to - from = ap length (part ∙ sym (part-in s from to h g)) ∙ omega (arith, length-take (to - from) (drop from s), length-drop from s) in
        let q : w.to ≡ length p - length (past_first p) = first_ends p f w range k in
        let v : to ≡ from + length p = omega arith in
        rw (← part, feature-is, u, ← q, ← v)

pub unknown-below : 0 < feature_count
unknown-below = omega arith

pub known-below : (r : Option ℕ) (n : ℕ) → r ≡ Some n → number_in r < feature_count → n < feature_count
known-below r n k h = rw (number-known r n k) at h

-- a piece's answer, and the entry that it makes
for-is : (at : ℕ) (p : List ℕ) (x : Option ℕ) (f : PieceFor) → Some f ≡ piece_as at p x → (x ≡ Some f.feature) × (f.words ≡ range_at at p)
for-is at p (Some m) f e = let u : m ≡ f.feature = cc in let v : f.words ≡ range_at at p = cc in (ap Some u, v)
for-is at p None f e = clash cc

unknown-is : (at : ℕ) (p : List ℕ) (x : Option ℕ) → None ≡ piece_as at p x → x ≡ None
unknown-is at p (Some m) e = clash cc
unknown-is at p None e = refl

pub feature-below : (r : Option PieceFor) (f : PieceFor) → r ≡ Some f → feature_bound r ≡ f.feature
feature-below r f k = rw k

pub ruleset bounds = (arith, feature-below)

first_piece : (n at : ℕ) (p : List ℕ) (ps : List (List ℕ)) (found : Option TextRange) → last_at n at (p ∷ ps) found ≡ last_at n (at + length p + 1) ps (piece_entry n at p found)
unfolding last_at
first_piece n at p ps found = refl

-- nothing is left past the end
empty-piece : (ends : ℕ → Bool) (n at : ℕ) (found : Option TextRange) → last_at n at (cut_at ends []) found ≡ found
unfolding cut_at last_at piece_entry pick is_for feature_in
empty-piece ends n at found = rw words-none

-- past the piece that ends at a place
rest_some : (ends : ℕ → Bool) (s : List ℕ) (e : ℕ) → e < length s → rest_cut ends (drop e s) ≡ cut_at ends (drop (e + 1) s)
unfolding rest_cut
rest_some ends s e h = rw (drop-cons s e 0 h, add-one e)

rest-none : (ends : ℕ → Bool) (s : List ℕ) (n e : ℕ) (found : Option TextRange) → length s ≤ e → last_at n (e + 1) (rest_cut ends (drop e s)) found ≡ found
unfolding rest_cut last_at
rest-none ends s n e found h = rw (drop_of_length-le s h)

-- a walk from piece to piece, for one feature
module _ (c : ℕ → Bool) (s : List ℕ) (n i : ℕ) (found : Option TextRange) (R : Option TextRange) (so_far : last_at n i (cut_at c (drop i s)) found ≡ R) where
  one_end : length s ≤ i → found ≡ R
  one_end h = sym (empty-piece c n i found) ∙ (rw (drop_of_length-le s h) at so_far)

  module _ (e : ℕ) (r : drop e s ≡ past (outside c) (drop i s)) (h : i < length s) (lo : min i (length s) ≤ e) (hi : e ≤ length s) (next : Option TextRange) (is : next ≡ piece_entry n i (part_of s i e) found) where
    cut-is : cut_at c (drop i s) ≡ part_of s i e ∷ rest_cut c (drop e s)
    cut-is =
        let k : run_of (outside c) (drop i s) ≡ part_of s i e = sym (run-part (outside c) s i e (omega arith) r lo hi) ∙ part-in s i e (omega arith) hi in
        cut-run c (drop i s) ∙ rw (k, r)

    on : last_at n (e + 1) (rest_cut c (drop e s)) next ≡ R
    on =
        let l : length (part_of s i e) ≡ e - i = ap length (sym (part-in s i e (omega arith) hi)) ∙ omega (arith, length-take (e - i) (drop i s), length-drop i s) in
        let q : i + length (part_of s i e) + 1 ≡ e + 1 = omega arith in
        rw (is, ← q) (sym (first_piece n i (part_of s i e) (rest_cut c (drop e s)) found) ∙ (rw cut-is at so_far))

    one_on : last_at n (e + 1) (cut_at c (drop (e + 1) s)) next ≡ R
    one_on = go (leb (length s) e) refl
      where
        go : (b : Bool) → leb (length s) e ≡ b → last_at n (e + 1) (cut_at c (drop (e + 1) s)) next ≡ R
        go true t =
            let k : length s ≤ e = leb-true (length s) e t in
            let m : length s ≤ e + 1 = omega arith in
            rw (drop_of_length-le s m) (empty-piece c n (e + 1) next ∙ (sym (rest-none c s n e next k) ∙ on))
        go false t =
            let k : e < length s = leb-false (length s) e t in
            rw (rest_some c s e k) at on

-- for every feature: the entries found so far and the pieces that are left give the entries of the whole text
pub record Left (c : ℕ → Bool) (s : List ℕ) (i : ℕ) (found : List (Option TextRange)) : Type 0 where
  pub gives : (n : ℕ) → n < feature_count → last_at n i (cut_at c (drop i s)) (get_or found n None) ≡ entry_at c s n

pub left-start : (c : ℕ → Bool) (s : List ℕ) (found : List (Option TextRange)) → ((n : ℕ) → n < feature_count → get_or found n None ≡ None) → Left c s 0 found
left-start c s found h = record { gives = λ n g. rw (h n g) (unfold entry_at in refl) }

pub left_end : (c : ℕ → Bool) (s : List ℕ) (i : ℕ) (found : List (Option TextRange)) → Left c s i found → length s ≤ i → (n : ℕ) → n < feature_count → get_or found n None ≡ entry_at c s n
left_end c s i found l h n g = one_end c s n i (get_or found n None) (entry_at c s n) (l.gives n g) h

piece-for : (n at : ℕ) (p : List ℕ) (found : Option TextRange) (m : ℕ) → feature_in (words p) ≡ Some m → (b : Bool) → eqb m n ≡ b → piece_entry n at p found ≡ pick b (Some (range_at at p)) found
unfolding piece_entry is_for
piece-for n at p found m e b t = rw (e, t)

piece-no : (n at : ℕ) (p : List ℕ) (found : Option TextRange) → feature_in (words p) ≡ None → found ≡ piece_entry n at p found
unfolding piece_entry is_for pick
piece-no n at p found e = rw e

module _ (c : ℕ → Bool) (s : List ℕ) (i : ℕ) (found : List (Option TextRange)) (l : Left c s i found) (e : ℕ) (run : drop e s ≡ past (outside c) (drop i s)) (h : i < length s) (lo : min i (length s) ≤ e) (hi : e ≤ length s) (r : Option PieceFor) (is : r ≡ piece_as i (part_of s i e) (feature_in (words (part_of s i e)))) where
  pub left-unknown : r ≡ None → Left c s (e + 1) found
  left-unknown k =
      let q : feature_in (words (part_of s i e)) ≡ None = unknown-is i (part_of s i e) (feature_in (words (part_of s i e))) (sym k ∙ is) in
      record { gives = λ n g. one_on c s n i (get_or found n None) (entry_at c s n) (l.gives n g) e run h lo hi (get_or found n None) (piece-no n i (part_of s i e) (get_or found n None) q) }

  pub left-for : length found ≡ feature_count → (f : PieceFor) → r ≡ Some f → feature_bound r < feature_count → Left c s (e + 1) (set found f.feature (Some f.words))
  left-for long f k b =
      let q = for-is i (part_of s i e) (feature_in (words (part_of s i e))) f (sym k ∙ is) in
      let m : f.feature < length found = omega (arith, feature-below r f k) in
      record { gives = λ n g. one_on c s n i (get_or found n None) (entry_at c s n) (l.gives n g) e run h lo hi (get_or (set found f.feature (Some f.words)) n None) (stored n q.0 q.1 m (eqb f.feature n) refl) }
    where
      stored : (n : ℕ) → feature_in (words (part_of s i e)) ≡ Some f.feature → f.words ≡ range_at i (part_of s i e) → f.feature < length found → (t : Bool) → eqb f.feature n ≡ t → get_or (set found f.feature (Some f.words)) n None ≡ piece_entry n i (part_of s i e) (get_or found n None)
      stored n a v m true t =
          let u : f.feature ≡ n = eqb-true f.feature n t in
          rw (piece-for n i (part_of s i e) (get_or found n None) f.feature a true t, ← u, get_or-set_same found f.feature (Some f.words) None m, v) (unfold pick in refl)
      stored n a v m false t =
          rw (piece-for n i (part_of s i e) (get_or found n None) f.feature a false t, get_or-set_other found f.feature n (Some f.words) None (λ z. eqb-false f.feature n t (sym z))) (unfold pick in refl)
