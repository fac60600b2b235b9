-- Each piece of a text has its place, so the range of its further words holds them. Assumes nothing.
use Rattle.ascii.specs.declared.TextRange.{TextRange}
use Rattle.std.specs.Prelude.{Option, None}
use mathlib.Core.Path.{◌≡◌, refl, ap, ◌∙◌, sym}
use Prim.Native.Nat.{ℕ, ◌+◌, ◌-◌, ◌≤◌, ◌<◌}
use mathlib.Core.List.{List, [], ◌∷◌, ◌++◌, map, append_assoc}
use mathlib.Core.Bool.{Bool, true, false}
use Rattle.std.specs.Prelude.{Some}
use native.Mathlib.Omega.{arith}
use lib.ListN.{length, drop, length-drop, length-append}
use lib.Seq.{drop-drop, take_at, drop_at}
use Rattle.ascii.specs.Bytes.{pick, is_white}
use Rattle.ascii.specs.Reading.{is_empty, past}
use Rattle.ascii.specs.Texts.{part_of, prepended, cut_at}
use Rattle.ascii.proofs.Texts.{part-in}
use Rattle.ascii.proofs.Suffixes.{Suffix, suffix_trans, suffix-past}
use Rattle.pieces.specs.Pieces.{words, pieces_of, is_for, further_words, last_for, entry_of}
use Rattle.pieces.specs.Answers.{words_in, entry_in, is_word_byte, past_first, range_at, piece_entry, last_at, entry_at}
use Rattle.pieces.proofs.Cutting.{words-none, first_by, words-first}
use Rattle.ascii.proofs.Clash.{clash}

-- a piece at a place of a text
record Placed (s : List ℕ) (at : ℕ) (p : List ℕ) : Type 0 where
  pub behind : List ℕ
  pub is : drop at s ≡ p ++ behind
  pub within : at + length p ≤ length s

-- pieces one after the other, each one byte past the end of the one before
data AllPlaced (s : List ℕ) : ℕ → List (List ℕ) → Type 0 where
  none_left : {at : ℕ} → AllPlaced s at []
  one_more : {at : ℕ} {p : List ℕ} {ps : List (List ℕ)} → Placed s at p → AllPlaced s (at + length p + 1) ps → AllPlaced s at (p ∷ ps)

longer : (s : List ℕ) (at x : ℕ) (ps : List (List ℕ)) → drop at s ≡ x ∷ drop (at + 1) s → at < length s → AllPlaced s (at + 1) ps → AllPlaced s at (prepended x ps)
unfolding prepended
longer s at x [] e h t = one_more {at = at} {p = x ∷ []} (record { behind = drop (at + 1) s; is = e; within = omega arith }) none_left
longer s at x (p ∷ ps) e h (one_more st t) =
    let q : at + 1 + length p + 1 ≡ at + length (x ∷ p) + 1 = omega arith in
    one_more {at = at} {p = x ∷ p}
    (record { behind = st.behind; is = e ∙ ap (λ (l : List ℕ). x ∷ l) st.is; within = (let w : at + 1 + length p ≤ length s = st.within in omega arith) })
    (rw q at t)

cut-here : (s : List ℕ) (at : ℕ) (ps : List (List ℕ)) → at < length s → AllPlaced s (at + 1) ps → AllPlaced s at ([] ∷ ps)
cut-here s at ps h t =
    let q : at + 1 ≡ at + 0 + 1 = omega arith in
    one_more {at = at} {p = []} (record { behind = drop at s; is = refl; within = omega arith }) (rw q at t)

all_placed : (ends : ℕ → Bool) (s : List ℕ) (at : ℕ) (l : List ℕ) → drop at s ≡ l → at ≤ length s → AllPlaced s at (cut_at ends l)
unfolding cut_at
all_placed ends s at [] e h = one_more {at = at} {p = []} (record { behind = []; is = e; within = omega arith }) none_left
all_placed ends s at (x ∷ xs) e h =
    let d : drop (at + 1) s ≡ xs = sym (drop-drop 1 at s) ∙ ap (drop 1) e in
    let g : at < length s = omega (arith, ap length e, length-drop at s) in
    go (ends x) (e ∙ ap (λ (l : List ℕ). x ∷ l) (sym d)) g (all_placed ends s (at + 1) xs d (omega arith))
  where
    go : (b : Bool) → drop at s ≡ x ∷ drop (at + 1) s → at < length s → AllPlaced s (at + 1) (cut_at ends xs) → AllPlaced s at (pick b ([] ∷ cut_at ends xs) (prepended x (cut_at ends xs)))
    go true d g t = unfold pick in (cut-here s at (cut_at ends xs) g t)
    go false d g t = unfold pick in (longer s at x (cut_at ends xs) d g t)

-- the further words of a piece are the words of what follows its first word
first-further : (b : Bool) (l : List ℕ) → is_empty l ≡ b → further_words (first_by b l) ≡ words (past is_word_byte l)
unfolding first_by pick further_words
first-further true [] e = unfold past in (sym words-none)
first-further true (x ∷ xs) e = clash (unfold is_empty in cc)
first-further false l e = refl

further-words : (p : List ℕ) → further_words (words p) ≡ words (past_first p)
unfolding past_first
further-words p = ap further_words (words-first p) ∙ first-further (is_empty (past is_white p)) (past is_white p) refl

-- an end of a piece, as a part of the text
end-part : (s : List ℕ) (at : ℕ) (p m : List ℕ) → Placed s at p → Suffix m p → part_of s (at + (length p - length m)) (at + length p) ≡ m
end-part s at p m st f =
    let l : length p ≡ length f.before + length m = ap length f.is ∙ length-append f.before m in
    let k : at + (length p - length m) ≡ at + length f.before = omega arith in
    let u : at + length p - (at + length f.before) ≡ length m = omega arith in
    let d : drop (at + length f.before) s ≡ m ++ st.behind =
    sym (drop-drop (length f.before) at s)
    ∙ (ap (drop (length f.before)) (st.is ∙ (ap (λ (z : List ℕ). z ++ st.behind) f.is ∙ append_assoc f.before m st.behind))
    ∙ drop_at f.before (m ++ st.behind) (length f.before) refl)
    in
    let a : at + length f.before ≤ at + length p = omega arith in
    rw k (sym (part-in s (at + length f.before) (at + length p) a st.within) ∙ rw (u, d) (take_at m st.behind (length m) refl))

further-in : (s : List ℕ) (at : ℕ) (p : List ℕ) → Placed s at p → words_in s (range_at at p) ≡ further_words (words p)
unfolding range_at
further-in s at p st =
    ap words (end-part s at p (past_first p) st (unfold past_first in (suffix_trans (suffix-past is_white p) (suffix-past is_word_byte (past is_white p)))))
    ∙ sym (further-words p)

piece-in : (s : List ℕ) (n at : ℕ) (p : List ℕ) (found : Option TextRange) → Placed s at p → entry_in s (piece_entry n at p found) ≡ pick (is_for n (words p)) (Some (further_words (words p))) (entry_in s found)
unfolding piece_entry
piece-in s n at p found st = go (is_for n (words p))
  where
    go : (b : Bool) → entry_in s (pick b (Some (range_at at p)) found) ≡ pick b (Some (further_words (words p))) (entry_in s found)
    go true = unfold pick in (ap Some (further-in s at p st))
    go false = unfold pick in refl

pieces-in : (s : List ℕ) (n at : ℕ) (ps : List (List ℕ)) (found : Option TextRange) → AllPlaced s at ps → entry_in s (last_at n at ps found) ≡ last_for n (map words ps) (entry_in s found)
unfolding last_at last_for
pieces-in s n at [] found t = refl
pieces-in s n at (p ∷ ps) found (one_more st t) = pieces-in s n (at + length p + 1) ps (piece_entry n at p found) t ∙ rw (piece-in s n at p found st)

pub entry-in : (ends : ℕ → Bool) (s : List ℕ) (n : ℕ) → entry_in s (entry_at ends s n) ≡ entry_of ends s n
unfolding entry_at entry_of pieces_of
entry-in ends s n = pieces-in s n 0 (cut_at ends s) None (all_placed ends s 0 s refl (omega arith))
