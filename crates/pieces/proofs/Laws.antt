-- The laws of texts of pieces, for the crates above, which open no definition of this crate; `Cutting`, `Listing` and `Added` are parts of them. Assumes nothing.
use Rattle.ascii.specs.declared.TextRange.{TextRange}
use mathlib.Core.Path.{◌≡◌, refl, ap, ◌∙◌}
use Prim.Native.Nat.{ℕ, ◌<◌}
use mathlib.Core.List.{List, [], ◌∷◌, ◌++◌, map}
use mathlib.Core.Bool.{Bool, true, false, ◌||◌}
use Rattle.std.specs.Prelude.{Option, Some, None}
use native.Mathlib.Omega.{arith}
use lib.ListN.{length, get_or}
use borrow.Author.Tests.{eq-eqb, ne_eqb}
use lib.Dec.{eqb}
use Rattle.ascii.specs.Bytes.{pick}
use Rattle.ascii.specs.Texts.{same_bytes, same_lowered, cut_at}
use Rattle.ascii.proofs.Clash.{clash}
use Rattle.ascii.proofs.Bytes.{or-on, or-more}
use Rattle.ascii.proofs.Texts.{bytes_same, same-bytes, cut-same}
use Rattle.features.specs.Features.{feature_count, name_of, feature_of}
use Rattle.features.proofs.Laws.{found, found_name}
use Rattle.allowlists.specs.Allowlists.{Meaning, allowlist_of}
use Rattle.allowlists.specs.Widening.{Wider}
use Rattle.allowlists.proofs.Laws.{meaning-wider}
use Rattle.pieces.specs.Pieces.{pieces_of, feature_in, is_the, is_for, further_words, last_for, entry_of, has_keyword}
use Rattle.pieces.specs.Words.{word_meaning, entry_list}
use Rattle.pieces.specs.Answers.{entry_in, entry_at, IsEntries}
use Rattle.pieces.specs.OneWordMore.{OneWordMore}
use Rattle.pieces.proofs.Cutting.{words-none}
use Rattle.pieces.proofs.Placing.{entry-in}

-- what `entries` answers, by the ranges
pub entries-are : (k : ℕ → Bool) (s : List ℕ) (r : List (Option TextRange)) → ((n : ℕ) → n < feature_count → get_or r n None ≡ entry_at k s n) → IsEntries k s r
entries-are k s r h = record { says = λ n g. ap (entry_in s) (h n g) ∙ entry-in k s n; range = h }

-- tests of bytes that agree give the same entries
pub entry-same : (p q : ℕ → Bool) → ((b : ℕ) → p b ≡ q b) → (s : List ℕ) (n : ℕ) → entry_of p s n ≡ entry_of q s n
unfolding entry_of pieces_of
entry-same p q h s n = rw (cut-same p q h s)

pub range_same : (p q : ℕ → Bool) → ((b : ℕ) → p b ≡ q b) → (s : List ℕ) (n : ℕ) → entry_at p s n ≡ entry_at q s n
unfolding entry_at
range_same p q h s n = rw (cut-same p q h s)

-- an empty text has no entry, as an absent one
pub empty-entry : (ends : ℕ → Bool) (n : ℕ) → entry_of ends [] n ≡ None
unfolding entry_of pieces_of cut_at last_for is_for feature_in pick
empty-entry ends n = rw words-none

-- a piece is for a feature if its first word is the feature's name
pub for-name : (n : ℕ) (w : List ℕ) (ws : List (List ℕ)) → n < feature_count → is_for n (w ∷ ws) ≡ same_bytes w (name_of n)
unfolding is_for feature_in
for-name n w ws h = go (feature_of w) refl (same_bytes w (name_of n)) refl
  where
    no : (m : ℕ) (b : Bool) → feature_of w ≡ Some m → same_bytes w (name_of n) ≡ b → eqb m n ≡ b
    no m true e t = let q : w ≡ name_of n = bytes_same w (name_of n) t in let f : feature_of w ≡ Some n = ap feature_of q ∙ found n h in let k : m ≡ n = cc in eq-eqb m n k
    no m false e t = ne_eqb m n (λ k. let q : w ≡ name_of m = found_name w m e in let f : same_bytes w (name_of n) ≡ true = rw (q, k) (same-bytes (name_of n)) in clash cc)

    go : (x : Option ℕ) → feature_of w ≡ x → (b : Bool) → same_bytes w (name_of n) ≡ b → is_the n x ≡ b
    go (Some m) e b t = no m b e t
    go None e true t = let q : w ≡ name_of n = bytes_same w (name_of n) t in let f : feature_of w ≡ Some n = ap feature_of q ∙ found n h in clash cc
    go None e false t = refl

-- an entry with no further words, and with some
pub list-bare : (bare : Meaning) → entry_list bare [] ≡ allowlist_of (bare ∷ [])
unfolding entry_list
list-bare bare = refl

pub list-words : (bare : Meaning) (ws : List (List ℕ)) → 0 < length ws → entry_list bare ws ≡ allowlist_of (map word_meaning ws)
unfolding entry_list
list-words bare [] h = absurd (omega arith)
list-words bare (w ∷ ws) h = refl

-- one word more admits at least as much, whatever no further words mean
map-append : (xs ys : List (List ℕ)) → map word_meaning (xs ++ ys) ≡ map word_meaning xs ++ map word_meaning ys
map-append [] ys = refl
map-append (x ∷ xs) ys = ap (λ (l : List Meaning). word_meaning x ∷ l) (map-append xs ys)

one_more : (front back : List (List ℕ)) (w : List ℕ) → 0 < length (front ++ (w ∷ back))
one_more [] back w = omega arith
one_more (x ∷ front) back w = omega arith

pub word-wider : (bare : Meaning) (front back : List (List ℕ)) (w : List ℕ) → 0 < length (front ++ back) → Wider (entry_list bare (front ++ back)) (entry_list bare (front ++ (w ∷ back)))
word-wider bare front back w h =
    rw
    (list-words bare (front ++ back) h, list-words bare (front ++ (w ∷ back)) (one_more front back w), map-append front back, map-append front (w ∷ back))
    (meaning-wider (map word_meaning front) (map word_meaning back) (word_meaning w))

-- an entry, and the same entry or one with a word more
pub data Grown : Option (List (List ℕ)) → Option (List (List ℕ)) → Type 0 where
  same : {e : Option (List (List ℕ))} → Grown e e
  grown : (front back : List (List ℕ)) (w : List ℕ) → 0 < length (front ++ back) → Grown (Some (front ++ back)) (Some (front ++ (w ∷ back)))

last-append : (n : ℕ) (xs ys : List (List (List ℕ))) (e : Option (List (List ℕ))) → last_for n (xs ++ ys) e ≡ last_for n ys (last_for n xs e)
unfolding last_for
last-append n [] ys e = refl
last-append n (x ∷ xs) ys e = last-append n xs ys (pick (is_for n x) (Some (further_words x)) e)

grown-last : (n : ℕ) (ps : List (List (List ℕ))) (d e : Option (List (List ℕ))) → Grown d e → Grown (last_for n ps d) (last_for n ps e)
unfolding last_for
grown-last n [] d e g = g
grown-last n (p ∷ ps) d e g = grown-last n ps (pick (is_for n p) (Some (further_words p)) d) (pick (is_for n p) (Some (further_words p)) e) (go (is_for n p))
  where
    go : (b : Bool) → Grown (pick b (Some (further_words p)) d) (pick b (Some (further_words p)) e)
    go = unfold pick in (elim [ true ↦ same | false ↦ g ])

grown-in : (n : ℕ) (earlier later : List (List (List ℕ))) (feature : List ℕ) (front back : List (List ℕ)) (w : List ℕ) → 0 < length (front ++ back) → Grown (last_for n (earlier ++ ((feature ∷ (front ++ back)) ∷ later)) None) (last_for n (earlier ++ ((feature ∷ (front ++ (w ∷ back))) ∷ later)) None)
grown-in n earlier later feature front back w h =
    rw
    (last-append n earlier ((feature ∷ (front ++ back)) ∷ later) None, last-append n earlier ((feature ∷ (front ++ (w ∷ back))) ∷ later) None)
    (unfold last_for is_for feature_in further_words in (grown-last n later _ _ (go (last_for n earlier None) (is_the n (feature_of feature)))))
  where
    go : (e : Option (List (List ℕ))) (b : Bool) → Grown (pick b (Some (front ++ back)) e) (pick b (Some (front ++ (w ∷ back))) e)
    go = unfold pick in (λ e. elim [ true ↦ grown front back w h | false ↦ same ])

-- with one word more in a text, each entry is the same, or has one word more
pub entry-grown : (ends : ℕ → Bool) (s t : List ℕ) → OneWordMore ends s t → (n : ℕ) → Grown (entry_of ends s n) (entry_of ends t n)
unfolding entry_of
entry-grown ends s t o n = rw (o.first, o.second) (grown-in n o.earlier o.later o.feature o.front o.back o.word o.one)

-- a keyword among words with one more: what stood stands, and a word that isn't the keyword changes nothing
pub keyword_more : (k : List ℕ) (front back : List (List ℕ)) (w : List ℕ) → has_keyword k (front ++ back) ≡ true → has_keyword k (front ++ (w ∷ back)) ≡ true
unfolding has_keyword
keyword_more k [] back w e = or-on (same_lowered w k) (has_keyword k back) e
keyword_more k (x ∷ front) back w e = or-more (same_lowered x k) (has_keyword k (front ++ back)) (has_keyword k (front ++ (w ∷ back))) (keyword_more k front back w) e

pub keyword-other : (k : List ℕ) (front back : List (List ℕ)) (w : List ℕ) → same_lowered w k ≡ false → has_keyword k (front ++ (w ∷ back)) ≡ has_keyword k (front ++ back)
unfolding has_keyword
keyword-other k [] back w e = rw e
keyword-other k (x ∷ front) back w e = ap (λ (b : Bool). same_lowered x k || b) (keyword-other k front back w e)
