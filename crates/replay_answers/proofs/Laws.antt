-- The laws of answers' texts, for the crates above: none is longer than the longest. Assumes nothing.
use Rattle.std.specs.Prelude.{Result, Ok, Err}
use mathlib.Core.Path.{◌≡◌, refl}
use Prim.Native.Nat.{ℕ, zero, suc, ◌+◌, ◌*◌, ◌^◌, ◌≤◌, ◌<◌}
use mathlib.Core.Bool.{true, false}
use mathlib.Core.List.{List, [], ◌∷◌, ◌++◌}
use native.Mathlib.Omega.{arith}
use lib.ListN.{length, take, drop, get_or, length-append, length-take}
use lib.Dec.{ltb}
use borrow.Author.Tests.{ltb-true}
use Rattle.limits.specs.Limits.{text_bytes, document_limit}
use Rattle.limits.specs.Refusals.{refusal_number}
use Rattle.limits.specs.declared.Refusal.{Refusal}
use Rattle.limits.specs.declared.Refusal.TheVariants.{NotLoaded, NoSuchFeature, BadOrigin, TooLong, Sandbox, Full, Spent, NotADictionary, Small}
use Rattle.ascii.specs.Literals.{text}
use Rattle.ascii.specs.Decimals.{decimal_text}
use Rattle.ascii.proofs.Decimals.{decimal-short}
use Rattle.writing.proofs.Laws.{puts_whole, puts-after}
use Rattle.decisions.specs.Decisions.Decision.{disabled, enabled}
use Rattle.document_model.specs.Model.{Answer, refused, loaded, removed, decision, features, serials}
use Rattle.replay_answers.specs.Texts.{refused_text, malformed_mark, decision_text, serials_text, beneath_text, answer_text, tidied_text, tidy_text, answer_bytes, Given}
use Rattle.replay_answers.specs.Promises.{Says, SaysOf}

-- words and a number
numbered-short : (w : List ℕ) (n : ℕ) → n < 2 ^ 64 → length (w ++ decimal_text n) ≤ length w + 20
numbered-short w n h = omega (arith, length-append w (decimal_text n), decimal-short n h)

pub refusal-small : (n : Refusal) → refusal_number n < 2 ^ 64
refusal-small = elim [ NotLoaded ↦ omega arith | NoSuchFeature ↦ omega arith | BadOrigin ↦ omega arith | TooLong ↦ omega arith | Sandbox ↦ omega arith | Full ↦ omega arith | Spent ↦ omega arith | NotADictionary ↦ omega arith | Small ↦ omega arith ]

pub refused-short : (n : ℕ) → n < 2 ^ 64 → length (refused_text n) ≤ answer_bytes
unfolding refused_text
refused-short n h = omega (arith, numbered-short (text "refused ") n h)

serials-short : (ns : List ℕ) → ((i : ℕ) → get_or ns i 0 < 2 ^ 64) → length (serials_text ns) ≤ length ns * 21
unfolding serials_text
serials-short [] h = omega arith
serials-short (n ∷ ns) h =
    omega (arith, length-append (text " " ++ decimal_text n) (serials_text ns), numbered-short (text " ") n (h 0), serials-short ns (λ i. h (suc i)))

take-small : (k : ℕ) (ns : List ℕ) → ((i : ℕ) → get_or ns i 0 < 2 ^ 64) → (i : ℕ) → get_or (take k ns) i 0 < 2 ^ 64
take-small zero ns h i = omega arith
take-small (suc k) [] h i = omega arith
take-small (suc k) (n ∷ ns) h zero = h 0
take-small (suc k) (n ∷ ns) h (suc i) = take-small k ns (λ j. h (suc j)) i

pub beneath-short : (n : ℕ) (ns : List ℕ) → n < 2 ^ 64 → length ns ≤ document_limit → ((i : ℕ) → get_or ns i 0 < 2 ^ 64) → length (beneath_text n ns) ≤ answer_bytes
unfolding beneath_text
beneath-short n ns h few each =
    omega (arith, length-append (text "beneath " ++ decimal_text n) (serials_text ns), numbered-short (text "beneath ") n h, serials-short ns each)

pub answer-short : (a : Answer) → Given a → length (answer_text a) ≤ answer_bytes
unfolding answer_text Given malformed_mark decision_text
answer-short (refused n) g = refused-short n g
answer-short (loaded n true) g =
    omega (arith, length-append (text "loaded " ++ decimal_text n) (text " malformed"), numbered-short (text "loaded ") n g)
answer-short (loaded n false) g = omega (arith, length-append (text "loaded " ++ decimal_text n) [], numbered-short (text "loaded ") n g)
answer-short (removed n) g = omega (arith, numbered-short (text "unloaded ") n g)
answer-short (decision enabled) g = omega arith
answer-short (decision disabled) g = omega arith
answer-short (features m) g = omega (arith, numbered-short (text "features ") m g)
answer-short (serials n run) g =
    beneath-short n (take n run) g.0 g.1 (take-small n run g.2)

pub tidied-short : (t : List ℕ) → length t ≤ text_bytes → length (tidied_text t) ≤ answer_bytes
tidied-short t h = omega arith

pub tidy-short : (a : Result ℕ Refusal) (run : List ℕ) → length run ≤ text_bytes → length (tidy_text a run) ≤ answer_bytes
unfolding tidy_text
tidy-short (Ok n) run h = omega (arith, length-take n run)
tidy-short (Err n) run h = refused-short (refusal_number n) (refusal-small n)

-- an answer that shows a lent run within its limit
pub says_of : (limit : ℕ) (run l m : List ℕ) (at r : ℕ) (t : List ℕ) → SaysOf limit run l at t m r → length run ≤ limit → Says l at t m r
says_of limit run l m at r t p h = record { puts = p.puts; short = p.short h }

-- where any answer has room, the whole text stands there, and the answer is the place after it
module _ (l m : List ℕ) (at r : ℕ) (t : List ℕ) (p : Says l at t m r) (h : ltb (at + answer_bytes) (length l) ≡ true) where
  room : at + length t ≤ length l
  room = omega (arith, p.short, ltb-true (at + answer_bytes) (length l) h)

  pub says-whole : m ≡ take at l ++ t ++ drop (at + length t) l
  says-whole = puts_whole l m at r t p.puts room

  pub says-after : r ≡ at + length t
  says-after = puts-after l m at r t p.puts room

-- what the texts of a listing and of tidying are made of
pub listing-text : (n : ℕ) (run : List ℕ) → answer_text (serials n run) ≡ beneath_text n (take n run)
unfolding answer_text
listing-text n run = refl

pub tidied-text : (n : ℕ) (run : List ℕ) → tidy_text (Ok n) run ≡ tidied_text (take n run)
unfolding tidy_text
tidied-text n run = refl

pub tidy-refused : (n : Refusal) (run : List ℕ) → tidy_text (Err n) run ≡ refused_text (refusal_number n)
unfolding tidy_text
tidy-refused n run = refl
