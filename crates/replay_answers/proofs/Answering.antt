-- The texts of answers, arm by arm, as the code puts them. Assumes nothing.
use Rattle.decisions.specs.declared.Decision.TheVariants as verdict
use Rattle.decisions.specs.declared.Decision.{Decision}
use Rattle.std.specs.Prelude.{Result, Ok, Err}
use mathlib.Core.Path.{◌≡◌, refl, sym}
use Prim.Native.Nat.{ℕ, ◌+◌, ◌-◌, ◌^◌, ◌≤◌, ◌<◌}
use mathlib.Core.Bool.{Bool, true, false}
use mathlib.Core.List.{List, [], ◌∷◌, ◌++◌, append_assoc, append-nil}
use native.Mathlib.Omega.{arith}
use native.Mathlib.Numerals.{add-one}
use lib.Dec.{ltb}
use borrow.Author.Tests.{le-ltb, lt-ltb, ltb-true, ltb-false}
use lib.ListN.{length, get_or, take, length-take}
use lib.Seq.{take_all, take-suc}
use Rattle.limits.specs.Limits.{text_bytes, document_limit}
use Rattle.limits.specs.Refusals.{refusal_number}
use Rattle.limits.specs.declared.Refusal.{Refusal}
use Rattle.ascii.specs.Literals.{text}
use Rattle.ascii.specs.Decimals.{decimal_text}
use Rattle.writing.specs.Writing.{Puts}
use Rattle.writing.proofs.Laws.{puts-on, puts-ended}
use Rattle.document_model.specs.Model.{loaded, removed, features}
use Rattle.documents.specs.Answers.{question_in, features_in, load_in, unload_in, listing_in}
use Rattle.documents.specs.declared.LoadedDocument.{LoadedDocument}
use Rattle.replay_answers.specs.Texts.{refused_text, malformed_mark, decision_text, serials_text, beneath_text, answer_text, tidy_text, Given}
use Rattle.replay_answers.specs.Promises.{Says, SaysOf, Numbers}
use Rattle.replay_answers.proofs.Laws.{refusal-small, refused-short, answer-short, beneath-short, tidy-short}

-- words and a number
pub numbers : (l k m : List ℕ) (at o r : ℕ) (w : List ℕ) (n : ℕ) → n < 2 ^ 64 → Puts l at w k o → Puts k o (decimal_text n) m r → Numbers l at w n m r
numbers l k m at o r w n h p q = record { puts = puts-on l k at o w p m (decimal_text n) r q; small = h }

module _ (l m : List ℕ) (at r n : ℕ) where
  pub refused_says : (x : Refusal) → n ≡ refusal_number x → Numbers l at (text "refused ") n m r → Says l at (refused_text (refusal_number x)) m r
  unfolding refused_text
  refused_says x e p = record { puts = rw e at p.puts; short = refused-short (refusal_number x) (refusal-small x) }

  pub unload-removed : (a : Result ℕ Refusal) → a ≡ Ok n → Numbers l at (text "unloaded ") n m r → Says l at (answer_text (unload_in a)) m r
  unfolding answer_text Given
  unload-removed a e p = rw e (record { puts = p.puts; short = answer-short (removed n) p.small })

  pub features-says : (a : Result ℕ Refusal) → a ≡ Ok n → Numbers l at (text "features ") n m r → Says l at (answer_text (features_in a)) m r
  unfolding answer_text Given
  features-says a e p = rw e (record { puts = p.puts; short = answer-short (features n) p.small })

-- a refusal, whatever was called
module _ (l m : List ℕ) (at r : ℕ) (x : Refusal) (p : Says l at (refused_text (refusal_number x)) m r) where
  pub load-refused : (a : Result LoadedDocument Refusal) → a ≡ Err x → Says l at (answer_text (load_in a)) m r
  unfolding answer_text
  load-refused a e = rw e p

  pub unload-refused : (a : Result ℕ Refusal) → a ≡ Err x → Says l at (answer_text (unload_in a)) m r
  unfolding answer_text
  unload-refused a e = rw e p

  pub question-refused : (a : Result Decision Refusal) → a ≡ Err x → Says l at (answer_text (question_in a)) m r
  unfolding answer_text
  question-refused a e = rw e p

  pub features-refused : (a : Result ℕ Refusal) → a ≡ Err x → Says l at (answer_text (features_in a)) m r
  unfolding answer_text
  features-refused a e = rw e p

  pub listing-refused : (a : Result ℕ Refusal) (run : List ℕ) → a ≡ Err x → SaysOf document_limit run l at (answer_text (listing_in a run)) m r
  unfolding answer_text
  listing-refused a run e = rw e (record { puts = p.puts; short = λ h. p.short })

  pub tidy-refused : (a : Result ℕ Refusal) (run : List ℕ) → a ≡ Err x → SaysOf text_bytes run l at (tidy_text a run) m r
  unfolding tidy_text
  tidy-refused a run e = rw e (record { puts = p.puts; short = λ h. p.short })

-- a question
module _ (l m : List ℕ) (at r : ℕ) (a : Result Decision Refusal) where
  pub question-enabled : a ≡ Ok verdict.Enabled → Puts l at (text "Enabled") m r → Says l at (answer_text (question_in a)) m r
  unfolding answer_text decision_text
  question-enabled e p = rw e (record { puts = p; short = omega arith })

  pub question-disabled : a ≡ Ok verdict.Disabled → Puts l at (text "Disabled") m r → Says l at (answer_text (question_in a)) m r
  unfolding answer_text decision_text
  question-disabled e p = rw e (record { puts = p; short = omega arith })

-- a load
module _ (l k m : List ℕ) (at o r : ℕ) (a : Result LoadedDocument Refusal) (d : LoadedDocument) (e : a ≡ Ok d) (p : Numbers l at (text "loaded ") d.serial k o) where
  pub load-good : d.malformed ≡ false → Says l at (answer_text (load_in a)) k o
  unfolding answer_text malformed_mark Given
  load-good f = rw (e, f) (record { puts = rw (append-nil (decimal_text d.serial)) p.puts; short = answer-short (loaded d.serial false) p.small })

  pub load-malformed : d.malformed ≡ true → Puts k o (text " malformed") m r → Says l at (answer_text (load_in a)) m r
  unfolding answer_text malformed_mark Given
  load-malformed f q =
      rw (e, f)
      (record { puts = puts-on l k at o (text "loaded " ++ decimal_text d.serial) p.puts m (text " malformed") r q; short = answer-short (loaded d.serial true) p.small })

-- serials, one after the other
serials-append : (ns ms : List ℕ) → serials_text (ns ++ ms) ≡ serials_text ns ++ serials_text ms
unfolding serials_text
serials-append [] ms = refl
serials-append (n ∷ ns) ms = rw (serials-append ns ms) (sym (append_assoc (text " " ++ decimal_text n) (serials_text ns) (serials_text ms)))

serials-one : (n : ℕ) → serials_text (n ∷ []) ≡ text " " ++ decimal_text n
unfolding serials_text
serials-one n = append-nil (text " " ++ decimal_text n)

pub serials-none : (l m : List ℕ) (at o : ℕ) (w : List ℕ) (n : ℕ) → Numbers l at w n m o → Puts m o (serials_text []) m o
unfolding serials_text
serials-none l m at o w n p = puts-ended l m at o (w ++ decimal_text n) p.puts

module _ (l m : List ℕ) (at o : ℕ) (ns : List ℕ) (i : ℕ) where
  pub serials-more : (k : List ℕ) (r : ℕ) → i < length ns → Puts l at (serials_text (take i ns)) m o → Numbers m o (text " ") (get_or ns i 0) k r → Puts l at (serials_text (take (i + 1) ns)) k r
  serials-more k r h p q =
      rw (add-one, take-suc ns i 0 h, serials-append (take i ns) (get_or ns i 0 ∷ []), serials-one (get_or ns i 0))
      (puts-on l m at o (serials_text (take i ns)) p k (text " " ++ decimal_text (get_or ns i 0)) r q.puts)

  pub serials-all : (z : List ℕ) (from n : ℕ) → ((j : ℕ) → get_or ns j 0 < 2 ^ 64) → length ns ≤ i → Numbers z from (text "beneath ") n l at → Puts l at (serials_text (take i ns)) m o → SaysOf document_limit ns z from (beneath_text n ns) m o
  unfolding beneath_text
  serials-all z from n each h p q =
      record { puts = puts-on z l from at (text "beneath " ++ decimal_text n) p.puts m (serials_text ns) o (rw (take_all i ns h) at q); short = λ g. beneath-short n ns p.small g each }

-- a listing
module _ (l m : List ℕ) (at r n : ℕ) (a : Result ℕ Refusal) (e : a ≡ Ok n) (run : List ℕ) where
  pub listing-whole : length run ≤ n → SaysOf document_limit run l at (beneath_text n run) m r → SaysOf document_limit run l at (answer_text (listing_in a run)) m r
  unfolding answer_text
  listing-whole h p = rw (e, take_all n run h) p

  pub listing-front : SaysOf document_limit (take n run) l at (beneath_text n (take n run)) m r → SaysOf document_limit run l at (answer_text (listing_in a run)) m r
  unfolding answer_text
  listing-front p = rw e (record { puts = p.puts; short = λ h. p.short (omega (arith, length-take n run)) })

-- a tidied form
module _ (l m k : List ℕ) (at o r n : ℕ) (a : Result ℕ Refusal) (e : a ≡ Ok n) (run : List ℕ) (p : Puts l at (text "tidied ") k o) where
  pub tidy-front : Puts k o (take n run) m r → SaysOf text_bytes run l at (tidy_text a run) m r
  unfolding tidy_text
  tidy-front q = rw e (record { puts = puts-on l k at o (text "tidied ") p m (take n run) r q; short = tidy-short (Ok n) run })

  pub tidy-whole : length run ≤ n → Puts k o run m r → SaysOf text_bytes run l at (tidy_text a run) m r
  tidy-whole h q = tidy-front (rw (take_all n run h) q)

-- the test for room: the code subtracts
module _ (n at k : ℕ) where
  pub room-none : n < at → false ≡ ltb (at + k) n
  room-none h = sym (le-ltb (at + k) n (omega arith))

  pub room-left : at ≤ n → ltb k (n - at) ≡ ltb (at + k) n
  room-left h = go (ltb k (n - at)) refl
    where
      go : (b : Bool) → ltb k (n - at) ≡ b → b ≡ ltb (at + k) n
      go true e = sym (lt-ltb (at + k) n (omega (arith, ltb-true k (n - at) e)))
      go false e = sym (le-ltb (at + k) n (omega (arith, ltb-false k (n - at) e)))

pub ruleset loads = (load-refused, load-good, load-malformed)

pub ruleset unloads = (unload-refused, unload-removed)

pub ruleset questions = (question-refused, question-enabled, question-disabled)

pub ruleset masks = (features-refused, features-says)

pub ruleset listings = (listing-refused, listing-whole, listing-front)

pub ruleset tidies = (tidy-refused, tidy-whole, tidy-front)
