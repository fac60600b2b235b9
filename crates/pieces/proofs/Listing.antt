-- What words mean, and whether the list that they make admits an origin, in the terms of the code. Assumes nothing.
use Rattle.std.specs.Prelude.{None}
use Rattle.std.specs.Prelude.{Option}
use mathlib.Core.Path.{◌≡◌, refl, ap, ◌∙◌, sym}
use Prim.Native.Nat.{ℕ}
use mathlib.Core.List.{List, [], ◌∷◌, map}
use mathlib.Core.Bool.{Bool, true, false, ◌||◌}
use Rattle.std.specs.Prelude.{Some}
use Rattle.std.specs.List.{list_any}
use lib.ListN.{drop}
use Rattle.ascii.specs.Bytes.{pick}
use Rattle.ascii.specs.Literals.{text}
use Rattle.ascii.specs.Texts.{same_bytes, same_lowered, part_of, part_in}
use Rattle.ascii.specs.declared.TextRange.{TextRange}
use Rattle.ascii.proofs.Clash.{clash}
use Rattle.origins.specs.Origins.{Origin}
use Rattle.origins.specs.Expressions.{SourceExpression, expression_of}
use Rattle.allowlists.specs.Allowlists.{Meaning, source_meaning, allowlist_of, list_admits, meaning_admits}
use Rattle.allowlists.specs.Allowlists.Meaning.{star, self, src, source}
use Rattle.allowlists.specs.Answers.{meaning_as, meaning_in}
use Rattle.allowlists.specs.declared.MeaningRange.{MeaningRange}
use Rattle.allowlists.specs.declared.MeaningRange.TheVariants as range
use Rattle.allowlists.proofs.Meanings.{meaning-in, source_is}
use Rattle.allowlists.proofs.Laws.{empty-admits, list-cons, self-alone, src-alone}
use Rattle.pieces.specs.Pieces.{words, has_keyword}
use Rattle.pieces.specs.Words.{word_meaning, entry_list}
use Rattle.pieces.specs.Answers.{bare_in, words_found, words_in}
use Rattle.pieces.specs.declared.Bare.{Bare}
use Rattle.pieces.specs.declared.Bare.TheVariants as bare

-- a word, test by test
module _ (w : List ℕ) (a : Bool) (u : a ≡ same_bytes w (text "*")) where
  pub word-star : a ≡ true → (Some range.All) ≡ meaning_as (word_meaning w)
  unfolding word_meaning pick
  word-star v = rw (← u, v)

  module _ (v : a ≡ false) (b : Bool) (f : b ≡ same_lowered w (text "'self'")) where
    pub word-self : b ≡ true → (Some range.SelfOrigin) ≡ meaning_as (word_meaning w)
    unfolding word_meaning pick
    word-self x = rw (← u, v, ← f, x)

    module _ (x : b ≡ false) (c : Bool) (g : c ≡ same_lowered w (text "'src'")) where
      pub word-src : c ≡ true → (Some range.SrcOrigin) ≡ meaning_as (word_meaning w)
      unfolding word_meaning pick
      word-src y = rw (← u, v, ← f, x, ← g, y)

      pub word_else : c ≡ false → (r : Option MeaningRange) → r ≡ meaning_as (source_meaning (expression_of w)) → r ≡ meaning_as (word_meaning w)
      unfolding word_meaning pick
      word_else y r h = rw (← u, v, ← f, x, ← g, y) h

-- a word that means an expression is read as it
source-read : (w : List ℕ) (y : SourceExpression) → word_meaning w ≡ source y → expression_of w ≡ Some y
unfolding word_meaning
source-read w y = go (same_bytes w (text "*")) (same_lowered w (text "'self'")) (same_lowered w (text "'src'"))
  where
    go : (a b c : Bool) → pick a star (pick b self (pick c src (source_meaning (expression_of w)))) ≡ source y → expression_of w ≡ Some y
    go true b c e = clash (unfold pick in cc)
    go false true c e = clash (unfold pick in cc)
    go false false true e = clash (unfold pick in cc)
    go false false false e = source_is (expression_of w) y (unfold pick in e)

-- what `meaning` answers, beside the word, says what the word means
pub word_in : (w : List ℕ) (r : Option MeaningRange) → r ≡ meaning_as (word_meaning w) → meaning_in w r ≡ word_meaning w
word_in w r h = rw h (meaning-in w (word_meaning w) (λ y e. source-read w y e))

pub word-admitted : (w : List ℕ) (m : Option MeaningRange) (a b : Bool) (o : Origin) (r : Bool) → m ≡ meaning_as (word_meaning w) → r ≡ meaning_admits (meaning_in w m) a b o → r ≡ meaning_admits (word_meaning w) a b o
word-admitted w m a b o r h is = is ∙ ap (λ (x : Meaning). meaning_admits x a b o) (word_in w m h)

-- whether the list of several words admits an origin
abbrev pub words_admit : List (List ℕ) → Bool → Bool → Origin → Bool
words_admit ws a b o = list_admits (allowlist_of (map word_meaning ws)) a b o

-- the list that words make admits an origin where one of them does
pub any-admits : (ws : List (List ℕ)) (a b : Bool) (o : Origin) → words_admit ws a b o ≡ list_any (λ w. meaning_admits (word_meaning w) a b o) ws
any-admits [] a b o = empty-admits a b o
any-admits (w ∷ ws) a b o = list-cons (word_meaning w) (map word_meaning ws) a b o ∙ ap (λ (t : Bool). meaning_admits (word_meaning w) a b o || t) (any-admits ws a b o)

pub any-keyword : (key : List ℕ) (ws : List (List ℕ)) → has_keyword key ws ≡ list_any (λ w. same_lowered w key) ws
unfolding has_keyword
any-keyword key [] = refl
any-keyword key (w ∷ ws) = ap (λ (t : Bool). same_lowered w key || t) (any-keyword key ws)

-- an entry's list: of its words, or of what no words mean
module _ (s : List ℕ) (e : TextRange) (x : Bare) (l : List ℕ) (part : l ≡ part_of s e.from e.to) (a b : Bool) (o : Origin) (f : Option TextRange) (is : words (drop 0 l) ≡ words_found l f) where
  pub entry-words : (w : TextRange) → f ≡ Some w → (r : Bool) → r ≡ words_admit (words l) a b o → r ≡ list_admits (entry_list (bare_in x) (words_in s e)) a b o
  entry-words w k r h = h ∙ rw (← part) (go (words l) (is ∙ ap (words_found l) k))
    where
      go : (ws : List (List ℕ)) → ws ≡ part_in l w ∷ words (drop w.to l) → words_admit ws a b o ≡ list_admits (entry_list (bare_in x) ws) a b o
      go [] q = clash cc
      go (v ∷ vs) q = unfold entry_list in refl

  no_words : f ≡ None → words_in s e ≡ []
  no_words k = rw (← part) (is ∙ ap (words_found l) k)

  pub entry-self : f ≡ None → x ≡ bare.SelfOrigin → a ≡ list_admits (entry_list (bare_in x) (words_in s e)) a b o
  unfolding entry_list
  entry-self k m = rw (no_words k, m) (sym (self-alone a b o))

  pub entry-src : f ≡ None → x ≡ bare.SrcOrigin → b ≡ list_admits (entry_list (bare_in x) (words_in s e)) a b o
  unfolding entry_list
  entry-src k m = rw (no_words k, m) (sym (src-alone a b o))
