-- A key, a token and a string that are written are read back. Assumes nothing.
use mathlib.Core.Path.{◌≡◌, refl, ap, ◌∙◌, sym}
use Prim.Native.Nat.{ℕ, zero, suc, ◌<◌}
use mathlib.Core.List.{List, [], ◌∷◌, ◌++◌}
use mathlib.Core.Bool.{Bool, true, false, not}
use native.Mathlib.Omega.{arith}
use lib.ListN.{length, length-append}
use lib.Dec.{eqb}
use borrow.Author.Tests.{eqb-true}
use Rattle.ascii.proofs.Clash.{clash}
use Rattle.ascii.specs.Bytes.{pick, is_key_start, is_key_byte, is_token_start, is_token_byte, is_text}
use Rattle.ascii.specs.Texts.{every}
use Rattle.ascii.specs.Reading.{head_of, head_is, next, after, mapped, adding, on_step, turns}
use Rattle.ascii.specs.Reading.Parsed.{parsed}
use Rattle.ascii.proofs.Bytes.{and_left, and_right}
use Rattle.ascii.proofs.Texts.{every-run, every-past}
use Rattle.items.specs.Items.{Item, is_escaped, is_unescaped, key_of, token_of, string_turn, string_of, bare_of, param_turn, params_of, item_of}
use Rattle.items.specs.Items.Item.{token, string}

-- a byte of a class is none that the class lacks
pub differs : (p : ℕ → Bool) (x c : ℕ) → p x ≡ true → p c ≡ false → eqb x c ≡ false
differs p x c h k = go (eqb x c) refl
  where
    go : (b : Bool) → eqb x c ≡ b → b ≡ false
    go true e = sym h ∙ (ap p (eqb-true x c e) ∙ k)
    go false e = refl

-- a text whose first byte is of a class is not empty, so what follows it does not change its first byte
pub starts-on : (p : ℕ → Bool) (t ys : List ℕ) → head_is p t ≡ true → p 0 ≡ false → head_of (t ++ ys) ≡ head_of t
unfolding head_is head_of
starts-on p [] ys h z = clash cc
starts-on p (x ∷ xs) ys h z = refl

-- a key is read whole, and a byte that is not of a key ends it
pub key_back : (k ys : List ℕ) → head_is is_key_start k ≡ true → every is_key_byte k ≡ true → is_key_byte (head_of ys) ≡ false → key_of (k ++ ys) ≡ parsed k ys
unfolding key_of pick head_is
key_back k ys s b e = simp (starts-on is_key_start k ys s refl, s, every-run is_key_byte k ys b e, every-past is_key_byte k ys b e)

-- a byte of a string that needs no escape
module _ (x : ℕ) (h : is_unescaped x ≡ true) where
  is-text : is_text x ≡ true
  is-text = and_left (is_text x) (not (is_escaped x)) h

  no-quote : eqb x 34 ≡ false
  no-quote = differs is_unescaped x 34 h refl

  no-backslash : eqb x 92 ≡ false
  no-backslash = differs is_unescaped x 92 h refl

-- the characters of a string, up to its quote
string-turns : (t ys : List ℕ) (n : ℕ) → every is_unescaped t ≡ true → length t < n → turns string_turn n (t ++ (34 ∷ ys)) ≡ parsed t ys
unfolding every turns on_step adding string_turn head_of head_is pick next
string-turns t ys zero a h = absurd (omega arith)
string-turns [] ys (suc n) a h = refl
string-turns (x ∷ xs) ys (suc n) a h =
    let u : is_unescaped x ≡ true = and_left (is_unescaped x) (every is_unescaped xs) a in
    simp (no-backslash x u, no-quote x u, is-text x u, string-turns xs ys n (and_right (is_unescaped x) (every is_unescaped xs) a) (omega arith))

-- a token, before a byte that is not of one
pub token_back : (t ys : List ℕ) → head_is is_token_start t ≡ true → every is_token_byte t ≡ true → is_token_byte (head_of ys) ≡ false → bare_of (t ++ ys) ≡ parsed (token t) ys
unfolding bare_of token_of pick mapped head_is
token_back t ys s b e = simp (starts-on is_token_start t ys s refl, differs is_token_start (head_of t) 34 s refl, s, every-run is_token_byte t ys b e, every-past is_token_byte t ys b e)

-- a string between its quotes
pub string-back : (t ys : List ℕ) → every is_unescaped t ≡ true → bare_of (34 ∷ (t ++ (34 ∷ ys))) ≡ parsed (string t) ys
unfolding bare_of string_of pick next mapped head_of head_is
string-back t ys a = simp (string-turns t ys (suc (length (t ++ (34 ∷ ys)))) a (simp length-append (omega arith)))

-- no parameters
pub params_none : (ys : List ℕ) → eqb (head_of ys) 59 ≡ false → params_of ys ≡ parsed [] ys
unfolding params_of turns on_step param_turn pick
params_none ys e = rw e

pub bare-item : (l : List ℕ) (x : Item) (ys : List ℕ) → bare_of l ≡ parsed x ys → eqb (head_of ys) 59 ≡ false → item_of l ≡ parsed x ys
unfolding item_of after mapped
bare-item l x ys e h = simp (e, params_none ys h)
