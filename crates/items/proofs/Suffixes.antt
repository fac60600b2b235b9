-- What is left past an item is the end of the text, and shorter than it. Assumes nothing.
use mathlib.Core.Path.{◌≡◌, refl, ap}
use Prim.Native.Nat.{ℕ, suc, ◌<◌}
use mathlib.Core.List.{List, [], ◌∷◌}
use mathlib.Core.Bool.{Bool, true, false}
use native.Mathlib.Omega.{arith}
use lib.ListN.{length, length-append}
use lib.Dec.{eqb, leb}
use borrow.Author.Tests.{eqb-false}
use Rattle.ascii.proofs.Clash.{clash}
use Rattle.ascii.specs.Bytes.{pick, is_token_start, is_token_byte, is_digit, is_base64}
use Rattle.ascii.specs.Reading.{Parsed, head_of, head_is, next, skip, let_len, run_of, past, after, mapped, turns}
use Rattle.ascii.specs.Reading.Parsed.{parsed, malformed}
use Rattle.ascii.proofs.Reading.{run-cut, token-starts}
use Rattle.ascii.proofs.Suffixes.{Suffix, Ends, StepEnds, suffix-length, suffix-past, ends-wide, ends-turns, suffixes}
use Rattle.items.specs.Items.{Item, key_of, token_of, is_truth, string_turn, string_of, fraction_of, unsigned_of, number_of, bytes_of, boolean_of, bare_of, param_of, param_turn, params_of, item_of}

-- each reader leaves an end of its text
pub key-ends : (l : List ℕ) → Ends l (key_of l)
unfolding key_of
key-ends l = search suffixes

token-ends : (l : List ℕ) → Ends l (token_of l)
unfolding token_of
token-ends l = search suffixes

boolean-ends : (l : List ℕ) → Ends l (boolean_of l)
unfolding boolean_of
boolean-ends l = search suffixes depth 9

bytes-ends : (l : List ℕ) → Ends l (bytes_of l)
unfolding bytes_of
bytes-ends l = search suffixes depth 9

fraction-ends : (l : List ℕ) → Ends l (fraction_of l)
unfolding fraction_of
fraction-ends l = search suffixes depth 9

fraction-in : (k l : List ℕ) → Suffix k l → Ends l (fraction_of k)
fraction-in k l h = ends-wide l k (fraction_of k) h (fraction-ends k)

unsigned-ends : (l : List ℕ) → Ends l (unsigned_of l)
unfolding unsigned_of
unsigned-ends l = search (suffixes, fraction-in) depth 9

unsigned-in : (k l : List ℕ) → Suffix k l → Ends l (unsigned_of k)
unsigned-in k l h = ends-wide l k (unsigned_of k) h (unsigned-ends k)

number-ends : (l : List ℕ) → Ends l (number_of l)
unfolding number_of
number-ends l = search (suffixes, unsigned-in) depth 9

string-turn-ends : (l : List ℕ) → StepEnds l (string_turn l)
unfolding string_turn
string-turn-ends l = search suffixes depth 9

string-rest-in : (k l : List ℕ) (n : ℕ) → Suffix k l → Ends l (turns string_turn n k)
string-rest-in k l n h = ends-wide l k (turns string_turn n k) h (ends-turns string_turn string-turn-ends n k)

string-ends : (l : List ℕ) → Ends l (string_of l)
unfolding string_of
string-ends l = search (suffixes, string-rest-in) depth 9

pub bare_ends : (l : List ℕ) → Ends l (bare_of l)
unfolding bare_of
bare_ends l = search (suffixes, string-ends, token-ends, number-ends, bytes-ends, boolean-ends) depth 9

bare-in : (k l : List ℕ) → Suffix k l → Ends l (bare_of k)
bare-in k l h = ends-wide l k (bare_of k) h (bare_ends k)

key_in : (k l : List ℕ) → Suffix k l → Ends l (key_of k)
key_in k l h = ends-wide l k (key_of k) h (key-ends k)

param-ends : (l : List ℕ) → Ends l (param_of l)
unfolding param_of
param-ends l = search (suffixes, key_in, bare-in) depth 9

param_in : (k l : List ℕ) → Suffix k l → Ends l (param_of k)
param_in k l h = ends-wide l k (param_of k) h (param-ends k)

param-turn-ends : (l : List ℕ) → StepEnds l (param_turn l)
unfolding param_turn
param-turn-ends l = search (suffixes, param_in) depth 9

pub params-ends : (l : List ℕ) → Ends l (params_of l)
unfolding params_of
params-ends l = ends-turns param_turn param-turn-ends (suc (length l)) l

pub params_in : (k l : List ℕ) → Suffix k l → Ends l (params_of k)
params_in k l h = ends-wide l k (params_of k) h (params-ends k)

pub item-ends : (l : List ℕ) → Ends l (item_of l)
unfolding item_of
item-ends l = search (suffixes, bare_ends, params_in) depth 9

-- a reading that takes at least one byte of l
pub record Shrinks {A : Type 0} (l : List ℕ) (g : Parsed A) : Type 0 where
  pub shorter : (a : A) (m : List ℕ) → g ≡ parsed a m → length m < length l

module _ {A : Type 0} (l : List ℕ) where
  shrinks-malformed : Shrinks {A = A} l malformed
  shrinks-malformed = record { shorter = λ a n e. clash cc }

  shrinks-pick : (b : Bool) (x y : Parsed A) → Shrinks l x → Shrinks l y → Shrinks l (pick b x y)
  unfolding pick
  shrinks-pick true x y h k = h
  shrinks-pick false x y h k = k

  shrinks-mapped : {B : Type 0} (h : B → A) (g : Parsed B) → Shrinks l g → Shrinks l (mapped h g)
  unfolding mapped
  shrinks-mapped h (parsed x m) e = record { shorter = λ a n u. let w : m ≡ n = cc in rw w at (e.shorter x m refl) }
  shrinks-mapped h malformed e = shrinks-malformed

  shrinks-wide : (k : List ℕ) (g : Parsed A) → length k < length l → Ends k g → Shrinks l g
  shrinks-wide k g h e = record { shorter = λ a m u. omega (arith, suffix-length (e.ends a m u)) }

-- a reading that starts with a certain byte
head-shrinks : {A : Type 0} (c : ℕ) → eqb 0 c ≡ false → (f : List ℕ → Parsed A) (y : Parsed A) → ((m : List ℕ) → Ends m (f m)) → (l : List ℕ) → Shrinks l y → Shrinks l (pick (eqb (head_of l) c) (next l f) y)
unfolding head_of next pick
head-shrinks c z f y e [] h = rw z h
head-shrinks c z f y e (x ∷ xs) h = shrinks-pick (x ∷ xs) (eqb x c) (f xs) y (shrinks-wide (x ∷ xs) xs (f xs) (omega arith) (e xs)) h

string-shrinks : (l : List ℕ) → Shrinks l (string_of l)
unfolding string_of
string-shrinks l = head-shrinks 34 refl (λ m. turns string_turn (suc (length m)) m) malformed (λ m. ends-turns string_turn string-turn-ends (suc (length m)) m) l (shrinks-malformed l)

bytes-shrinks : (l : List ℕ) → Shrinks l (bytes_of l)
unfolding bytes_of
bytes-shrinks l = head-shrinks 58 refl (λ m. skip is_base64 m (λ n. pick (eqb (head_of n) 58) (next n (λ o. parsed (tt {0}) o)) malformed)) malformed (λ m. search suffixes depth 9) l (shrinks-malformed l)

boolean-shrinks : (l : List ℕ) → Shrinks l (boolean_of l)
unfolding boolean_of
boolean-shrinks l = head-shrinks 63 refl (λ m. pick (is_truth (head_of m)) (next m (λ n. parsed (tt {0}) n)) malformed) malformed (λ m. search suffixes depth 9) l (shrinks-malformed l)

digits-rest : ℕ → List ℕ → Parsed (Unit {0})
digits-rest n m = pick (eqb (head_of m) 46) (pick (leb n 12) (next m (λ o. fraction_of o)) malformed) (pick (leb n 15) (parsed tt m) malformed)

digits-rest-ends : (n : ℕ) (m : List ℕ) → Ends m (digits-rest n m)
unfolding digits-rest
digits-rest-ends n m = search (suffixes, fraction-in) depth 9

digits-shrink : (l : List ℕ) (b : Bool) → eqb (length (run_of is_digit l)) 0 ≡ b → Shrinks l (pick b malformed (digits-rest (length (run_of is_digit l)) (past is_digit l)))
unfolding pick
digits-shrink l true e = shrinks-malformed l
digits-shrink l false e =
    let n : length (run_of is_digit l) ≡ 0 → ⊥ = eqb-false (length (run_of is_digit l)) 0 e in
    shrinks-wide l (past is_digit l) (digits-rest (length (run_of is_digit l)) (past is_digit l))
    (omega (arith, n, ap length (run-cut is_digit l), length-append (run_of is_digit l) (past is_digit l)))
    (digits-rest-ends (length (run_of is_digit l)) (past is_digit l))

unsigned-shrinks : (l : List ℕ) → Shrinks l (unsigned_of l)
unfolding unsigned_of let_len skip digits-rest
unsigned-shrinks l = digits-shrink l (eqb (length (run_of is_digit l)) 0) refl

number-shrinks : (l : List ℕ) → Shrinks l (number_of l)
unfolding number_of
number-shrinks l = head-shrinks 45 refl (λ m. unsigned_of m) (unsigned_of l) (λ m. unsigned-ends m) l (unsigned-shrinks l)

token-shrinks : (l : List ℕ) → Shrinks l (token_of l)
unfolding token_of head_is head_of past pick
token-shrinks [] = shrinks-malformed []
token-shrinks (x ∷ xs) = go (is_token_start x) refl
  where
    go : (b : Bool) → is_token_start x ≡ b → Shrinks (x ∷ xs) (pick b (parsed (run_of is_token_byte (x ∷ xs)) (pick (is_token_byte x) (past is_token_byte xs) (x ∷ xs))) malformed)
    go true e = rw (token-starts x e) (record { shorter = λ a n u. let w : past is_token_byte xs ≡ n = cc in omega (arith, suffix-length (suffix-past is_token_byte xs), ap length w) })
    go false e = shrinks-malformed (x ∷ xs)

pub bare-shrinks : (l : List ℕ) → Shrinks l (bare_of l)
unfolding bare_of
bare-shrinks l = search (shrinks-pick, shrinks-mapped, shrinks-malformed, string-shrinks, token-shrinks, number-shrinks, bytes-shrinks, boolean-shrinks) depth 9

pub item-shrinks : (l : List ℕ) → Shrinks l (item_of l)
unfolding item_of
item-shrinks l = go (bare_of l) (bare-shrinks l)
  where
    go : (g : Parsed Item) → Shrinks l g → Shrinks l (after g (λ x m. mapped (λ p. x) (params_of m)))
    go = unfold after in (elim [ parsed x m ↦ λ h. shrinks-mapped l (λ p. x) (params_of m) (shrinks-wide l m (params_of m) (h.shorter x m refl) (params-ends m)) | malformed ↦ λ h. shrinks-malformed l ])
