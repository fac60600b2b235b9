-- RFC 8941 section 4.2: keys, bare items, parameters, items, read from the front of a text.
use Rattle.std.specs.Prelude.{ℕ, List, [], ◌∷◌, Bool, not, ◌&&◌, ◌||◌, take, leb, eqb}
use Rattle.ascii.specs.Bytes.{pick, is_key_start, is_key_byte, is_token_start, is_token_byte, is_base64, is_text, is_digit, is_space}
use Rattle.ascii.specs.Reading.{Parsed, Step, head_of, head_is, next, skip, let_len, run_of, past, after, mapped, going, turns_of}
use Rattle.ascii.specs.Reading.Parsed.{parsed, malformed}
use Rattle.ascii.specs.Reading.Step.{more, done, fail}

-- an item without its parameters: a token and its text, a string and its text as written between the quotes, or any other bare item
pub data Item : Type 0 where
  token : List ℕ → Item
  string : List ℕ → Item
  other : Item

pub record Parameter : Type 0 where
  pub key : List ℕ
  pub value : Item

-- 4.2.3.3, a key
unfoldable pub key_of : List ℕ → Parsed (List ℕ)
key_of l = pick (head_is is_key_start l) (parsed (run_of is_key_byte l) (past is_key_byte l)) malformed

-- 4.2.6, a token
unfoldable pub token_of : List ℕ → Parsed (List ℕ)
token_of l = pick (head_is is_token_start l) (parsed (run_of is_token_byte l) (past is_token_byte l)) malformed

-- 4.2.8, a boolean: "?" and 0 or 1
abbrev pub is_truth : ℕ → Bool
is_truth b = eqb b 48 || eqb b 49

unfoldable pub boolean_of : List ℕ → Parsed (Unit {0})
boolean_of l =
    pick (eqb (head_of l) 63)
    (next l (λ m. pick (is_truth (head_of m)) (next m (λ n. parsed tt n)) malformed))
    malformed

-- 4.2.7, a byte sequence: the alphabet between two colons
unfoldable pub bytes_of : List ℕ → Parsed (Unit {0})
bytes_of l =
    pick (eqb (head_of l) 58)
    (next l (λ m. skip is_base64 m (λ n. pick (eqb (head_of n) 58) (next n (λ o. parsed tt o)) malformed)))
    malformed

-- 4.2.4, the digits past the "." of a decimal: one to three
unfoldable pub fraction_of : List ℕ → Parsed (Unit {0})
fraction_of l =
    let_len (run_of is_digit l)
    (λ n. skip is_digit l (λ m. pick (eqb n 0) malformed (pick (leb n 3) (parsed tt m) malformed)))

-- 4.2.4, past the sign: an integer has one to fifteen digits, a decimal one to twelve before its "."
unfoldable pub unsigned_of : List ℕ → Parsed (Unit {0})
unsigned_of l =
    let_len (run_of is_digit l)
    (λ n.
    skip is_digit l
    (λ m.
    pick (eqb n 0) malformed
    (pick (eqb (head_of m) 46)
    (pick (leb n 12) (next m (λ o. fraction_of o)) malformed)
    (pick (leb n 15) (parsed tt m) malformed))))

-- 4.2.4, an integer or a decimal
unfoldable pub number_of : List ℕ → Parsed (Unit {0})
number_of l = pick (eqb (head_of l) 45) (next l (λ m. unsigned_of m)) (unsigned_of l)

-- 4.2.5, one character of a string, or its end: "\" stands before a quote or another "\" only
abbrev pub is_escaped : ℕ → Bool
is_escaped b = eqb b 34 || eqb b 92

-- 4.1.6, a character that needs no "\" before it
abbrev pub is_unescaped : ℕ → Bool
is_unescaped b = is_text b && not (is_escaped b)

unfoldable pub string_turn : List ℕ → Step ℕ
string_turn l =
    pick (eqb (head_of l) 92)
    (next l (λ m. pick (is_escaped (head_of m)) (next m (λ n. more (take 2 l) n)) fail))
    (pick (eqb (head_of l) 34) (next l (λ m. done [] m))
    (pick (head_is is_text l) (next l (λ m. more (take 1 l) m)) fail))

-- 4.2.5, a string
unfoldable pub string_of : List ℕ → Parsed (List ℕ)
string_of l = pick (eqb (head_of l) 34) (next l (λ m. turns_of string_turn m)) malformed

-- 4.2.3.1, a bare item: its first byte says which
abbrev pub is_number_start : ℕ → Bool
is_number_start b = eqb b 45 || is_digit b

unfoldable pub bare_of : List ℕ → Parsed Item
bare_of l =
    pick (eqb (head_of l) 34) (mapped string (string_of l))
    (pick (head_is is_token_start l) (mapped token (token_of l))
    (pick (head_is is_number_start l) (mapped (λ u. other) (number_of l))
    (pick (eqb (head_of l) 58) (mapped (λ u. other) (bytes_of l))
    (pick (eqb (head_of l) 63) (mapped (λ u. other) (boolean_of l)) malformed))))

-- 4.2.3.2, one parameter, past its ";": a key alone has the value true
unfoldable pub param_of : List ℕ → Parsed Parameter
param_of l =
    skip is_space l
    (λ m.
    after (key_of m)
    (λ k n.
    pick (eqb (head_of n) 61)
    (next n (λ o. mapped (λ x. record { key = k; value = x }) (bare_of o)))
    (parsed (record { key = k; value = other }) n)))

unfoldable pub param_turn : List ℕ → Step Parameter
param_turn l = pick (eqb (head_of l) 59) (next l (λ m. going (param_of m) (λ p n. more (p ∷ []) n))) (done [] l)

-- 4.2.3.2, parameters, repeated keys kept
unfoldable pub params_of : List ℕ → Parsed (List Parameter)
params_of l = turns_of param_turn l

-- 4.2.3, an item: a bare item and its parameters
unfoldable pub item_of : List ℕ → Parsed Item
item_of l = after (bare_of l) (λ x m. mapped (λ p. x) (params_of m))
