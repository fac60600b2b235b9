-- Definitions that read a text are built of these: a reader takes what it reads from the front of a text, and hands on what is left.
use Rattle.std.specs.Prelude.{ℕ, zero, suc, List, [], ◌∷◌, ◌++◌, Bool, true, false, length, drop}
use Rattle.ascii.specs.Bytes.{pick}

-- what was read and what is left of the text; or the text is malformed
pub data Parsed (A : Type 0) : Type 0 where
  parsed : A → List ℕ → Parsed A
  malformed : Parsed A

-- the first byte; 0 where none is left
unfoldable pub head_of : List ℕ → ℕ
head_of [] = 0
head_of (x ∷ xs) = x

unfoldable pub head_is : (ℕ → Bool) → List ℕ → Bool
head_is p l = p (head_of l)

unfoldable pub is_empty : List ℕ → Bool
is_empty [] = true
is_empty (x ∷ xs) = false

-- the first byte is consumed
unfoldable pub next : {A : Type 0} → List ℕ → (List ℕ → A) → A
next l f = f (drop 1 l)

-- the bytes at the front that pass a test, and what stands past them
unfoldable pub run_of : (ℕ → Bool) → List ℕ → List ℕ
run_of p [] = []
run_of p (x ∷ xs) = pick (p x) (x ∷ run_of p xs) []

unfoldable pub past : (ℕ → Bool) → List ℕ → List ℕ
past p [] = []
past p (x ∷ xs) = pick (p x) (past p xs) (x ∷ xs)

unfoldable pub skip : {A : Type 0} → (ℕ → Bool) → List ℕ → (List ℕ → A) → A
skip p l f = f (past p l)

-- how long a run is, by its name
unfoldable pub let_len : {A : Type 0} → List ℕ → (ℕ → A) → A
let_len l f = f (length l)

-- what follows a part that was read
unfoldable pub after : {A B : Type 0} → Parsed A → (A → List ℕ → Parsed B) → Parsed B
after (parsed a l) f = f a l
after malformed f = malformed

-- the same reading, with another value
unfoldable pub mapped : {A B : Type 0} → (A → B) → Parsed A → Parsed B
mapped g (parsed a l) = parsed (g a) l
mapped g malformed = malformed

-- one turn of a repeated part: what it adds, and whether another turn follows
pub data Step (A : Type 0) : Type 0 where
  more : List A → List ℕ → Step A
  done : List A → List ℕ → Step A
  fail : Step A

unfoldable pub going : {A B : Type 0} → Parsed A → (A → List ℕ → Step B) → Step B
going (parsed a l) f = f a l
going malformed f = fail

unfoldable pub adding : {A : Type 0} → List A → Parsed (List A) → Parsed (List A)
adding a (parsed b l) = parsed (a ++ b) l
adding a malformed = malformed

unfoldable pub on_step : {A : Type 0} → Step A → (List ℕ → Parsed (List A)) → Parsed (List A)
on_step (more a l) f = adding a (f l)
on_step (done a l) f = parsed a l
on_step fail f = malformed

-- turns, at most so many
unfoldable pub turns : {A : Type 0} → (List ℕ → Step A) → ℕ → List ℕ → Parsed (List A)
turns f zero l = malformed
turns f (suc n) l = on_step (f l) (λ m. turns f n m)

-- a turn that is followed by another takes at least one byte, so there are no more turns than bytes, and one
abbrev pub turns_of : {A : Type 0} → (List ℕ → Step A) → List ℕ → Parsed (List A)
turns_of f l = turns f (suc (length l)) l
