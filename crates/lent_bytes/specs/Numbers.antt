-- Numbers in lent bytes: four bytes each, the lowest first.
use Rattle.std.specs.Prelude.{ℕ, ◌+◌, ◌*◌, ◌/◌, ◌%◌, List, [], ◌∷◌, ◌++◌, get_or, take, drop}
use Rattle.writing.specs.Writing.{with_text}

-- two bytes as a number, the lower first
abbrev pub word : ℕ → ℕ → ℕ
word x y = x + 256 * y

-- the number at a place; a byte past the end counts as 0
unfoldable pub number_at : List ℕ → ℕ → ℕ
number_at d i = word (get_or d i 0) (get_or d (i + 1) 0) + 65536 * word (get_or d (i + 2) 0) (get_or d (i + 3) 0)

-- the bytes of a number
unfoldable pub bytes_of : ℕ → List ℕ
bytes_of x = x % 256 ∷ x / 256 % 256 ∷ x / 65536 % 256 ∷ x / 16777216 ∷ []

-- so many bytes from a place on
abbrev pub bytes_at : List ℕ → ℕ → ℕ → List ℕ
bytes_at d i n = take n (drop i d)

-- a run with a number put at a place
abbrev pub with_number : List ℕ → ℕ → ℕ → List ℕ
with_number run at x = with_text run at (bytes_of x)

-- the numbers that stand one after the other
unfoldable pub numbers_in : List ℕ → List ℕ
numbers_in [] = []
numbers_in (a ∷ []) = []
numbers_in (a ∷ b ∷ []) = []
numbers_in (a ∷ b ∷ c ∷ []) = []
numbers_in (a ∷ b ∷ c ∷ d ∷ l) = (word a b + 65536 * word c d) ∷ numbers_in l

-- and their bytes
unfoldable pub number_bytes : List ℕ → List ℕ
number_bytes [] = []
number_bytes (x ∷ l) = bytes_of x ++ number_bytes l
