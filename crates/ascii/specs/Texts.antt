-- Texts, as lists of bytes: compared, in lower case, parts, cut.
use Rattle.std.specs.Prelude.{ℕ, ◌+◌, ◌-◌, List, [], ◌∷◌, Bool, true, false, ◌&&◌, length, get_or, take, drop, leb, eqb}
use Rattle.ascii.specs.Bytes.{pick, lower}
use Rattle.ascii.specs.declared.TextRange.{TextRange}

-- whether every element of a list passes a test
unfoldable pub every : {A : Type 0} → (A → Bool) → List A → Bool
every p [] = true
every p (x ∷ xs) = p x && every p xs

-- every byte of a text, changed
unfoldable pub each : (ℕ → ℕ) → List ℕ → List ℕ
each f [] = []
each f (x ∷ xs) = f x ∷ each f xs

-- a text with its letters in ASCII lower case
abbrev pub lowered : List ℕ → List ℕ
lowered s = each lower s

-- whether a text, each byte changed, is another
unfoldable pub same_by : (ℕ → ℕ) → List ℕ → List ℕ → Bool
same_by f [] [] = true
same_by f [] (y ∷ ys) = false
same_by f (x ∷ xs) [] = false
same_by f (x ∷ xs) (y ∷ ys) = pick (eqb (f x) y) (same_by f xs ys) false

-- compared byte for byte
abbrev pub same_bytes : List ℕ → List ℕ → Bool
same_bytes a b = same_by (λ x. x) a b

-- compared ignoring the case of the first
abbrev pub same_lowered : List ℕ → List ℕ → Bool
same_lowered a b = same_by lower a b

-- four bytes from a place on, compared
abbrev pub four_same : List ℕ → List ℕ → ℕ → Bool
four_same a b i =
    eqb (get_or a i 0) (get_or b i 0) && eqb (get_or a (i + 1) 0) (get_or b (i + 1) 0) && eqb (get_or a (i + 2) 0) (get_or b (i + 2) 0) && eqb (get_or a (i + 3) 0) (get_or b (i + 3) 0)

-- the part of a text from a place up to another; empty where that is no part of it
unfoldable pub part_of : List ℕ → ℕ → ℕ → List ℕ
part_of s a e = pick (leb a e && leb e (length s)) (take (e - a) (drop a s)) []

-- the part that a range says
abbrev pub part_in : List ℕ → TextRange → List ℕ
part_in s r = part_of s r.from r.to

-- a byte in front of the first of several texts
unfoldable pub prepended : ℕ → List (List ℕ) → List (List ℕ)
prepended x [] = (x ∷ []) ∷ []
prepended x (t ∷ ts) = (x ∷ t) ∷ ts

-- a text cut at every byte that passes a test
unfoldable pub cut_at : (ℕ → Bool) → List ℕ → List (List ℕ)
cut_at cuts [] = [] ∷ []
cut_at cuts (x ∷ xs) = pick (cuts x) ([] ∷ cut_at cuts xs) (prepended x (cut_at cuts xs))
