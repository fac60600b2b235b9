-- The bytes of a text in two numbers; they tell a text of 4 to 16 bytes from every other of its length.
use Rattle.std.specs.Prelude.{ℕ, ◌+◌, ◌-◌, ◌*◌, min, List, length, get_or}

-- four bytes from a place on as one number, little-endian
abbrev pub four_at : List ℕ → ℕ → ℕ
four_at s i = get_or s i 0 + 256 * (get_or s (i + 1) 0 + 256 * (get_or s (i + 2) 0 + 256 * get_or s (i + 3) 0))

-- the first four bytes, and the next four or, in a text of fewer than eight, the last four
abbrev pub front_of : List ℕ → ℕ
front_of s = four_at s 0 + 4294967296 * four_at s (min 4 (length s - 4))

-- the third four bytes or, in a text of fewer than twelve, the last four; and the last four
abbrev pub back_of : List ℕ → ℕ
back_of s = four_at s (min 8 (length s - 4)) + 4294967296 * four_at s (length s - 4)
