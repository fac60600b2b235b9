-- Bytes, as numbers: their classes and ASCII case.
use Rattle.std.specs.Prelude.{ℕ, ◌+◌, Bool, true, false, not, ◌||◌, ◌&&◌, leb, eqb}

-- a choice by a test
unfoldable pub pick : {A : Type 0} → Bool → A → A → A
pick true a b = a
pick false a b = b

abbrev pub within : ℕ → ℕ → ℕ → Bool
within low high b = leb low b && leb b high

-- RFC 5234 appendix B.1: DIGIT, ALPHA and its two halves
abbrev pub is_digit : ℕ → Bool
is_digit b = within 48 57 b

abbrev pub is_upper : ℕ → Bool
is_upper b = within 65 90 b

abbrev pub is_lower : ℕ → Bool
is_lower b = within 97 122 b

abbrev pub is_alpha : ℕ → Bool
is_alpha b = is_upper b || is_lower b

-- RFC 8941 section 3.1.2, the start of a key: lcalpha / "*"
abbrev pub is_key_start : ℕ → Bool
is_key_start b = is_lower b || eqb b 42

-- and the rest of it: lcalpha / DIGIT / "_" / "-" / "." / "*"
abbrev pub is_key_byte : ℕ → Bool
is_key_byte b = is_lower b || is_digit b || eqb b 95 || eqb b 45 || eqb b 46 || eqb b 42

-- RFC 8941 section 3.3.4, the start of a token: ALPHA / "*"
abbrev pub is_token_start : ℕ → Bool
is_token_start b = is_alpha b || eqb b 42

-- and the rest of it: tchar / ":" / "/"
abbrev pub is_token_byte : ℕ → Bool
is_token_byte b =
    is_alpha b || is_digit b || eqb b 33 || within 35 39 b || eqb b 42 || eqb b 43 || within 45 47 b || eqb b 58 || within 94 96 b || eqb b 124 || eqb b 126

-- RFC 8941 section 3.3.5: ALPHA / DIGIT / "+" / "/" / "="
abbrev pub is_base64 : ℕ → Bool
is_base64 b = is_alpha b || is_digit b || eqb b 43 || eqb b 47 || eqb b 61

-- RFC 8941 section 4.2.5: a character of a string is in 0x20 to 0x7e
abbrev pub is_text : ℕ → Bool
is_text b = within 32 126 b

-- 01, "Origins and expressions": "lower-case letters, digits and hyphens"
abbrev pub is_label_byte : ℕ → Bool
is_label_byte b = is_lower b || is_digit b || eqb b 45

-- RFC 8941: SP, and its OWS, spaces and tabs
abbrev pub is_space : ℕ → Bool
is_space b = eqb b 32

abbrev pub is_blank : ℕ → Bool
is_blank b = eqb b 32 || eqb b 9

-- 01, "Header and attribute": "tabs, line feeds, form feeds, returns and spaces"
abbrev pub is_white : ℕ → Bool
is_white b = eqb b 9 || eqb b 10 || eqb b 12 || eqb b 13 || eqb b 32

-- the bytes that don't pass a test
abbrev pub outside : (ℕ → Bool) → ℕ → Bool
outside p b = not (p b)

-- ASCII lower case
unfoldable pub lower : ℕ → ℕ
lower b = pick (is_upper b) (b + 32) b
