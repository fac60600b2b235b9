-- Texts written as they read: "camera" for its bytes.
use Rattle.std.specs.Prelude.{ℕ, List, [], ◌∷◌}
use Prim.Native.Char.{code}
use Prim.Native.String.{String, [] as no_chars, ◌∷◌ as ◌and_then◌}

-- the bytes of an ASCII text
abbrev pub text : String → List ℕ
text no_chars = []
text (c and_then s) = code c ∷ text s
