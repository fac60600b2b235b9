-- 01, "Header and attribute": what the words of an entry mean, and the allowlist that they make.
use Rattle.std.specs.Prelude.{ℕ, List, [], ◌∷◌, map}
use Rattle.ascii.specs.Bytes.{pick}
use Rattle.ascii.specs.Literals.{text}
use Rattle.ascii.specs.Texts.{same_bytes, same_lowered}
use Rattle.origins.specs.Expressions.{expression_of}
use Rattle.allowlists.specs.Allowlists.{Allowlist, Meaning, source_meaning, allowlist_of}
use Rattle.allowlists.specs.Allowlists.Meaning.{star, self, src}

-- "A word `*` makes the list `*`"; "`'self'` is the container's origin and `'src'` the declared origin, case ignored; expressions count; everything else, `'none'` included, adds nothing"
unfoldable pub word_meaning : List ℕ → Meaning
word_meaning w =
    pick (same_bytes w (text "*")) star
    (pick (same_lowered w (text "'self'")) self
    (pick (same_lowered w (text "'src'")) src (source_meaning (expression_of w))))

-- the list of an entry, told what no further words mean
unfoldable pub entry_list : Meaning → List (List ℕ) → Allowlist
entry_list bare [] = allowlist_of (bare ∷ [])
entry_list bare (w ∷ ws) = allowlist_of (map word_meaning (w ∷ ws))
