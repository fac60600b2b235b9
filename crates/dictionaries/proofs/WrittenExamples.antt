-- Examples of what is written and read back. Assumes nothing.
use mathlib.Core.Path.{◌≡◌, refl}
use mathlib.Core.List.{List, [], ◌∷◌}
use Rattle.std.specs.Prelude.{Some, None}
use Rattle.ascii.proofs.Clash.{clash}
use Rattle.ascii.specs.Literals.{text}
use Rattle.items.specs.Items.Item.{token, string, other}
use Rattle.dictionaries.specs.Computing.{computing}
use Rattle.dictionaries.specs.Dictionaries.{Plain, members}
use Rattle.dictionaries.specs.Dictionaries.Value.{one, many}
use Rattle.dictionaries.specs.Written.{written, GoodKey, GoodItem, AllGood}
use Rattle.dictionaries.specs.Written.All.{empty, and}
use Rattle.dictionaries.proofs.ReadBack.{written_back}

-- no members: the empty text
none_written : written [] ≡ []
unfolding computing
none_written = refl

none-back : members [] ≡ Some []
unfolding computing
none-back = written_back [] empty

-- three members, their text, and that it is read back
abbrev three : List Plain
three =
    record { key = text "camera"; value = many (token (text "self") ∷ string (text "https://b.example") ∷ []) }
    ∷ record { key = text "forms"; value = one (token (text "*")) }
    ∷ record { key = text "usb"; value = many (token (text "self") ∷ []) }
    ∷ []

three-written : written three ≡ text "camera=(self \"https://b.example\"), forms=*, usb=(self)"
unfolding computing
three-written = refl

self-good : GoodItem (token (text "self"))
unfolding computing
self-good = record { starts = refl; bytes = refl }

any-good : GoodItem (token (text "*"))
unfolding computing
any-good = record { starts = refl; bytes = refl }

origin-good : GoodItem (string (text "https://b.example"))
unfolding computing
origin-good = refl

three-good : AllGood three
unfolding computing
three-good =
    and (record { key = record { starts = refl; bytes = refl }; value = and self-good (and origin-good empty) })
    (and (record { key = record { starts = refl; bytes = refl }; value = any-good })
    (and (record { key = record { starts = refl; bytes = refl }; value = and self-good empty }) empty))

three_back : members (text "camera=(self \"https://b.example\"), forms=*, usb=(self)") ≡ Some three
three_back = rw three-written at (written_back three three-good)

-- empty lists, an empty string, and a repeated key: `a=(), *=(""), a=b`
abbrev small : List Plain
small =
    record { key = text "a"; value = many [] }
    ∷ record { key = text "*"; value = many (string [] ∷ []) }
    ∷ record { key = text "a"; value = one (token (text "b")) }
    ∷ []

small-written : written small ≡ text "a=(), *=(\"\"), a=b"
unfolding computing
small-written = refl

small-back : members (written small) ≡ Some small
unfolding computing
small-back =
    written_back small
    (and (record { key = record { starts = refl; bytes = refl }; value = empty })
    (and (record { key = record { starts = refl; bytes = refl }; value = and refl empty })
    (and (record { key = record { starts = refl; bytes = refl }; value = record { starts = refl; bytes = refl } }) empty)))

-- what cannot be written: no key and no token is empty, a key has no upper-case letter, a string's text no quote, and no other item is written
no-empty-key : GoodKey [] → ⊥
unfolding computing
no-empty-key g = clash (cc g.starts)

no-upper-key : GoodKey (text "usB") → ⊥
unfolding computing
no-upper-key g = clash (cc g.bytes)

no-empty-token : GoodItem (token []) → ⊥
unfolding computing
no-empty-token g = clash (cc g.starts)

no-quote-inside : GoodItem (string (text "a\"b")) → ⊥
unfolding computing
no-quote-inside g = clash (cc g)

no_other : GoodItem other → ⊥
no_other g = g

-- a string with a quote inside is not read back: `a=("b"c")`
quote-not-back : members (written (record { key = text "a"; value = many (string (text "b\"c") ∷ []) } ∷ [])) ≡ None
unfolding computing
quote-not-back = refl
