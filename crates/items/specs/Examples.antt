-- Examples of items, by computation.
use Prim.Native.String.{String}
use Rattle.std.specs.Prelude.{◌≡◌, refl, List, [], ◌∷◌, Bool, true, false, ◌&&◌}
use Rattle.ascii.specs.Texts.{every, same_bytes}
use Rattle.ascii.specs.Literals.{text}
use Rattle.ascii.specs.Reading.{Parsed}
use Rattle.ascii.specs.Reading.Parsed.{parsed, malformed}
use Rattle.items.specs.Items.{Item, params_of, item_of}
use Rattle.items.specs.Items.Item.{token, string, other}
use Rattle.items.specs.Computing.{computing}

-- a text, the item that it begins with and what is left; or it begins with none
data Row : Type 0 where
  item : String → Item → String → Row
  no_item : String → Row

abbrev same_item : Item → Item → Bool
same_item (token t) (token u) = same_bytes t u
same_item (string t) (string u) = same_bytes t u
same_item other other = true
same_item (token t) (string u) = false
same_item (token t) other = false
same_item (string t) (token u) = false
same_item (string t) other = false
same_item other (token u) = false
same_item other (string u) = false

abbrev is_read : Item → String → Parsed Item → Bool
is_read x left (parsed y l) = same_item x y && same_bytes l (text left)
is_read x left malformed = false

abbrev is_malformed : Parsed Item → Bool
is_malformed (parsed x l) = false
is_malformed malformed = true

abbrev right : Row → Bool
right (item s x left) = is_read x left (item_of (text s))
right (no_item s) = is_malformed (item_of (text s))

rows : List Row
rows =
    item "-0" other ""
    ∷ item "123456789012345" other ""
    ∷ item "123456789012.123" other ""
    ∷ item "?1" other ""
    ∷ item ":YQ==:" other ""
    ∷ item "::" other ""
    ∷ item ":==a:" other ""
    ∷ item "007" other ""
    ∷ item "1;x;y=1" other ""
    -- no space before a parameter, so the number ends there
    ∷ item "1 ;x" other " ;x"
    -- a second point ends the number
    ∷ item "1.2.3" other ".3"
    ∷ item "a:b/c;q=\"x\";z " (token (text "a:b/c")) " "
    -- a string's text is as written
    ∷ item "\"a\\\"b\"" (string (text "a\\\"b")) ""
    ∷ no_item "-"
    ∷ no_item ".5"
    ∷ no_item "+1"
    ∷ no_item "1."
    ∷ no_item "1.1234"
    ∷ no_item "1234567890123456"
    ∷ no_item "1234567890123.1"
    ∷ no_item "?2"
    ∷ no_item ":*:"
    ∷ no_item ":YQ=="
    ∷ no_item "\"a"
    ∷ no_item "\"\\n\""
    ∷ no_item "\"\u{7f}\""
    ∷ no_item "'b'"
    ∷ no_item "1;X"
    ∷ no_item "1;x=(2)"
    ∷ no_item "1;"
    ∷ no_item ""
    ∷ []

rows_right : every right rows ≡ true
unfolding rows computing
rows_right = refl

-- parameters in order, repeated keys kept
parameters_read : params_of (text ";a=x; b;a=\"y\" ;c") ≡ parsed (record { key = text "a"; value = token (text "x") } ∷ record { key = text "b"; value = other } ∷ record { key = text "a"; value = string (text "y") } ∷ []) (text " ;c")
unfolding computing
parameters_read = refl
