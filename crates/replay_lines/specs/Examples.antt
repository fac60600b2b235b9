-- Lines of the replay format, good and bad ones, by computation.
use Prim.Native.String.{String}
use Rattle.std.specs.Prelude.{◌≡◌, refl, List, [], ◌∷◌, ◌++◌, map, Bool, true, false}
use Rattle.ascii.specs.Literals.{text}
use Rattle.ascii.specs.Texts.{every}
use Rattle.containers.specs.Attributes.{Attributes}
use Rattle.replay_lines.specs.Format.{Text, Line, line_of}
use Rattle.replay_lines.specs.Format.Line.{top, frame, unload, ask, enabled, beneath, forecast, tidy, bad_line}
use Rattle.replay_lines.specs.Reading.{new_reading, read_on, line_from}
use Rattle.replay_lines.specs.Computing.{computing}

-- fields, with a TAB between each two
abbrev tabbed : String → List String → Text
tabbed f [] = text f
tabbed f (g ∷ gs) = text f ++ (9 ∷ tabbed g gs)

abbrev attributes : String → Bool → String → Bool → String → Attributes
attributes src fullscreen allow stands sandbox =
    record { allow = text allow; allowfullscreen = fullscreen; has_sandbox = stands; sandbox = text sandbox; src = text src }

-- a line's fields, and the call that it is
pub record Row : Type 0 where
  pub name : String
  pub others : List String
  pub call : Line

abbrev row : String → List String → Line → Row
row name others call = record { name = name; others = others; call = call }

abbrev rows : List Row
rows =
    row "top" ("https://a.example" ∷ "camera=()" ∷ []) (top (text "https://a.example") (text "camera=()"))
    ∷ row "top" ("" ∷ "" ∷ []) (top [] [])
    ∷ row "top" ("%6eull" ∷ "a%09b%0A%25%fF" ∷ []) (top (text "null") (97 ∷ 9 ∷ 98 ∷ 10 ∷ 37 ∷ 255 ∷ []))
    ∷ row "frame" ("1" ∷ "null" ∷ "https://b" ∷ "1" ∷ "camera" ∷ "1allow-%73" ∷ "usb=*" ∷ [])
    (frame 1 (text "null") (attributes "https://b" true "camera" true "allow-s") (text "usb=*"))
    ∷ row "frame" ("0" ∷ "" ∷ "" ∷ "0" ∷ "" ∷ "1" ∷ "" ∷ []) (frame 0 [] (attributes "" false "" true "") [])
    ∷ row "frame" ("0" ∷ "" ∷ "" ∷ "0" ∷ "" ∷ "0" ∷ "" ∷ []) (frame 0 [] (attributes "" false "" false "") [])
    ∷ row "unload" ("4294967295" ∷ []) (unload 4294967295)
    ∷ row "ask" ("1" ∷ "16" ∷ "https://a" ∷ []) (ask 1 16 (text "https://a"))
    ∷ row "enabled" ("10" ∷ []) (enabled 10)
    ∷ row "beneath" ("2" ∷ "0" ∷ []) (beneath 2 0)
    ∷ row "forecast" ("3" ∷ "" ∷ "1" ∷ "usb *" ∷ "1%31" ∷ []) (forecast 3 (attributes "" true "usb *" true "1"))
    ∷ row "tidy" ("100" ∷ "usb=*" ∷ []) (tidy 100 (text "usb=*"))
    ∷ []

rows_right : map (λ r. line_of (tabbed r.name r.others)) rows ≡ map (λ r. r.call) rows
unfolding computing
rows_right = refl

-- and read byte by byte
rows_read : map (λ r. line_from (read_on new_reading (tabbed r.name r.others))) rows ≡ map (λ r. r.call) rows
unfolding computing
rows_read = refl

-- lines that are none of the calls
abbrev bad_rows : List (List String)
bad_rows =
    -- too few fields, too many, and no name
    ("" ∷ [])
    ∷ ("top" ∷ [])
    ∷ ("top" ∷ "" ∷ "" ∷ "" ∷ [])
    ∷ ("frame" ∷ "1" ∷ "" ∷ "" ∷ "0" ∷ "" ∷ "0" ∷ "" ∷ "" ∷ [])
    ∷ ("Top" ∷ "" ∷ "" ∷ [])
    ∷ ("tops" ∷ "" ∷ "" ∷ [])
    -- `%` is undone in text fields only
    ∷ ("t%6fp" ∷ "" ∷ "" ∷ [])
    ∷ ("unload" ∷ "%31" ∷ [])
    ∷ ("forecast" ∷ "1" ∷ "" ∷ "%30" ∷ "" ∷ "0" ∷ [])
    ∷ ("forecast" ∷ "1" ∷ "" ∷ "0" ∷ "" ∷ "%31" ∷ [])
    -- a `%` without two hex digits
    ∷ ("top" ∷ "" ∷ "a%4" ∷ [])
    ∷ ("top" ∷ "%" ∷ "41" ∷ [])
    ∷ ("top" ∷ "" ∷ "%4g" ∷ [])
    -- numbers
    ∷ ("unload" ∷ "" ∷ [])
    ∷ ("unload" ∷ "01" ∷ [])
    ∷ ("unload" ∷ "00" ∷ [])
    ∷ ("unload" ∷ "+1" ∷ [])
    ∷ ("unload" ∷ "4294967296" ∷ [])
    ∷ ("unload" ∷ "18446744073709551616" ∷ [])
    -- marks
    ∷ ("forecast" ∷ "1" ∷ "" ∷ "2" ∷ "" ∷ "0" ∷ [])
    ∷ ("forecast" ∷ "1" ∷ "" ∷ "0" ∷ "" ∷ "" ∷ [])
    ∷ ("forecast" ∷ "1" ∷ "" ∷ "0" ∷ "" ∷ "0a" ∷ [])
    ∷ []

abbrev is_bad : Line → Bool
is_bad (top o h) = false
is_bad (frame c o a h) = false
is_bad (unload s) = false
is_bad (ask s f o) = false
is_bad (enabled s) = false
is_bad (beneath s r) = false
is_bad (forecast c a) = false
is_bad (tidy r h) = false
is_bad bad_line = true

abbrev whole_line : List String → Text
whole_line [] = []
whole_line (f ∷ fs) = tabbed f fs

bad-rows : every (λ fs. is_bad (line_of (whole_line fs))) bad_rows ≡ true
unfolding computing
bad-rows = refl

bad_read : every (λ fs. is_bad (line_from (read_on new_reading (whole_line fs)))) bad_rows ≡ true
unfolding computing
bad_read = refl

-- "CR is an ordinary byte"
carriage_return : line_of (text "unload" ++ (9 ∷ 49 ∷ 13 ∷ [])) ≡ bad_line
unfolding computing
carriage_return = refl
