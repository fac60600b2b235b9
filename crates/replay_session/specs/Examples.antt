-- Short sessions, each from a new table, by computation: lines and their answers.
use Prim.Native.String.{String}
use Rattle.std.specs.Prelude.{◌≡◌, refl, List, [], ◌∷◌, ◌++◌, Bool, true, ◌&&◌}
use Rattle.ascii.specs.Literals.{text}
use Rattle.ascii.specs.Texts.{every, same_bytes}
use Rattle.document_model.specs.Model.{Text, Table, new_table}
use Rattle.replay_lines.specs.Format.{Line, line_of}
use Rattle.replay_session.specs.Session.{line_answer, line_table}
use Rattle.replay_session.specs.Computing.{computing}

-- fields, with a TAB between each two
abbrev tabbed : String → List String → Text
tabbed f [] = text f
tabbed f (g ∷ gs) = text f ++ (9 ∷ tabbed g gs)

-- a line's fields, and its answer
record Row : Type 0 where
  name : String
  others : List String
  answer : String

abbrev row : String → List String → String → Row
row name others answer = record { name = name; others = others; answer = answer }

abbrev call : Row → Line
call r = line_of (tabbed r.name r.others)

-- each line is answered so, on the table that those before it left
abbrev right : Table → List Row → Bool
right t [] = true
right t (r ∷ rs) = same_bytes (line_answer (call r) t) (text r.answer) && right (line_table (call r) t) rs

abbrev sessions : List (List Row)
sessions =
    -- a load and questions
    (row "top" ("https://a.example" ∷ "camera=(%22https://b.example%22)" ∷ []) "loaded 1"
    ∷ row "ask" ("1" ∷ "0" ∷ "https://b.example" ∷ []) "Enabled"
    ∷ row "ask" ("1" ∷ "0" ∷ "" ∷ []) "Disabled"
    ∷ row "ask" ("2" ∷ "0" ∷ "" ∷ []) "refused 1"
    ∷ [])
    -- bad lines are found before any refusal and change nothing
    ∷ (row "top" ("https://a.example" ∷ []) "bad line"
    ∷ row "unload" ("01" ∷ []) "bad line"
    ∷ row "unload" ("1" ∷ []) "refused 1"
    ∷ row "top" ("https://a.example" ∷ "" ∷ []) "loaded 1"
    ∷ [])
    -- a frame, listed and unloaded
    ∷ (row "top" ("https://a.example" ∷ "" ∷ []) "loaded 1"
    ∷ row "frame" ("1" ∷ "https://b.example" ∷ "https://b.example" ∷ "0" ∷ "camera" ∷ "0" ∷ "" ∷ []) "loaded 2"
    ∷ row "ask" ("2" ∷ "0" ∷ "" ∷ []) "Enabled"
    ∷ row "beneath" ("1" ∷ "0" ∷ []) "refused 9"
    ∷ row "beneath" ("1" ∷ "1" ∷ []) "beneath 1 2"
    ∷ row "unload" ("1" ∷ []) "unloaded 2"
    ∷ [])
    -- tidying
    ∷ (row "tidy" ("8" ∷ "camera=?1;a, camera=*" ∷ []) "tidied camera=*"
    ∷ row "tidy" ("7" ∷ "camera=*" ∷ []) "refused 9"
    ∷ row "tidy" ("7" ∷ "camera=" ∷ []) "refused 8"
    ∷ row "tidy" ("0" ∷ "" ∷ []) "tidied "
    ∷ [])
    ∷ []

sessions_right : every (right new_table) sessions ≡ true
unfolding computing
sessions_right = refl
