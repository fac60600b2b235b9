-- The replay format: which call a line is, from its bytes. Sentences of the format are quoted.
use Rattle.std.specs.Prelude.{ℕ, ◌+◌, ◌-◌, ◌*◌, List, [], ◌∷◌, map, Bool, true, false, not, ◌&&◌, ◌||◌, length, drop, get_or, leb, eqb}
use Rattle.std.specs.Prelude.{Option, Some, None}
use Rattle.ascii.specs.Bytes.{pick, within, is_digit}
use Rattle.ascii.specs.Literals.{text}
use Rattle.ascii.specs.Reading.{head_of, is_empty}
use Rattle.ascii.specs.Texts.{every, same_bytes, cut_at}
use Rattle.ascii.specs.Decimals.{decimal, leads_zero}
use Rattle.containers.specs.Attributes.{Attributes}
use Rattle.replay_lines.specs.declared.CallName.{CallName}
use Rattle.replay_lines.specs.declared.CallName.TheVariants as name

abbrev pub Text : Type 0
Text = List ℕ

-- the calls of the table, or "the line is none of the calls"
pub data Line : Type 0 where
  -- ORIGIN, HEADER
  top : Text → Text → Line
  -- CONTAINER, ORIGIN, the attributes, HEADER
  frame : ℕ → Text → Attributes → Text → Line
  -- SERIAL
  unload : ℕ → Line
  -- SERIAL, FEATURE, ORIGIN
  ask : ℕ → ℕ → Text → Line
  -- SERIAL
  enabled : ℕ → Line
  -- SERIAL, ROOM
  beneath : ℕ → ℕ → Line
  -- CONTAINER, the attributes
  forecast : ℕ → Attributes → Line
  -- ROOM, HEADER
  tidy : ℕ → Text → Line
  bad_line : Line

-- ---- fields

-- "Fields are parted by one TAB."
abbrev pub is_tab : ℕ → Bool
is_tab b = eqb b 9

abbrev pub fields_of : Text → List Text
fields_of s = cut_at is_tab s

-- "two hex digits (either case)"
abbrev pub is_hex : ℕ → Bool
is_hex b = is_digit b || within 65 70 b || within 97 102 b

-- the value of a hex digit; 0 of any other byte
unfoldable pub hex_value : ℕ → ℕ
hex_value b = pick (is_digit b) (b - 48) (pick (within 65 70 b) (b - 55) (pick (within 97 102 b) (b - 87) 0))

abbrev pub hex_byte : ℕ → ℕ → ℕ
hex_byte high low = hex_value high * 16 + hex_value low

abbrev pub is_percent : ℕ → Bool
is_percent b = eqb b 37

unfoldable pub with_byte : ℕ → Option Text → Option Text
with_byte b (Some t) = Some (b ∷ t)
with_byte b None = None

-- "every byte stands for itself, except that `%` and two hex digits (either case) stand for that byte";
-- "A `%` not followed by two hex digits makes the line a bad line."
unfoldable mutual
  pub decoded : Text → Option Text
  decoded [] = Some []
  decoded (x ∷ xs) = pick (is_percent x) (undone xs) (with_byte x (decoded xs))

  -- what follows a `%`
  pub undone : Text → Option Text
  undone [] = None
  undone (a ∷ []) = None
  undone (a ∷ b ∷ xs) = pick (is_hex a && is_hex b) (with_byte (hex_byte a b) (decoded xs)) None

-- "at most 4294967295"
abbrev pub last_number : ℕ
last_number = 4294967295

-- "Numbers are decimal, no sign, no leading zero (but `0`)"
unfoldable pub is_number : Text → Bool
is_number u = not (is_empty u) && every is_digit u && not (leads_zero u) && leb (decimal u) last_number

unfoldable pub number_of : Text → Option ℕ
number_of u = pick (is_number u) (Some (decimal u)) None

-- "FULLSCREEN is `0` or `1`."
unfoldable pub mark_of : Text → Option Bool
mark_of u = pick (same_bytes u (text "0")) (Some false) (pick (same_bytes u (text "1")) (Some true) None)

-- whether a sandbox attribute stands, and its text
pub record Sandbox : Type 0 where
  pub stands : Bool
  pub attribute : Text

unfoldable pub sandboxed : Option Text → Option Sandbox
sandboxed (Some t) = Some (record { stands = true; attribute = t })
sandboxed None = None

-- "SANDBOX is `0` (no attribute) or `1` followed at once by the attribute's text"; "the first byte of SANDBOX is literal, and `0` stands alone."
unfoldable pub sandbox_of : Text → Option Sandbox
sandbox_of u =
    pick (eqb (head_of u) 49) (sandboxed (decoded (drop 1 u)))
    (pick (same_bytes u (text "0")) (Some (record { stands = false; attribute = [] })) None)

-- the names of the table's rows
unfoldable pub name_of : Text → Option CallName
name_of u =
    pick (same_bytes u (text "top")) (Some name.Top)
    (pick (same_bytes u (text "frame")) (Some name.Frame)
    (pick (same_bytes u (text "unload")) (Some name.Unload)
    (pick (same_bytes u (text "ask")) (Some name.Ask)
    (pick (same_bytes u (text "enabled")) (Some name.Enabled)
    (pick (same_bytes u (text "beneath")) (Some name.Beneath)
    (pick (same_bytes u (text "forecast")) (Some name.Forecast)
    (pick (same_bytes u (text "tidy")) (Some name.Tidy) None)))))))

-- what a field says by each of its readings: "`%` is undone in text fields only"
pub record Said : Type 0 where
  pub name : Option CallName
  pub number : Option ℕ
  pub mark : Option Bool
  pub sandbox : Option Sandbox
  pub decoded : Option Text

unfoldable pub says : Text → Said
says u = record { name = name_of u; number = number_of u; mark = mark_of u; sandbox = sandbox_of u; decoded = decoded u }

-- ---- lines

-- what a field says that isn't there, or that has no good reading
abbrev pub nothing : Said
nothing = record { name = None; number = None; mark = None; sandbox = None; decoded = None }

-- a row with so many fields, its name among them
unfoldable pub of_fields : ℕ → List Said → Line → Line
of_fields n fs l = pick (eqb (length fs) n) l bad_line

-- what follows from a reading, or else
unfoldable pub given : {A B : Type 0} → B → Option A → (A → B) → B
given b (Some a) k = k a
given b None k = b

abbrev pub or_bad : {A : Type 0} → Option A → (A → Line) → Line
or_bad o k = given bad_line o k

-- a field by its place in the line, read as the row says
abbrev pub number_at : List Said → ℕ → Option ℕ
number_at fs j = (get_or fs j nothing).number

abbrev pub text_at : List Said → ℕ → Option Text
text_at fs j = (get_or fs j nothing).decoded

abbrev pub mark_at : List Said → ℕ → Option Bool
mark_at fs j = (get_or fs j nothing).mark

abbrev pub sandbox_at : List Said → ℕ → Option Sandbox
sandbox_at fs j = (get_or fs j nothing).sandbox

-- SRC FULLSCREEN ALLOW SANDBOX, from a place on
unfoldable pub attributes_at : List Said → ℕ → Option Attributes
attributes_at fs j =
    given None (text_at fs j) λ src.
    given None (mark_at fs (j + 1)) λ fullscreen.
    given None (text_at fs (j + 2)) λ allow.
    given None (sandbox_at fs (j + 3)) λ box.
    Some (record { allow = allow; allowfullscreen = fullscreen; has_sandbox = box.stands; sandbox = box.attribute; src = src })

-- the rows of the table
unfoldable pub top_row : List Said → Line
top_row fs = of_fields 3 fs (or_bad (text_at fs 1) λ origin. or_bad (text_at fs 2) λ header. top origin header)

unfoldable pub frame_row : List Said → Line
frame_row fs =
    of_fields 8 fs
    (or_bad (number_at fs 1) λ container. or_bad (text_at fs 2) λ origin. or_bad (attributes_at fs 3) λ attributes. or_bad (text_at fs 7) λ header. frame container origin attributes header)

unfoldable pub unload_row : List Said → Line
unload_row fs = of_fields 2 fs (or_bad (number_at fs 1) λ serial. unload serial)

unfoldable pub ask_row : List Said → Line
ask_row fs = of_fields 4 fs (or_bad (number_at fs 1) λ serial. or_bad (number_at fs 2) λ feature. or_bad (text_at fs 3) λ origin. ask serial feature origin)

unfoldable pub enabled_row : List Said → Line
enabled_row fs = of_fields 2 fs (or_bad (number_at fs 1) λ serial. enabled serial)

unfoldable pub beneath_row : List Said → Line
beneath_row fs = of_fields 3 fs (or_bad (number_at fs 1) λ serial. or_bad (number_at fs 2) λ room. beneath serial room)

unfoldable pub forecast_row : List Said → Line
forecast_row fs = of_fields 6 fs (or_bad (number_at fs 1) λ container. or_bad (attributes_at fs 2) λ attributes. forecast container attributes)

unfoldable pub tidy_row : List Said → Line
tidy_row fs = of_fields 3 fs (or_bad (number_at fs 1) λ room. or_bad (text_at fs 2) λ header. tidy room header)

abbrev pub row_of : Option CallName → List Said → Line
row_of (Some name.Top) fs = top_row fs
row_of (Some name.Frame) fs = frame_row fs
row_of (Some name.Unload) fs = unload_row fs
row_of (Some name.Ask) fs = ask_row fs
row_of (Some name.Enabled) fs = enabled_row fs
row_of (Some name.Beneath) fs = beneath_row fs
row_of (Some name.Forecast) fs = forecast_row fs
row_of (Some name.Tidy) fs = tidy_row fs
row_of None fs = bad_line

-- the call that a line's fields are
unfoldable pub call_of : List Said → Line
call_of fs = row_of (get_or fs 0 nothing).name fs

-- the call that a line is
unfoldable pub line_of : Text → Line
line_of s = call_of (map says (fields_of s))
