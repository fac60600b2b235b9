-- A line as it is read byte by byte: what was read of it so far, and which call that is.
use Rattle.std.specs.Prelude.{ℕ, suc, ◌+◌, ◌*◌, List, [], ◌∷◌, ◌++◌, map, Bool, true, false, not, ◌&&◌, ◌||◌, length, take, drop, ltb, eqb}
use Rattle.std.specs.Prelude.{Option, Some, None}
use Rattle.limits.specs.Limits.{text_bytes}
use Rattle.ascii.specs.Bytes.{pick}
use Rattle.ascii.specs.Literals.{text}
use Rattle.ascii.specs.Reading.{head_of, is_empty}
use Rattle.ascii.specs.Texts.{same_bytes}
use Rattle.containers.specs.Attributes.{Attributes}
use Rattle.replay_lines.specs.Format.{Text, Line, Sandbox, Said, is_tab, is_percent, is_hex, hex_byte, name_of, number_of, mark_of, call_of}
use Rattle.replay_lines.specs.Format.Line.{top, frame, unload, ask, enabled, beneath, forecast, tidy, bad_line}
use Rattle.replay_lines.specs.declared.Place.{Place}
use Rattle.replay_lines.specs.declared.Place.TheVariants.{Plain, Percent, Digit, Broken}

-- the most fields of a line
abbrev pub field_limit : ℕ
field_limit = 8

-- "at most one byte more than the limit is kept of each"
abbrev pub kept_text : ℕ
kept_text = text_bytes + 1

-- and of a field also SANDBOX's first byte
abbrev pub field_bytes : ℕ
field_bytes = text_bytes + 2

-- a run has a part for each field
abbrev pub line_bytes : ℕ
line_bytes = field_limit * field_bytes

-- what was read of a field: the bytes that are kept, whether it has a `%`, whether a `%` is its first byte, and where in a `%` it stands
pub record Field : Type 0 where
  pub kept : Text
  pub escaped : Bool
  pub opens : Bool
  pub place : Place

abbrev pub new_field : Field
new_field = record { kept = []; escaped = false; opens = false; place = Plain }

-- "texts are decoded as they come and at most one byte more than the limit is kept of each"
unfoldable pub keep_byte : Text → ℕ → Text
keep_byte t b = pick (ltb (length t) field_bytes) (t ++ (b ∷ [])) t

abbrev pub moved : Field → Place → Field
moved f p = record { kept = f.kept; escaped = f.escaped; opens = f.opens; place = p }

abbrev pub keeping : Field → ℕ → Field
keeping f b = record { kept = keep_byte f.kept b; escaped = f.escaped; opens = f.opens; place = Plain }

abbrev pub opening : Field → Field
opening f = record { kept = f.kept; escaped = true; opens = f.opens || is_empty f.kept; place = Percent }

-- one byte more of a field
abbrev pub byte_at : Place → Field → ℕ → Field
byte_at Plain f b = pick (is_percent b) (opening f) (keeping f b)
byte_at Percent f b = pick (is_hex b) (moved f (Digit b)) (moved f Broken)
byte_at (Digit a) f b = pick (is_hex b) (keeping f (hex_byte a b)) (moved f Broken)
byte_at Broken f b = f

unfoldable pub field_byte : Field → ℕ → Field
field_byte f b = byte_at f.place f b

-- what was read of a line: the fields that ended, and the one that is read; or there are too many
pub data Reading : Type 0 where
  reading : List Field → Field → Reading
  too_many : Reading

-- of the empty line
abbrev pub new_reading : Reading
new_reading = reading [] new_field

unfoldable pub next_field : List Field → Field → Reading
next_field ended f = pick (ltb (suc (length ended)) field_limit) (reading (ended ++ (f ∷ [])) new_field) too_many

abbrev pub read_byte : Reading → ℕ → Reading
read_byte (reading ended f) b = pick (is_tab b) (next_field ended f) (reading ended (field_byte f b))
read_byte too_many b = too_many

-- a reading, after further bytes
unfoldable pub read_on : Reading → Text → Reading
read_on r [] = r
read_on r (b ∷ s) = read_on (read_byte r b) s

-- ---- what a reading says

abbrev pub is_whole : Place → Bool
is_whole Plain = true
is_whole Percent = false
is_whole (Digit a) = false
is_whole Broken = false

-- a field without a `%`
abbrev pub is_literal : Field → Bool
is_literal f = is_whole f.place && not f.escaped

-- SANDBOX, from the bytes that are kept
unfoldable pub kept_sandbox : Text → Option Sandbox
kept_sandbox t =
    pick (eqb (head_of t) 49) (Some (record { stands = true; attribute = take kept_text (drop 1 t) }))
    (pick (same_bytes t (text "0")) (Some (record { stands = false; attribute = [] })) None)

-- what a field says by each of its readings
unfoldable pub kept_says : Field → Said
kept_says f =
    record {
      name = pick (is_literal f) (name_of f.kept) None;
      number = pick (is_literal f) (number_of f.kept) None;
      mark = pick (is_literal f) (mark_of f.kept) None;
      sandbox = pick (is_whole f.place && not f.opens) (kept_sandbox f.kept) None;
      decoded = pick (is_whole f.place) (Some (take kept_text f.kept)) None;
    }

-- the call that a line is, read to its end
unfoldable pub line_from : Reading → Line
line_from (reading ended f) = call_of (map kept_says (ended ++ (f ∷ [])))
line_from too_many = bad_line

-- ---- "at most one byte more than the limit is kept of each": a call with its texts cut

abbrev pub cut : Text → Text
cut t = take kept_text t

abbrev pub cut_attributes : Attributes → Attributes
cut_attributes a = record { allow = cut a.allow; allowfullscreen = a.allowfullscreen; has_sandbox = a.has_sandbox; sandbox = cut a.sandbox; src = cut a.src }

abbrev pub cut_line : Line → Line
cut_line (top origin header) = top (cut origin) (cut header)
cut_line (frame container origin attributes header) = frame container (cut origin) (cut_attributes attributes) (cut header)
cut_line (unload serial) = unload serial
cut_line (ask serial feature origin) = ask serial feature (cut origin)
cut_line (enabled serial) = enabled serial
cut_line (beneath serial room) = beneath serial room
cut_line (forecast container attributes) = forecast container (cut_attributes attributes)
cut_line (tidy room header) = tidy room (cut header)
cut_line bad_line = bad_line
