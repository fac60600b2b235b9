-- What the code's states and answers say beside the run that the texts are kept in.
use Rattle.ascii.specs.declared.TextRange.{TextRange}
use Rattle.std.specs.Prelude.{◌≡◌, ℕ, suc, ◌*◌, List, [], ◌∷◌, map, Bool, false, not, ◌&&◌, take, drop, get_or, ltb}
use Rattle.std.specs.Prelude.{Option, Some, None, option_and_then}
use Rattle.ascii.specs.Bytes.{pick}
use Rattle.ascii.specs.Texts.{part_in}
use Rattle.containers.specs.Attributes.{Attributes}
use Rattle.replay_lines.specs.Format.{Text, Line, Sandbox, Said, nothing, name_of, number_of, mark_of}
use Rattle.replay_lines.specs.Format.Line.{top, frame, unload, ask, enabled, beneath, forecast, tidy, bad_line}
use Rattle.replay_lines.specs.Reading.{Field, Reading, field_limit, field_bytes, keep_byte, field_byte, is_whole, kept_says}
use Rattle.replay_lines.specs.Reading.Reading.{reading, too_many}
use Rattle.replay_lines.specs.declared.FieldState.{FieldState}
use Rattle.replay_lines.specs.declared.LineState.{LineState}
use Rattle.replay_lines.specs.declared.Place.{Place}
use Rattle.replay_lines.specs.declared.Place.TheVariants as place
use Rattle.replay_lines.specs.declared.SandboxRange.{SandboxRange}
use Rattle.replay_lines.specs.declared.AttributeRanges.{AttributeRanges}
use Rattle.replay_lines.specs.declared.Line.{Line as LineRead}
use Rattle.replay_lines.specs.declared.Line.TheVariants as read

-- a field's part of the run, and the bytes that are kept in it
abbrev pub slot_of : List ℕ → ℕ → List ℕ
slot_of run j = take field_bytes (drop (j * field_bytes) run)

unfoldable pub kept_in : List ℕ → ℕ → ℕ → Text
kept_in run j n = take n (slot_of run j)

unfoldable pub field_in : List ℕ → ℕ → FieldState → Field
field_in run j f = record { kept = kept_in run j f.kept; escaped = f.escaped; opens = f.opens; place = f.place }

-- several fields, the first of a number
unfoldable pub fields_from : List ℕ → ℕ → List FieldState → List Field
fields_from run j [] = []
fields_from run j (f ∷ fs) = field_in run j f ∷ fields_from run (suc j) fs

unfoldable pub reading_of : List ℕ → List FieldState → ℕ → FieldState → Reading
reading_of run ended number f = pick (ltb number field_limit) (reading (fields_from run 0 (take number ended)) (field_in run number f)) too_many

-- what was read of a line
abbrev pub reading_in : List ℕ → LineState → Reading
reading_in run s = reading_of run s.ended s.number s.field

-- a run in which one field's part may differ
pub record Elsewhere (run : List ℕ) (j : ℕ) (after : List ℕ) : Type 0 where
  pub same : (k : ℕ) → (k ≡ j → ⊥) → slot_of after k ≡ slot_of run k

-- a byte kept in a field's part
pub record IsKept (run : List ℕ) (j kept b : ℕ) (after : List ℕ) (r : ℕ) : Type 0 where
  pub is : kept_in after j r ≡ keep_byte (kept_in run j kept) b
  pub others : Elsewhere run j after

-- a byte read of a field
pub record IsByteRead (run : List ℕ) (j : ℕ) (f : FieldState) (b : ℕ) (after : List ℕ) (r : FieldState) : Type 0 where
  pub is : field_in after j r ≡ field_byte (field_in run j f) b
  pub others : Elsewhere run j after

-- what the fields of a line say
unfoldable pub said_in : List ℕ → List FieldState → List Said
said_in run fs = map kept_says (fields_from run 0 fs)

-- the field at a place of a line, whatever the run
pub record IsFieldAt (fs : List FieldState) (j : ℕ) (r : FieldState) : Type 0 where
  pub says : (run : List ℕ) → kept_says (field_in run j r) ≡ get_or (said_in run fs) j nothing

-- what a field without a `%` says by its readings, told its text, if it is one
pub record IsLiteral (x : Said) (t : Option Text) : Type 0 where
  pub name : x.name ≡ option_and_then name_of t
  pub number : x.number ≡ option_and_then number_of t
  pub mark : x.mark ≡ option_and_then mark_of t

-- ---- the code's own steps

-- the state of a field of which nothing was read
abbrev pub fresh_field : FieldState
fresh_field = record { kept = 0; escaped = false; opens = false; place = place.Plain }

-- the state of a field that says nothing, as one that isn't there
abbrev pub broken_field : FieldState
broken_field = record { kept = 0; escaped = false; opens = false; place = place.Broken }

abbrev pub moved_as : FieldState → Place → FieldState
moved_as f p = record { kept = f.kept; escaped = f.escaped; opens = f.opens; place = p }

abbrev pub literal_as : FieldState → Bool
literal_as f = is_whole f.place && not f.escaped

-- ---- the answers of the readings of a field

abbrev pub text_in : List ℕ → Option TextRange → Option Text
text_in run (Some r) = Some (part_in run r)
text_in run None = None

abbrev pub sandbox_range : List ℕ → SandboxRange → Sandbox
sandbox_range run r = record { stands = r.stands; attribute = part_in run r.text }

abbrev pub sandbox_in : List ℕ → Option SandboxRange → Option Sandbox
sandbox_in run (Some r) = Some (sandbox_range run r)
sandbox_in run None = None

abbrev pub attributes_in : List ℕ → AttributeRanges → Attributes
attributes_in run a =
    record {
      allow = part_in run a.allow;
      allowfullscreen = a.fullscreen;
      has_sandbox = a.sandbox.stands;
      sandbox = part_in run a.sandbox.text;
      src = part_in run a.src;
    }

abbrev pub attribute_fields_in : List ℕ → Option AttributeRanges → Option Attributes
attribute_fields_in run (Some a) = Some (attributes_in run a)
attribute_fields_in run None = None

-- the call that an answer says
abbrev pub line_in : List ℕ → Option LineRead → Line
line_in run (Some (read.Top l)) = top (part_in run l.origin) (part_in run l.header)
line_in run (Some (read.Frame l)) = frame l.container (part_in run l.origin) (attributes_in run l.attributes) (part_in run l.header)
line_in run (Some (read.Unload serial)) = unload serial
line_in run (Some (read.Ask l)) = ask l.serial l.feature (part_in run l.origin)
line_in run (Some (read.Enabled serial)) = enabled serial
line_in run (Some (read.Beneath l)) = beneath l.serial l.room
line_in run (Some (read.Forecast l)) = forecast l.container (attributes_in run l.attributes)
line_in run (Some (read.Tidy l)) = tidy l.room (part_in run l.header)
line_in run None = bad_line
