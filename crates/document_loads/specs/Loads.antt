-- What a load makes of texts and of its container's slot, in the terms of the model of the calls.
use Rattle.std.specs.Prelude.{ℕ, ◌≤◌, ◌<◌, ◌^◌, ◌≡◌, List, length, take, replicate}
use Rattle.origins.specs.Origins.{Origin, origin_of}
use Rattle.origins.specs.Answers.{origin_in}
use Rattle.origins.specs.declared.OriginRange.{OriginRange}
use Rattle.origins.specs.declared.OriginRange.TheVariants as range
use Rattle.containers.specs.Attributes.{Attributes}
use Rattle.decisions.specs.Decisions.{inherited_top}
use Rattle.decisions.specs.Masks.{mask_of}
use Rattle.decisions.specs.Policies.{inherited_in, forecast}
use Rattle.document_model.specs.Model.{Text, Identity, arrives_at, frame_of, top_identity, framed_identity}
use Rattle.document_records.specs.declared.Frame.{Frame}
use Rattle.document_records.specs.Slots.{origin_bytes, document_in, slot_policy}
use Rattle.document_loads.specs.Slots.{filled, KeptOrigin, IsNewDocument}
use Rattle.document_loads.specs.declared.FrameMarks.{FrameMarks}
use Rattle.document_loads.specs.declared.NewDocument.{NewDocument}
use Rattle.document_loads.specs.declared.Arrival.{Arrival}

-- a frame's attributes, as the calls get them
abbrev pub attributes : List ℕ → FrameMarks → List ℕ → List ℕ → Attributes
attributes allow marks sandbox src = record { allow = allow; allowfullscreen = marks.allowfullscreen; has_sandbox = marks.has_sandbox; sandbox = sandbox; src = src }

-- the same of the code's frame
abbrev pub attributes_of : Frame → Attributes
attributes_of f = record { allow = f.allow.now; allowfullscreen = f.allowfullscreen; has_sandbox = f.has_sandbox; sandbox = f.sandbox.now; src = f.src.now }

-- an opaque origin has no text
abbrev pub IsOpaque : ℕ → Arrival → Type 0
IsOpaque n r = r ≡ record { text = replicate origin_bytes 0; length = 0; number = n; origin = range.Opaque n }

-- an origin as it stands in a slot, and beside its text
pub record IsAt (o : Origin) (r : Arrival) : Type 0 where
  pub kept : KeptOrigin (take r.length r.text) r.number o
  pub here : origin_in (take r.length r.text) r.origin ≡ o

-- the origin at which a document with an origin text arrives, for every container whose origin the values beside it are
pub record Arrives (o own : List ℕ) (number : ℕ) (container : OriginRange) (n : ℕ) (r : Arrival) : Type 0 where
  pub says : (x : Origin) → KeptOrigin own number x → origin_in own container ≡ x → IsAt (arrives_at (origin_of o) x n) r
  pub short : r.length ≤ origin_bytes
  pub room : length r.text ≡ origin_bytes
  pub small : r.number < 2 ^ 32
  pub rest : r.text ≡ filled origin_bytes (take r.length r.text)

-- a document at the top
abbrev pub IsTopDocument : Text → ℕ → NewDocument → Type 0
IsTopDocument o n r = IsNewDocument (top_identity (origin_of o) n) (mask_of (λ k. inherited_top)) r

-- the identity of a document in a frame of that in a slot, which has a serial; and what it inherits
abbrev pub framed_in : List ℕ → ℕ → Text → Attributes → ℕ → Identity
framed_in c container o a n = framed_identity (document_in container c).identity a (origin_of o) n

abbrev pub inherits_in : List ℕ → ℕ → Text → Attributes → ℕ → ℕ
inherits_in c container o a n = mask_of (inherited_in (slot_policy c) (frame_of (document_in container c).identity a) (framed_in c container o a n).origin)

abbrev pub IsFramedDocument : List ℕ → ℕ → Text → Attributes → ℕ → NewDocument → Type 0
IsFramedDocument c container o a n r = IsNewDocument (framed_in c container o a n) (inherits_in c container o a n) r

-- a forecast for a frame in the document of a slot; its serial doesn't matter
abbrev pub Foretells : List ℕ → Attributes → ℕ → Type 0
Foretells c a r = r ≡ forecast (slot_policy c) (frame_of (document_in 0 c).identity a)
