-- A slot of the table: fixed bytes for a document. `document_in` reads a slot, `document_loads/specs/Slots: written` writes one; the places are stated here alone.
use Rattle.std.specs.Prelude.{ℕ, ◌+◌, ◌*◌, ◌≤◌, ◌<◌, ◌≡◌, Bool, not, List, [], eqb, length}
use Rattle.limits.specs.Limits.{text_bytes, host_bytes, port_digits, document_limit}
use Rattle.lent_bytes.specs.Numbers.{number_at, bytes_at, numbers_in, number_bytes}
use Rattle.features.specs.Features.{feature_count}
use Rattle.origins.specs.Origins.{Origin, OriginSaid, origin_of}
use Rattle.origins.specs.Origins.Origin.{tuple, opaque, fresh}
use Rattle.origins.specs.Origins.OriginSaid.{says_empty, says_null, says_tuple, no_origin}
use Rattle.origins.specs.NormalForms.{origin_text}
use Rattle.decisions.specs.Masks.{mask_of}
use Rattle.decisions.specs.Policies.{Policy, question_in, enabled_mask}
use Rattle.settled.specs.Settled.{head_bytes, declared_in}
use Rattle.document_model.specs.Model.{Document, values_from, policy_of}

-- the longest origin text: `https://`, a host, `:` and a port
abbrev pub origin_bytes : ℕ
origin_bytes = 8 + host_bytes + 1 + port_digits

-- the bytes that a header is settled into, at most
abbrev pub settled_limit : ℕ
settled_limit = head_bytes + text_bytes

-- ---- the places

abbrev pub everywhere_place : ℕ
everywhere_place = 0

abbrev pub enabled_place : ℕ
enabled_place = 4

abbrev pub depth_place : ℕ
depth_place = 8

abbrev pub inherited_place : ℕ
inherited_place = 12

abbrev pub opaque_place : ℕ
opaque_place = 16

abbrev pub own_length_place : ℕ
own_length_place = 20

abbrev pub sandboxed_place : ℕ
sandboxed_place = 24

abbrev pub above_place : ℕ
above_place = 28

abbrev pub own_text_place : ℕ
own_text_place = above_place + 4 * document_limit

abbrev pub settled_place : ℕ
settled_place = own_text_place + origin_bytes

abbrev pub slot_bytes : ℕ
slot_bytes = settled_place + settled_limit

-- ---- what a slot says

-- how many serials stand above the document, and these as they stand, the nearest first
abbrev pub depth_in : List ℕ → ℕ
depth_in slot = number_at slot depth_place

abbrev pub above_bytes : List ℕ → List ℕ
above_bytes slot = bytes_at slot above_place (4 * depth_in slot)

-- the text of its origin, and a number
abbrev pub own_length : List ℕ → ℕ
own_length slot = number_at slot own_length_place

abbrev pub own_text : List ℕ → List ℕ
own_text slot = bytes_at slot own_text_place (own_length slot)

abbrev pub own_number : List ℕ → ℕ
own_number slot = number_at slot opaque_place

-- its origin: the tuple that the text says; without one it is opaque, by the number
abbrev pub origin_by : OriginSaid → ℕ → Origin
origin_by says_empty n = opaque n
origin_by says_null n = opaque n
origin_by (says_tuple o) n = tuple o
origin_by no_origin n = opaque n

abbrev pub own_origin : List ℕ → Origin
own_origin slot = origin_by (origin_of (own_text slot)) (own_number slot)

-- the text and the number that an origin has in a slot
abbrev pub origin_bytes_of : Origin → List ℕ
origin_bytes_of (tuple o) = origin_text o
origin_bytes_of (opaque n) = []
origin_bytes_of fresh = []

abbrev pub origin_number : Origin → ℕ
origin_number (tuple o) = 0
origin_number (opaque n) = n
origin_number fresh = 0

abbrev pub is_sandboxed_in : List ℕ → Bool
is_sandboxed_in slot = not (eqb (number_at slot sandboxed_place) 0)

-- what its header was settled into, and bytes past that
abbrev pub settled_in : List ℕ → List ℕ
settled_in slot = bytes_at slot settled_place settled_limit

-- the document of the model, told its serial: that stands in the directory
unfoldable pub document_in : ℕ → List ℕ → Document
document_in serial slot =
    record {
      identity = record { serial = serial; above = numbers_in (above_bytes slot); origin = own_origin slot; sandboxed = is_sandboxed_in slot };
      inherited = number_at slot inherited_place;
      declared = values_from (declared_in (settled_in slot)) 0 feature_count;
    }

-- the policy that decides about it: no serial is in it
abbrev pub slot_policy : List ℕ → Policy
slot_policy slot = policy_of (document_in 0 slot)

-- ---- what holds of a slot that has a document

-- its parts have room
pub record Kept (slot : List ℕ) : Type 0 where
  pub long : slot_bytes ≤ length slot
  pub text : own_length slot ≤ origin_bytes
  pub depth : depth_in slot ≤ document_limit

-- there is room for one more above; its two numbers of decisions are those of its policy: Enabled at a fresh origin, and so at every one; Enabled at its own. And its bytes are those that its document has
pub record GoodSlot (slot : List ℕ) : Type 0 where
  pub kept : Kept slot
  pub shallow : depth_in slot < document_limit
  pub everywhere : number_at slot everywhere_place ≡ mask_of (λ n. question_in (slot_policy slot) n fresh)
  pub enabled : number_at slot enabled_place ≡ enabled_mask (slot_policy slot)
  pub above : above_bytes slot ≡ number_bytes (numbers_in (above_bytes slot))
  pub own : own_text slot ≡ origin_bytes_of (own_origin slot)
  pub number : own_number slot ≡ origin_number (own_origin slot)
