-- What a load writes into a slot: `written` says every byte, by the document of the model and its header; what is not written stays.
use Rattle.std.specs.Prelude.{ℕ, ◌*◌, ◌≤◌, ◌<◌, ◌^◌, ◌≡◌, Bool, true, false, List, [], ◌∷◌, leb, length, take, replicate}
use Rattle.ascii.specs.Bytes.{pick}
use Rattle.writing.specs.Writing.{with_text}
use Rattle.limits.specs.Limits.{text_bytes, document_limit}
use Rattle.lent_bytes.specs.Numbers.{numbers_in, number_bytes}
use Rattle.origins.specs.Origins.{Origin, origin_of}
use Rattle.origins.specs.Origins.Origin.{fresh}
use Rattle.declarations.specs.Declarations.{is_malformed}
use Rattle.decisions.specs.Masks.{mask_of}
use Rattle.decisions.specs.Policies.{Policy, question_in, enabled_mask}
use Rattle.settling.specs.Writing.{settled_bytes}
use Rattle.document_model.specs.Model.{Text, Identity, Document, declared_by, policy_of}
use Rattle.document_records.specs.Slots.{origin_bytes, settled_limit, everywhere_place, depth_place, above_place, own_text_place, settled_place, origin_by, origin_bytes_of, origin_number, document_in, slot_policy, GoodSlot}
use Rattle.document_loads.specs.declared.NewDocument.{NewDocument}

abbrev pub mark_number : Bool → ℕ
mark_number true = 1
mark_number false = 0

-- a text at the front of so many bytes, 0 in the places after it
abbrev pub filled : ℕ → List ℕ → List ℕ
filled n t = with_text (replicate n 0) 0 t

-- ---- by the document of the model

-- one list, since the serials stand right behind the numbers: how many serials stand above it, what it inherits, the number of its origin, the length of that one's text, whether it is sandboxed, and the serials
abbrev pub front_of : Identity → ℕ → List ℕ
front_of i inherited = length i.above ∷ inherited ∷ origin_number i.origin ∷ length (origin_bytes_of i.origin) ∷ mark_number i.sandboxed ∷ i.above

-- its two numbers of decisions
abbrev pub decisions_of : Policy → List ℕ
decisions_of p = mask_of (λ n. question_in p n fresh) ∷ enabled_mask p ∷ []

-- a slot with the document and its header
abbrev pub described : List ℕ → Identity → ℕ → Text → List ℕ
described slot i inherited h =
    with_text (with_text (with_text slot depth_place (number_bytes (front_of i inherited))) own_text_place (origin_bytes_of i.origin)) settled_place (settled_bytes h)

unfoldable pub written : List ℕ → Document → Text → List ℕ
written slot d h = with_text (described slot d.identity d.inherited h) everywhere_place (number_bytes (decisions_of (policy_of d)))

-- ---- by the code's values

abbrev pub numbers_of : NewDocument → List ℕ
numbers_of d = d.depth ∷ d.inherited ∷ d.number ∷ d.length ∷ mark_number d.sandboxed ∷ []

-- its parts have room
pub record Fits (d : NewDocument) : Type 0 where
  pub depth : d.depth ≤ document_limit
  pub text : d.length ≤ origin_bytes
  pub above_room : length d.above ≡ 4 * document_limit
  pub text_room : length d.text ≡ origin_bytes

abbrev pub front_put : List ℕ → NewDocument → List ℕ
front_put slot d = with_text (with_text (with_text slot depth_place (number_bytes (numbers_of d))) above_place (take (4 * d.depth) d.above)) own_text_place (take d.length d.text)

-- what a header is settled into; one over the limit, which no call hands on, into nothing
abbrev pub header_bytes : Text → List ℕ
header_bytes h = pick (leb (length h) text_bytes) (settled_bytes h) []

abbrev pub header_malformed : Text → Bool
header_malformed h = pick (leb (length h) text_bytes) (is_malformed h) true

pub record PutsHeader (before : List ℕ) (h : Text) (after : List ℕ) (r : Bool) : Type 0 where
  pub is : after ≡ with_text before settled_place (header_bytes h)
  pub short : length (header_bytes h) ≤ settled_limit
  pub malformed : r ≡ header_malformed h

abbrev pub with_decisions : List ℕ → List ℕ
with_decisions slot = with_text slot everywhere_place (number_bytes (decisions_of (slot_policy slot)))

-- ---- a document that a load makes

-- the text and the number of an origin in a slot, and that they are read back
pub record KeptOrigin (t : List ℕ) (n : ℕ) (o : Origin) : Type 0 where
  pub bytes : t ≡ origin_bytes_of o
  pub number : n ≡ origin_number o
  pub reads : origin_by (origin_of t) n ≡ o

-- the code's values are those of an identity, and what it inherits
pub record IsNewDocument (i : Identity) (m : ℕ) (d : NewDocument) : Type 0 where
  pub fits : Fits d
  pub above : take (4 * d.depth) d.above ≡ number_bytes i.above
  pub depth : d.depth ≡ length i.above
  pub listed : numbers_in (number_bytes i.above) ≡ i.above
  pub origin : KeptOrigin (take d.length d.text) d.number i.origin
  pub text : d.length ≡ length (origin_bytes_of i.origin)
  pub sandboxed : d.sandboxed ≡ i.sandboxed
  pub inherited : d.inherited ≡ m
  pub small : d.number < 2 ^ 32
  pub bits : m < 2 ^ 32
  pub above_filled : d.above ≡ filled (4 * document_limit) (number_bytes i.above)
  pub text_filled : d.text ≡ filled origin_bytes (origin_bytes_of i.origin)

-- a document was written into a slot with its header: every byte, and that the slot then says that document
pub record Written (before : List ℕ) (i : Identity) (inherited : ℕ) (h : Text) (after : List ℕ) : Type 0 where
  pub is : after ≡ written before (record { identity = i; inherited = inherited; declared = declared_by h }) h
  pub long : length after ≡ length before
  pub good : GoodSlot after
  pub says : document_in i.serial after ≡ record { identity = i; inherited = inherited; declared = declared_by h }

-- every byte by the code's values; and what the slot says, for every identity that they describe, with room for one more above, and a header within the limit
pub record Writes (before : List ℕ) (d : NewDocument) (h : Text) (after : List ℕ) (r : Bool) : Type 0 where
  pub is : after ≡ with_decisions (with_text (front_put before d) settled_place (header_bytes h))
  pub says : (i : Identity) (inherited : ℕ) → IsNewDocument i inherited d → length i.above < document_limit → length h ≤ text_bytes → Written before i inherited h after
  pub long : length after ≡ length before
  pub malformed : r ≡ header_malformed h
