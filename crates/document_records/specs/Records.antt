-- What the functions over a slot promise, in the terms of the model of the calls.
use Rattle.std.specs.Prelude.{ℕ, ◌≡◌, Bool, false, List}
use Rattle.std.specs.Prelude.{Option, Some, None}
use Rattle.features.specs.Features.{default_of}
use Rattle.origins.specs.Origins.{Origin, origin_of}
use Rattle.origins.specs.Matching.{same_origin}
use Rattle.origins.specs.Answers.{origin_as, origin_in}
use Rattle.origins.specs.declared.OriginText.{OriginText}
use Rattle.origins.specs.declared.OriginText.TheVariants as said
use Rattle.origins.specs.declared.OriginRange.TheVariants as range
use Rattle.origins.specs.declared.OriginRange.{OriginRange}
use Rattle.allowlists.specs.Allowlists.{Allowlist, some_admits}
use Rattle.decisions.specs.Decisions.{Decision, inherited_by}
use Rattle.decisions.specs.Masks.{mask_of}
use Rattle.decisions.specs.Policies.{Policy, Frame, inherited_framed, value_in, inherited_in}
use Rattle.containers.specs.Policies.{attribute_policy}
use Rattle.document_records.specs.Slots.{own_text, own_number, own_origin, slot_policy}

-- an origin by what its text was read as; without a tuple it is opaque, by a number
abbrev pub range_by : Option OriginText → ℕ → OriginRange
range_by (Some said.Empty) n = range.Opaque n
range_by (Some said.Null) n = range.Opaque n
range_by (Some (said.Tuple r)) n = range.Tuple r
range_by None n = range.Opaque n

-- the document's origin, beside its text
pub record IsOwnRange (slot : List ℕ) (r : OriginRange) : Type 0 where
  pub which : r ≡ range_by (origin_as (origin_of (own_text slot))) (own_number slot)
  pub is : origin_in (own_text slot) r ≡ own_origin slot

-- what the declared list answers for an origin, told whether it is the document's own
pub record DeclaredAnswers (slot : List ℕ) (n : ℕ) (same : Bool) (o : Origin) (r : Option Bool) : Type 0 where
  pub is : r ≡ some_admits ((slot_policy slot).declared n) same false o

-- whether an origin is the declared one, where there is one
abbrev pub declared_is : Option Origin → Origin → Bool
declared_is (Some x) o = same_origin x o
declared_is None o = false

-- *Inherited* of a feature, told whether the arriving origin is the declared one
abbrev pub inherited_told : Policy → ℕ → Option Allowlist → Bool → Origin → Decision
inherited_told p n allowed is_declared o =
    inherited_by (value_in p n p.own) (value_in p n o) (some_admits allowed (same_origin p.own o) is_declared o) (default_of n) (same_origin p.own o)

-- the same as the definition's, for every declared origin of which that is so
pub record Inherits (p : Policy) (n : ℕ) (allowed : Option Allowlist) (is_declared : Bool) (o : Origin) (r : Decision) : Type 0 where
  pub told : r ≡ inherited_told p n allowed is_declared o
  pub says : (declared : Origin) → is_declared ≡ same_origin declared o → r ≡ inherited_framed (value_in p n p.own) (value_in p n o) allowed (default_of n) p.own declared o

-- the same of every feature, for every frame with that allow attribute, allowfullscreen, and the sandbox attribute, none or its words
pub record IsInherited (p : Policy) (allow : List ℕ) (mark : Bool) (sandbox : Option (List (List ℕ))) (is_declared : Bool) (o : Origin) (r : ℕ) : Type 0 where
  pub told : r ≡ mask_of (λ n. inherited_told p n (attribute_policy allow mark sandbox n) is_declared o)
  pub says : (f : Frame) → ((n : ℕ) → f.allowed n ≡ attribute_policy allow mark sandbox n) → is_declared ≡ same_origin f.declared o → r ≡ mask_of (inherited_in p f o)
