-- What frames and loaded documents consist of: a part of the laws of this crate. Assumes nothing.
use mathlib.Core.Path.{◌≡◌, refl}
use Prim.Native.Nat.{ℕ, ◌<◌}
use mathlib.Core.List.{List, [], ◌∷◌, ◌++◌}
use lib.ListN.{length, drop}
use mathlib.Core.Bool.{false}
use Rattle.std.specs.Prelude.{Some}
use Rattle.features.specs.Features.{feature_count}
use Rattle.origins.specs.Origins.{OriginSaid}
use Rattle.origins.specs.Origins.Origin.{opaque}
use Rattle.declarations.specs.Declarations.{declares}
use Rattle.containers.specs.Attributes.{Attributes}
use Rattle.containers.specs.Sandboxes.{is_sandboxed, declared_origin}
use Rattle.decisions.specs.Decisions.{inherited_top}
use Rattle.decisions.specs.Masks.{mask_of}
use Rattle.decisions.specs.Policies.{inherited_in}
use Rattle.document_model.specs.Model.{Text, arrives_at, Identity, Document, values_from, declared_by, policy_of, frame_sandboxed, or_fresh, frame_declared, frame_of, top_identity, framed_identity, top_document, framed_document, stored, find, Call, table_after}
use Rattle.document_model.proofs.Tables.{find-some}
use Rattle.document_model.proofs.Depths.{above-fewer}

pub frame-sandboxed : (c : Identity) (a : Attributes) → frame_sandboxed c a ≡ is_sandboxed c.sandboxed a
unfolding frame_sandboxed
frame-sandboxed c a = refl

pub frame-declared : (c : Identity) (a : Attributes) → frame_declared c a ≡ or_fresh (declared_origin c.sandboxed a c.origin)
unfolding frame_declared
frame-declared c a = refl

pub declared-by : (h : Text) → declared_by h ≡ values_from (declares h) 0 feature_count
unfolding declared_by
declared-by h = refl

pub top-identity : (said : OriginSaid) (n : ℕ) → top_identity said n ≡ record { serial = n; above = []; origin = arrives_at said (opaque n) n; sandboxed = false }
unfolding top_identity
top-identity said n = refl

pub framed-identity : (c : Identity) (a : Attributes) (said : OriginSaid) (n : ℕ) → framed_identity c a said n ≡ record { serial = n; above = c.serial ∷ c.above; origin = arrives_at said c.origin n; sandboxed = frame_sandboxed c a }
unfolding framed_identity
framed-identity c a said n = refl

pub top-document : (h : Text) (i : Identity) → top_document h i ≡ record { identity = i; inherited = mask_of (λ k. inherited_top); declared = declared_by h }
unfolding top_document
top-document h i = refl

pub framed-document : (c : Document) (h : Text) (a : Attributes) (i : Identity) → framed_document c h a i ≡ record { identity = i; inherited = mask_of (inherited_in (policy_of c) (frame_of c.identity a) i.origin); declared = declared_by h }
unfolding framed_document
framed-document c h a i = refl

pub top-parts : (h : Text) (said : OriginSaid) (n : ℕ) → top_document h (top_identity said n) ≡ record { identity = record { serial = n; above = []; origin = arrives_at said (opaque n) n; sandboxed = false }; inherited = mask_of (λ k. inherited_top); declared = values_from (declares h) 0 feature_count }
unfolding top_document top_identity declared_by
top-parts h said n = refl

pub framed-parts : (c : Document) (h : Text) (a : Attributes) (said : OriginSaid) (n : ℕ)
    → framed_document c h a (framed_identity c.identity a said n)
    ≡ record {
      identity = record { serial = n; above = c.identity.serial ∷ c.identity.above; origin = arrives_at said c.identity.origin n; sandboxed = frame_sandboxed c.identity a };
      inherited = mask_of (inherited_in (policy_of c) (frame_of c.identity a) (arrives_at said c.identity.origin n));
      declared = values_from (declares h) 0 feature_count;
    }
unfolding framed_document framed_identity declared_by
framed-parts c h a said n = refl

-- some serials in front of a run
pub stored_is : (l run : List ℕ) → stored l run ≡ l ++ drop (length l) run
unfolding stored
stored_is l run = refl

-- fewer documents stand above a loaded one than are loaded
pub found-fewer : (cs : List Call) (s : ℕ) (x : Document) → find s (table_after cs).docs ≡ Some x → length x.identity.above < length (table_after cs).docs
found-fewer cs s x e = above-fewer cs x (find-some s (table_after cs).docs x e).0
