-- What origin texts say, and the origins at which documents arrive. Assumes nothing.
use mathlib.Core.Path.{◌≡◌, refl}
use Prim.Native.Nat.{ℕ, suc, ◌≤◌, ◌<◌}
use native.Mathlib.Omega.{arith}
use mathlib.Core.Bool.{Bool, true, false}
use mathlib.Core.List.{[]}
use Rattle.ascii.proofs.Clash.{clash}
use Rattle.origins.specs.Origins.{Origin, OriginSaid, TupleOrigin, origin_of}
use Rattle.origins.specs.Origins.Origin.{tuple, opaque}
use Rattle.origins.specs.Origins.OriginSaid.{says_empty, says_null, says_tuple, no_origin}
use Rattle.origins.specs.Matching.{same_origin}
use Rattle.origins.proofs.Laws.{tuple-self, opaque-self, same-one, text-empty}
use Rattle.document_model.specs.Model.{is_good_origin, is_null, arrives_at}

pub not_good : (said : OriginSaid) → is_good_origin said ≡ false → said ≡ no_origin
not_good says_empty e = clash cc
not_good says_null e = clash cc
not_good (says_tuple o) e = clash cc
not_good no_origin e = refl

pub good-not : (said : OriginSaid) → is_good_origin said ≡ true → said ≡ no_origin → ⊥
good-not says_empty e z = clash cc
good-not says_null e z = clash cc
good-not (says_tuple o) e z = clash cc
good-not no_origin e z = clash cc

pub empty-good : is_good_origin (origin_of []) ≡ true
empty-good = rw text-empty

pub not_null : (said : OriginSaid) → is_null said ≡ false → said ≡ says_null → ⊥
not_null says_empty e z = clash cc
not_null says_null e z = clash cc
not_null (says_tuple o) e z = clash cc
not_null no_origin e z = clash cc

pub is-null : (said : OriginSaid) → is_null said ≡ true → said ≡ says_null
is-null says_empty e = clash cc
is-null says_null e = refl
is-null (says_tuple o) e = clash cc
is-null no_origin e = clash cc

pub arrives-itself : (said : OriginSaid) (o : Origin) (n : ℕ) → same_origin o o ≡ true → same_origin (arrives_at said o n) (arrives_at said o n) ≡ true
arrives-itself says_empty o n h = h
arrives-itself says_null o n h = opaque-self n
arrives-itself (says_tuple x) o n h = tuple-self x
arrives-itself no_origin o n h = opaque-self n

pub other-opaque : (m k : ℕ) (b : Bool) → same_origin (opaque m) (opaque k) ≡ b → m < k → b ≡ false
other-opaque m k true e l = let q : opaque m ≡ opaque k = same-one (opaque m) (opaque k) e in let z : m ≡ k = cc in absurd (omega arith)
other-opaque m k false e l = refl

pub tuple-opaque : (x : TupleOrigin) (k : ℕ) (b : Bool) → same_origin (tuple x) (opaque k) ≡ b → b ≡ false
tuple-opaque x k true e = let q : tuple x ≡ opaque k = same-one (tuple x) (opaque k) e in clash cc
tuple-opaque x k false e = refl

pub arrives-apart : (said : OriginSaid) (o : Origin) (n : ℕ) → ((k : ℕ) → suc n ≤ k → same_origin o (opaque k) ≡ false) → (k : ℕ) → suc n ≤ k → same_origin (arrives_at said o n) (opaque k) ≡ false
arrives-apart says_empty o n h k l = h k l
arrives-apart says_null o n h k l = other-opaque n k (same_origin (opaque n) (opaque k)) refl l
arrives-apart (says_tuple x) o n h k l = tuple-opaque x k (same_origin (tuple x) (opaque k)) refl
arrives-apart no_origin o n h k l = other-opaque n k (same_origin (opaque n) (opaque k)) refl l
