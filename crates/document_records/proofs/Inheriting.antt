-- What a frame of a slot's document inherits, in the terms of the code. Assumes nothing.
use Rattle.std.specs.Prelude.{None}
use Rattle.features.specs.declared.DefaultAllowlist.{DefaultAllowlist}
use mathlib.Core.Path.{◌≡◌, refl, ◌∙◌, sym}
use Prim.Native.Nat.{ℕ, ◌<◌}
use mathlib.Core.List.{List}
use mathlib.Core.Bool.{Bool}
use Rattle.std.specs.Prelude.{Option}
use lib.ListN.{get_or}
use Rattle.features.specs.Features.{feature_count, default_of}
use Rattle.features.specs.Answers.{default_in}
use Rattle.origins.specs.Origins.{Origin}
use Rattle.origins.specs.Matching.{same_origin}
use Rattle.allowlists.specs.Allowlists.{Allowlist, some_admits}
use Rattle.containers.specs.Policies.{attribute_policy}
use Rattle.containers.specs.Answers.{policy_in, IsPolicies}
use Rattle.containers.specs.declared.ContainerPolicy.{ContainerPolicy}
use Rattle.decisions.specs.Decisions.{Decision, inherited_by}
use Rattle.decisions.specs.Masks.{mask_of}
use Rattle.decisions.specs.Policies.{Policy, value_in, inherited_in}
use Rattle.decisions.specs.Answers.{decision_in}
use Rattle.decisions.specs.declared.Decision.{Decision as Answer}
use Rattle.decisions.proofs.Laws.{inherited-says, inherited-parts}
use Rattle.document_records.specs.Slots.{own_origin, slot_policy}
use Rattle.document_records.specs.Records.{inherited_told, Inherits, IsInherited}
use Rattle.document_records.proofs.Laws.{slot-own}

-- *Inherited* of a feature, by its parts
pub inherits-is : (slot s : List ℕ) (n : ℕ) (allowed : Option Allowlist) (same is_declared : Bool) (own o : Origin) (v w r : Answer) (d : Option Bool) (default : Option DefaultAllowlist)
    → s ≡ slot
    → own ≡ own_origin slot
    → same ≡ same_origin (own_origin s) o
    → decision_in v ≡ value_in (slot_policy slot) n own
    → decision_in w ≡ value_in (slot_policy s) n o
    → d ≡ some_admits allowed same is_declared o
    → default_in default ≡ default_of n
    → decision_in r ≡ inherited_by (decision_in v) (decision_in w) d (default_in default) same
    → Inherits (slot_policy slot) n allowed is_declared o (decision_in r)
inherits-is slot s n allowed same is_declared own o v w r d default es at told e f h k is =
    let here : same ≡ same_origin (own_origin slot) o = rw es at told in
    let arrives : decision_in w ≡ value_in (slot_policy slot) n o = rw es at f in
    record {
      told = is ∙ rw (e, arrives, h, k, here, at, ← (slot-own slot)) refl;
      says = λ x q.
          inherited-says allowed (own_origin slot) x o same is_declared d here q h v w r default is
          ∙ rw (e, arrives, k, at, ← (slot-own slot)) refl;
    }

-- *Inherited* of every feature, by what each call of the closure answered; `Called n d`: it answered d for feature n
pub inherited-is : (p q : Policy) (allow : List ℕ) (mark : Bool) (sandbox : Option (List (List ℕ))) (is_declared : Bool) (o : Origin) (policies : List (Option ContainerPolicy)) (r : ℕ) (Called : ℕ → Answer → Type 0)
    → q ≡ p
    → ((x : ℕ → Decision) → ((n : ℕ) (d : Answer) → n < feature_count → Called n d → decision_in d ≡ x n) → r ≡ mask_of x)
    → ((n : ℕ) (d : Answer) → n < feature_count → Called n d → Inherits q n (policy_in allow (get_or policies n None)) is_declared o (decision_in d))
    → IsPolicies allow mark sandbox policies
    → IsInherited p allow mark sandbox is_declared o r
inherited-is p q allow mark sandbox is_declared o policies r Called same mask each is =
    record {
      told = mask (λ n. inherited_told p n (attribute_policy allow mark sandbox n) is_declared o) (λ n d lt e. rw (← same, ← (is.says n lt)) (each n d lt e).told);
      says = λ f g w. mask (inherited_in p f o) (λ n d lt e. rw (same, is.says n lt) at ((each n d lt e).says f.declared w) ∙ (rw (← (g n)) (sym (inherited-parts p n o f))));
    }
