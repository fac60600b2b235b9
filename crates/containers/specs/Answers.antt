-- What the code's answers mean beside the texts that they are about.
use Rattle.ascii.specs.declared.TextRange.{TextRange}
use Rattle.std.specs.Prelude.{◌≡◌, ℕ, ◌<◌, ◌≤◌, List, ◌++◌, Bool, ◌&&◌, ◌||◌, length, take, get_or, eqb}
use Rattle.std.specs.Prelude.{Option, Some, None}
use Rattle.ascii.specs.Bytes.{pick}
use Rattle.ascii.specs.Literals.{text}
use Rattle.features.specs.Features.{feature_count, name_of}
use Rattle.origins.specs.Origins.{Origin, origin_of}
use Rattle.origins.specs.Origins.Origin.{tuple, fresh}
use Rattle.origins.specs.Answers.{origin_as, tuple_in}
use Rattle.origins.specs.declared.OriginText.{OriginText}
use Rattle.origins.specs.declared.OriginText.TheVariants as text
use Rattle.allowlists.specs.Allowlists.{Allowlist, empty_list}
use Rattle.allowlists.specs.Allowlists.Allowlist.{all}
use Rattle.allowlists.specs.Allowlists.Meaning.{src}
use Rattle.pieces.specs.Words.{entry_list}
use Rattle.pieces.specs.Answers.{words_in, entry_at}
use Rattle.containers.specs.Attributes.{Attributes}
use Rattle.containers.specs.Policies.{is_semicolon, fullscreen, sandbox_closes, closes_plugins, attribute_policy}
use Rattle.containers.specs.Sandboxes.{sandbox_words, without_same_origin, is_sandboxed, declared_origin}
use Rattle.containers.specs.declared.AllowName.{AllowName}
use Rattle.containers.specs.declared.ContainerPolicy.{ContainerPolicy}
use Rattle.containers.specs.declared.ContainerPolicy.TheVariants as policy
use Rattle.containers.specs.declared.DeclaredOrigin.{DeclaredOrigin}
use Rattle.containers.specs.declared.DeclaredOrigin.TheVariants as declared

-- the list that an answer says beside the allow attribute, or none
abbrev pub policy_in : List ℕ → Option ContainerPolicy → Option Allowlist
policy_in s None = None
policy_in s (Some policy.All) = Some all
policy_in s (Some policy.Empty) = Some empty_list
policy_in s (Some (policy.Words r)) = Some (entry_list src (words_in s r))

-- the answer for a feature that allow doesn't name, told whether the sandbox attribute closes it and whether it gets `*` by allowfullscreen
unfoldable pub unnamed_as : Bool → Bool → Option ContainerPolicy
unnamed_as closes star = pick closes (Some policy.Empty) (pick star (Some policy.All) None)

-- the answer for a feature's entry, told what it gets without one
abbrev pub policy_as : Option ContainerPolicy → Option TextRange → Option ContainerPolicy
policy_as unnamed (Some r) = Some (policy.Words r)
policy_as unnamed None = unnamed

-- the answer for a feature, by its entry
unfoldable pub feature_as : Bool → Option (List (List ℕ)) → ℕ → Option TextRange → Option ContainerPolicy
feature_as mark sandbox n e = pick (closes_plugins sandbox n) (Some policy.Empty) (policy_as (unnamed_as (sandbox_closes sandbox n) (mark && eqb n fullscreen)) e)

unfoldable pub policy_at : List ℕ → Bool → Option (List (List ℕ)) → ℕ → Option ContainerPolicy
policy_at s mark sandbox n = feature_as mark sandbox n (entry_at is_semicolon s n)

-- `allow-` and the name of a feature, as the code holds it
pub record IsAllowName (n : ℕ) (r : AllowName) : Type 0 where
  pub is : take r.len r.bytes ≡ text "allow-" ++ name_of n
  pub within : r.len ≤ length r.bytes

-- what `container_policies` promises of each feature: the list that the attributes give it, and where its words stand
pub record IsPolicies (s : List ℕ) (mark : Bool) (sandbox : Option (List (List ℕ))) (r : List (Option ContainerPolicy)) : Type 0 where
  pub says : (n : ℕ) → n < feature_count → policy_in s (get_or r n None) ≡ attribute_policy s mark sandbox n
  pub range : (n : ℕ) → n < feature_count → get_or r n None ≡ policy_at s mark sandbox n

-- what `is_sandboxed` promises: whether the document of every frame with that sandbox attribute is sandboxed
pub record IsSandboxed (above stands : Bool) (s : List ℕ) (r : Bool) : Type 0 where
  pub is : r ≡ above || without_same_origin (sandbox_words stands s)
  pub says : (a : Attributes) → a.has_sandbox ≡ stands → a.sandbox ≡ s → r ≡ is_sandboxed above a

-- the origin that an answer names beside the text of src and the container's origin; none where src is no origin text
abbrev pub declared_in : List ℕ → Origin → Option DeclaredOrigin → Option Origin
declared_in s container (Some declared.Fresh) = Some fresh
declared_in s container (Some declared.Container) = Some container
declared_in s container (Some (declared.Src r)) = Some (tuple (tuple_in s r))
declared_in s container None = None

-- the answer by what src says
unfoldable pub declared_as : Bool → Option OriginText → Option DeclaredOrigin
declared_as sandboxed (Some text.Empty) = pick sandboxed (Some declared.Fresh) (Some declared.Container)
declared_as sandboxed (Some text.Null) = Some declared.Fresh
declared_as sandboxed (Some (text.Tuple r)) = pick sandboxed (Some declared.Fresh) (Some (declared.Src r))
declared_as sandboxed None = None

-- what `declared_origin` promises, told what was read of src and whether the frame's document is sandboxed: the declared origin of every frame of which that is so
pub record IsDeclared (sandboxed : Bool) (src : Option OriginText) (r : Option DeclaredOrigin) : Type 0 where
  pub says : (a : Attributes) (above : Bool) (container : Origin) → sandboxed ≡ is_sandboxed above a → src ≡ origin_as (origin_of a.src) → declared_in a.src container r ≡ declared_origin above a container
  pub range : r ≡ declared_as sandboxed src
