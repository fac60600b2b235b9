-- 01, "How a decision falls": decisions of lists and origins. No table is spoken of.
use Rattle.std.specs.Prelude.{ℕ}
use Rattle.std.specs.Prelude.{Option}
use Rattle.features.specs.Features.{Default, default_of}
use Rattle.origins.specs.Origins.{Origin}
use Rattle.origins.specs.Matching.{same_origin}
use Rattle.allowlists.specs.Allowlists.{Allowlist, some_admits}
use Rattle.declarations.specs.Declarations.{declared_admits}
use Rattle.decisions.specs.Decisions.{Decision, value_by, inherited_by, question_by}
use Rattle.decisions.specs.Masks.{mask_of}

-- *Value* of a feature in a document for an origin: what is inherited, what the header declares, the document's own origin, the origin
unfoldable pub value : Decision → Option Allowlist → Origin → Origin → Decision
value inherited declared own o = value_by inherited (declared_admits declared own o)

-- *Inherited*, framed: the container's values for its own and for the arriving origin, the list that the container policy has for the feature, the feature's default, and the container's, the declared and the arriving origin
unfoldable pub inherited_framed : Decision → Decision → Option Allowlist → Option Default → Origin → Origin → Origin → Decision
inherited_framed value_own value_arriving allowed default container declared arriving =
    inherited_by value_own value_arriving (some_admits allowed (same_origin container arriving) (same_origin declared arriving) arriving) default (same_origin container arriving)

-- *Question*: what is inherited, what the header declares, the feature's default, the document's own origin, the origin
unfoldable pub question : Decision → Option Allowlist → Option Default → Origin → Origin → Decision
question inherited declared default own o = question_by inherited (declared_admits declared own o) default (same_origin own o)

-- "Policies are settled at load": what each feature inherits, what is declared for it, and the document's own origin
pub record Policy : Type 0 where
  pub inherited : ℕ → Decision
  pub declared : ℕ → Option Allowlist
  pub own : Origin

-- what the attributes of a frame give: each feature's list, and the declared origin
pub record Frame : Type 0 where
  pub allowed : ℕ → Option Allowlist
  pub declared : Origin

unfoldable pub value_in : Policy → ℕ → Origin → Decision
value_in p n o = value (p.inherited n) (p.declared n) p.own o

unfoldable pub question_in : Policy → ℕ → Origin → Decision
question_in p n o = question (p.inherited n) (p.declared n) (default_of n) p.own o

-- what a document that arrives at an origin in a frame inherits from the container
unfoldable pub inherited_in : Policy → Frame → Origin → ℕ → Decision
inherited_in p f arriving n =
    inherited_framed (value_in p n p.own) (value_in p n arriving) (f.allowed n) (default_of n) p.own f.declared arriving

-- "the features enabled at a document's own origin as one 32-bit number"
unfoldable pub enabled_mask : Policy → ℕ
enabled_mask p = mask_of (λ n. question_in p n p.own)

-- "A *forecast* is what a frame would inherit at its declared origin, as a number with bit n for feature n."
unfoldable pub forecast : Policy → Frame → ℕ
forecast p f = mask_of (λ n. inherited_in p f f.declared n)
