-- Demand 3: when one allowlist admits at least what another admits.
use Rattle.std.specs.Prelude.{◌≡◌, Bool, true}
use Rattle.std.specs.Prelude.{Option, Some, None}
use Rattle.origins.specs.Origins.{Origin}
use Rattle.allowlists.specs.Allowlists.{Allowlist, empty_list, list_admits}

-- every origin that one allowlist admits the other admits too, whatever the self-origin and the src-origin are
pub record Wider (l m : Allowlist) : Type 0 where
  pub keeps : (at_self at_src : Bool) (o : Origin) → list_admits l at_self at_src o ≡ true → list_admits m at_self at_src o ≡ true

-- neither has a list, or both have and the second is as wide
pub data AsWide : Option Allowlist → Option Allowlist → Type 0 where
  neither : AsWide None None
  both : {l m : Allowlist} → Wider l m → AsWide (Some l) (Some m)

-- the second is as wide; or the first has the empty list, which admits nobody, and the second has none
pub data AsWideOrOpened : Option Allowlist → Option Allowlist → Type 0 where
  as_wide : {c d : Option Allowlist} → AsWide c d → AsWideOrOpened c d
  opened : AsWideOrOpened (Some empty_list) None
