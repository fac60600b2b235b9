-- Demand 3: when what is Enabled stays Enabled.
use Rattle.std.specs.Prelude.{ℕ, ◌≡◌}
use Rattle.allowlists.specs.Widening.{AsWide, AsWideOrOpened}
use Rattle.decisions.specs.Decisions.{Decision}
use Rattle.decisions.specs.Decisions.Decision.{enabled}
use Rattle.decisions.specs.Policies.{Policy, Frame}

-- Enabled at first, and then Enabled too
pub record Stays (d e : Decision) : Type 0 where
  pub keeps : d ≡ enabled → e ≡ enabled

-- two policies of a document at one origin, the second at least as wide: no decision that is inherited falls, and no list admits less
pub record WiderPolicy (p q : Policy) : Type 0 where
  pub own : p.own ≡ q.own
  pub inherits : (n : ℕ) → Stays (p.inherited n) (q.inherited n)
  pub declares : (n : ℕ) → AsWide (p.declared n) (q.declared n)

-- two frames with one declared origin, the second at least as wide: no list admits less, and where one is gone it was empty
pub record WiderFrame (f g : Frame) : Type 0 where
  pub declared : f.declared ≡ g.declared
  pub allows : (n : ℕ) → AsWideOrOpened (f.allowed n) (g.allowed n)
