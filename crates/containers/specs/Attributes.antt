-- 01, "Header and attribute": the attributes of a frame.
use Rattle.std.specs.Prelude.{ℕ, List, Bool}

-- what a frame's attributes say: allow, allowfullscreen, whether a sandbox attribute stands and its text, and the src origin text;
-- with no sandbox attribute its text is not read, but its length still counts for refusal 4
pub record Attributes : Type 0 where
  pub allow : List ℕ
  pub allowfullscreen : Bool
  pub has_sandbox : Bool
  pub sandbox : List ℕ
  pub src : List ℕ
