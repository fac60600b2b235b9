-- A text that grows in a buffer of the limit's size: what the writing functions promise.
use Rattle.std.specs.Prelude.{ℕ, ◌<◌, ◌≤◌, ◌≡◌, List, ◌++◌, length, take}
use Rattle.limits.specs.Limits.{text_bytes}
use Rattle.tidying.specs.declared.Text.{Text}

-- what a text holds so far; or it is too long, and its length says so
pub record Holds (x : Text) (held : List ℕ) : Type 0 where
  pub fits : x.len ≤ text_bytes → (x.len ≡ length held) × (take x.len x.bytes ≡ held)
  pub over : text_bytes < x.len → text_bytes < length held

-- something was added to whatever the text held
pub record Adding (before : Text) (added : List ℕ) (after : Text) : Type 0 where
  pub holds : (held : List ℕ) → Holds before held → Holds after (held ++ added)
