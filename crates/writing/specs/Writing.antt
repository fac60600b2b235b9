-- A text put into a lent run of bytes: what the run is then, and the place after the text.
use Rattle.std.specs.Prelude.{ℕ, ◌+◌, min, ◌≡◌, List, length}
use Rattle.std.proofs.lemmas.List.Edits.{sets}

-- the run with the bytes of a text stored one after the other from a place on; those that would stand past the run's end are left out
unfoldable pub with_text : List ℕ → ℕ → List ℕ → List ℕ
with_text run at t = sets run at t

-- the place after the text; where not all of it has room, one past the run's end, which says so
abbrev pub place_after : List ℕ → ℕ → List ℕ → ℕ
place_after run at t = min (at + length t) (length run + 1)

-- a text was put into a run
pub record Puts (before : List ℕ) (at : ℕ) (t after : List ℕ) (r : ℕ) : Type 0 where
  pub run : after ≡ with_text before at t
  pub to : r ≡ place_after before at t
