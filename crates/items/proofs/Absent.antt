-- Where no semicolon stands there are no parameters. Assumes nothing.
use Rattle.std.specs.Prelude.{Some}
use mathlib.Core.Path.{◌≡◌, refl}
use Prim.Native.Nat.{ℕ, min}
use mathlib.Core.List.{List}
use borrow.Author.Tests.{ne_eqb}
use lib.ListN.{length, drop}
use Rattle.ascii.specs.Bytes.{pick}
use Rattle.ascii.specs.Reading.{head_of, on_step, turns}
use Rattle.ascii.specs.Places.{rest_of, left_at}
use Rattle.ascii.proofs.Reading.{place-drop}
use Rattle.items.specs.Items.{param_turn, params_of}

pub params_none : (s : List ℕ) (at b q : ℕ) → b ≡ head_of (drop at s) → (b ≡ 59 → ⊥) → q ≡ min at (length s) → left_at s (Some q) ≡ rest_of (params_of (drop at s))
unfolding params_of turns param_turn on_step pick rest_of left_at
params_none s at b q e n p = rw (← e, ne_eqb b 59 n, place-drop s at q p) refl
