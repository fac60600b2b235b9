-- The laws of settled bytes, for the crates above, which open no definition of this crate. Assumes nothing.
use mathlib.Core.Path.{◌≡◌, refl}
use Prim.Native.Nat.{ℕ, suc, ◌*◌, ◌/◌, ◌%◌, ◌≤◌, ◌<◌}
use mathlib.Core.List.{List, [], ◌∷◌}
use mathlib.Core.Bool.{true, false}
use Rattle.std.specs.Prelude.{Some, None}
use lib.ListN.{take, drop}
use borrow.Author.Tests.{le-ltb, lt-ltb}
use Rattle.ascii.specs.Bytes.{pick}
use Rattle.features.specs.Features.{feature_count}
use Rattle.origins.specs.Expressions.{SourceExpression}
use Rattle.origins.specs.Answers.{expression_by}
use Rattle.allowlists.specs.Allowlists.Allowlist.{all, listed}
use Rattle.allowlists.proofs.Laws.{list-star, list-parts}
use Rattle.settled.specs.Settled.{entry_bytes, head_bytes, word, scheme_bits, host_bits, port_bits, parts_of, expressions_from, Entry, entry_in, marked, entry_declares, declared_in}

-- what the bytes say for a number, by its entry; a number of no feature is undeclared
module _ (d : List ℕ) (n : ℕ) where
  pub declared-by : n < feature_count → declared_in d n ≡ entry_declares (entry_in d (entry_bytes * n)) (drop head_bytes d)
  unfolding declared_in pick
  declared-by h = rw (lt-ltb n feature_count h)

  pub declared-past : feature_count ≤ n → declared_in d n ≡ None
  unfolding declared_in pick
  declared-past h = rw (le-ltb n feature_count h)

-- an entry, by its mark
pub entry-marked : (e : Entry) (l : List ℕ) → entry_declares e l ≡ marked e.mark (expressions_from e.count (drop e.start l))
unfolding entry_declares
entry-marked e l = refl

module _ (es : List SourceExpression) where
  pub marked-none : marked 0 es ≡ None
  unfolding marked pick
  marked-none = refl

  pub marked_all : marked 1 es ≡ Some all
  unfolding marked pick
  marked_all = rw (list-star false false es)

  pub marked-list : marked 2 es ≡ Some (listed false false es)
  unfolding marked pick
  marked-list = rw (list-parts false false es)

  pub marked-self : marked 3 es ≡ Some (listed true false es)
  unfolding marked pick
  marked-self = rw (list-parts true false es)

-- expressions one after the other
pub from-none : (l : List ℕ) → expressions_from 0 l ≡ []
unfolding expressions_from
from-none l = refl

pub from_first : (i k n x y : ℕ) (l : List ℕ) → expressions_from (suc i) (k ∷ n ∷ x ∷ y ∷ l) ≡ expression_by (parts_of k (word x y)) (take n l) ∷ expressions_from i (drop n l)
unfolding expressions_from
from_first i k n x y l = refl

pub parts-by : (k p : ℕ) → parts_of k p ≡ record { scheme = scheme_bits (k % 2); host = host_bits (k / 2 % 4); port = port_bits (k / 8) p }
unfolding parts_of
parts-by k p = refl
