-- What the code's answers say beside a document's bytes.
use Rattle.std.specs.Prelude.{ℕ, suc, ◌+◌, ◌*◌, ◌^◌, ◌≤◌, ◌<◌, min, ◌≡◌, List, [], ◌∷◌, false, length, get_or, drop, eqb, ltb}
use Rattle.std.specs.Prelude.{Option, Some, None}
use Rattle.ascii.specs.Bytes.{pick}
use Rattle.features.specs.Features.{feature_count}
use Rattle.ascii.specs.Texts.{part_in}
use Rattle.origins.specs.Expressions.{SourceExpression}
use Rattle.origins.specs.Answers.{expression_by}
use Rattle.allowlists.specs.Allowlists.{Allowlist}
use Rattle.allowlists.specs.Allowlists.Allowlist.{all, listed}
use Rattle.settled.specs.Settled.{entry_bytes, head_bytes, word_at, parts_of, expressions_from, Entry, entry_in, declared_in}
use Rattle.origins.specs.declared.ExpressionRange.{ExpressionRange}
use Rattle.settled.specs.declared.ListFound.{ListFound}
use Rattle.settled.specs.declared.ListFound.TheVariants as list

-- the expression that an answer says
abbrev pub settled_in : List ℕ → ExpressionRange → SourceExpression
settled_in d e = expression_by e.parts (part_in d e.host)

-- where the next expression starts, as a bound from below and from above
abbrev pub low_next : Option ExpressionRange → ℕ
low_next (Some e) = e.host.to
low_next None = 2 ^ 64

abbrev pub high_next : Option ExpressionRange → ℕ
high_next (Some e) = e.host.to
high_next None = 0

-- the first of so many expressions, and those past it
abbrev pub rest_from : ℕ → List ℕ → Option ExpressionRange → List SourceExpression
rest_from i d (Some e) = settled_in d e ∷ expressions_from i (drop e.host.to d)
rest_from i d None = []

-- the answer for the expression at a place
unfoldable pub expression_at : List ℕ → ℕ → Option ExpressionRange
expression_at d at =
    pick (ltb (length d) (at + 4)) None
    (Some (record { parts = parts_of (get_or d at 0) (word_at d (at + 2)); host = record { from = at + 4; to = min (at + 4 + get_or d (at + 1) 0) (length d) } }))

-- the answer is the expression at a place, where one is, however many follow; the next one starts past that place, and within the bytes
pub record IsExpressionAt (d : List ℕ) (at : ℕ) (r : Option ExpressionRange) : Type 0 where
  pub is : r ≡ expression_at d at
  pub says : (i : ℕ) → expressions_from (suc i) (drop at d) ≡ rest_from i d r
  pub past : at < low_next r
  pub upto : high_next r ≤ length d

-- what an answer says of a feature's list
abbrev pub list_in : List ℕ → Option ListFound → Option Allowlist
list_in d None = None
list_in d (Some list.All) = Some all
list_in d (Some (list.Listed r)) = Some (listed r.own false (expressions_from r.count (drop r.at d)))

-- the answer for an entry of the head, and for a feature
unfoldable pub list_by : Entry → Option ListFound
list_by e =
    pick (eqb e.mark 0) None
    (Some (pick (eqb e.mark 1) list.All (list.Listed (record { own = eqb e.mark 3; at = head_bytes + e.start; count = e.count }))))

unfoldable pub list_at : List ℕ → ℕ → Option ListFound
list_at d n = pick (ltb n feature_count) (list_by (entry_in d (entry_bytes * n))) None

-- what `list_of` promises: what the bytes say, and where the list stands
pub record IsList (d : List ℕ) (n : ℕ) (r : Option ListFound) : Type 0 where
  pub says : declared_in d n ≡ list_in d r
  pub is : r ≡ list_at d n
