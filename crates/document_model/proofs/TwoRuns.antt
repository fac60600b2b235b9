-- The induction over two runs, once: over any two kinds of calls, tables and answers, and any relations of them. Assumes nothing.
use mathlib.Core.List.{List, [], ◌∷◌, ◌++◌}
use mathlib.Core.Path.{◌≡◌, refl, ap}
use Rattle.document_model.specs.Runs.{left_by, answers_by, Each, no_more, each}

-- related calls on related tables give related answers and leave related tables
pub record Follow {C D S U A B : Type 0} (answer₁ : C → S → A) (left₁ : C → S → S) (answer₂ : D → U → B) (left₂ : D → U → U)
    (Calls : C → D → Type 0) (Tables : S → U → Type 0) (Answers : A → B → Type 0) : Type 0 where
  pub answer : {c : C} {d : D} {s : S} {u : U} → Calls c d → Tables s u → Answers (answer₁ c s) (answer₂ d u)
  pub table : {c : C} {d : D} {s : S} {u : U} → Calls c d → Tables s u → Tables (left₁ c s) (left₂ d u)

-- then lists of calls, related place by place, give answers related place by place, and leave related tables
module _ {C D S U A B : Type 0} {answer₁ : C → S → A} {left₁ : C → S → S} {answer₂ : D → U → B} {left₂ : D → U → U}
    {Calls : C → D → Type 0} {Tables : S → U → Type 0} {Answers : A → B → Type 0} (f : Follow answer₁ left₁ answer₂ left₂ Calls Tables Answers) where
  pub two_runs : {cs : List C} {ds : List D} {s : S} {u : U} → Each Calls cs ds → Tables s u → Each Answers (answers_by answer₁ left₁ cs s) (answers_by answer₂ left₂ ds u)
  unfolding answers_by
  two_runs no_more r = no_more
  two_runs (each c cs) r = each (f.answer c r) (two_runs cs (f.table c r))

  pub two-tables : {cs : List C} {ds : List D} {s : S} {u : U} → Each Calls cs ds → Tables s u → Tables (left_by left₁ cs s) (left_by left₂ ds u)
  unfolding left_by
  two-tables no_more r = r
  two-tables (each c cs) r = two-tables cs (f.table c r)

-- further calls go on from the table that the calls before them left
pub left-append : {C S : Type 0} (left : C → S → S) (cs ds : List C) (s : S) → left_by left (cs ++ ds) s ≡ left_by left ds (left_by left cs s)
unfolding left_by
left-append left [] ds s = refl
left-append left (c ∷ cs) ds s = left-append left cs ds (left c s)

pub answers-append : {C S A : Type 0} (answer : C → S → A) (left : C → S → S) (cs ds : List C) (s : S) → answers_by answer left (cs ++ ds) s ≡ answers_by answer left cs s ++ answers_by answer left ds (left_by left cs s)
unfolding answers_by left_by
answers-append answer left [] ds s = refl
answers-append answer left (c ∷ cs) ds s = ap (λ (l : List _). answer c s ∷ l) (answers-append answer left cs ds (left c s))

-- a list of calls: none, or one and further ones
module _ {C S A : Type 0} (answer : C → S → A) (left : C → S → S) (s : S) where
  pub answers-end : answers_by answer left [] s ≡ []
  unfolding answers_by
  answers-end = refl

  pub answers_next : (c : C) (cs : List C) → answers_by answer left (c ∷ cs) s ≡ answer c s ∷ answers_by answer left cs (left c s)
  unfolding answers_by
  answers_next c cs = refl

  pub left_end : left_by left [] s ≡ s
  unfolding left_by
  left_end = refl

  pub left-next : (c : C) (cs : List C) → left_by left (c ∷ cs) s ≡ left_by left cs (left c s)
  unfolding left_by
  left-next c cs = refl
