-- Enabled at a fresh origin is Enabled at every one; what isn't is left, at another origin than the own one, to the declared list: a part of the laws of this crate. Assumes nothing.
use mathlib.Core.Path.{◌≡◌, refl, ◌∙◌}
use Prim.Native.Nat.{ℕ, ◌/◌, ◌%◌, ◌^◌}
use mathlib.Core.Bool.{Bool, true, false}
use Rattle.std.specs.Prelude.{Option, Some, None}
use lib.Dec.{eqb}
use Rattle.ascii.proofs.Clash.{clash}
use Rattle.features.specs.Features.{Default, default_of}
use Rattle.features.specs.Features.Default.{star, self}
use Rattle.origins.specs.Origins.{Origin}
use Rattle.origins.specs.Origins.Origin.{fresh}
use Rattle.origins.specs.Matching.{same_origin}
use Rattle.origins.proofs.Laws.{fresh-right}
use Rattle.allowlists.specs.Allowlists.{Allowlist, list_admits, some_admits}
use Rattle.allowlists.specs.Allowlists.Allowlist.{all}
use Rattle.allowlists.proofs.Laws.{all-admits, some-admits, none-admits}
use Rattle.declarations.specs.Declarations.{declared_admits}
use Rattle.declarations.proofs.Laws.{declared-some, declared-none, declared-fresh}
use Rattle.decisions.specs.Decisions.{Decision, decided, unless_disabled, by_list, by_default, question_by}
use Rattle.decisions.specs.Decisions.Decision.{disabled, enabled}
use Rattle.decisions.specs.Masks.{decision_at}
use Rattle.decisions.specs.Policies.{Policy, question, question_in}

fresh-list : (l : Allowlist) (own o : Origin) (d : Decision) (b : Bool) → declared_admits (Some l) own fresh ≡ Some b → by_list (declared_admits (Some l) own fresh) d ≡ enabled → by_list (declared_admits (Some l) own o) d ≡ enabled
unfolding by_list decided
fresh-list l own o d true e f = rw (declared-fresh l own e, declared-some all own o, all-admits (same_origin own o) false o) refl
fresh-list l own o d false e f = let g : decided false ≡ enabled = rw e at f in clash cc

fresh-default : (t : Option Default) (own o : Origin) → by_default t (same_origin own fresh) ≡ enabled → by_default t (same_origin own o) ≡ enabled
unfolding by_default decided
fresh-default (Some star) own o e = refl
fresh-default (Some self) own o e = let g : decided false ≡ enabled = rw (fresh-right own) at e in clash cc
fresh-default None own o e = let g : decided false ≡ enabled = rw (fresh-right own) at e in clash cc

fresh-question : (i : Decision) (d : Option Allowlist) (t : Option Default) (own o : Origin) → question i d t own fresh ≡ enabled → question i d t own o ≡ enabled
unfolding question question_by unless_disabled by_list
fresh-question disabled d t own o e = clash cc
fresh-question enabled (Some l) t own o e =
    let b = list_admits l (same_origin own fresh) false fresh in
    let at : by_list (declared_admits (Some l) own o) (by_default t (same_origin own fresh)) ≡ enabled = fresh-list l own o (by_default t (same_origin own fresh)) b (declared-some l own fresh) e in
    rw (declared-some l own o) (rw (declared-some l own o) at at)
fresh-question enabled None t own o e = rw (declared-none own o) (fresh-default t own o (rw (declared-none own fresh) at e))

other-default : (t : Option Default) (own o : Origin) → by_default t (same_origin own fresh) ≡ disabled → same_origin own o ≡ false → by_default t (same_origin own o) ≡ disabled
unfolding by_default decided
other-default (Some star) own o e n = clash cc
other-default (Some self) own o e n = rw n refl
other-default None own o e n = rw n refl

other-question : (i : Decision) (d : Option Allowlist) (t : Option Default) (own o : Origin) → question i d t own fresh ≡ disabled → same_origin own o ≡ false
    → question i d t own o ≡ unless_disabled i (by_list (some_admits d false false o) disabled)
unfolding question question_by unless_disabled by_list
other-question disabled d t own o e n = refl
other-question enabled (Some l) t own o e n = rw (declared-some l own o, n, some-admits l false false o) refl
other-question enabled None t own o e n = rw (declared-none own o, none-admits false false o) (other-default t own o (rw (declared-none own fresh) at e) n)

module _ (p : Policy) (n : ℕ) (o : Origin) where
  pub fresh-every : question_in p n fresh ≡ enabled → question_in p n o ≡ enabled
  unfolding question_in
  fresh-every e = fresh-question (p.inherited n) (p.declared n) (default_of n) p.own o e

  -- for another origin than the own one, where the feature isn't Enabled at every one: by the list, and Disabled without one
  pub other-by-list : question_in p n fresh ≡ disabled → same_origin p.own o ≡ false → p.inherited n ≡ enabled → question_in p n o ≡ by_list (some_admits (p.declared n) false false o) disabled
  unfolding question_in
  other-by-list e m i = other-question (p.inherited n) (p.declared n) (default_of n) p.own o e m ∙ inherits i (by_list (some_admits (p.declared n) false false o) disabled)
    where
      inherits : {j : Decision} → j ≡ enabled → (k : Decision) → unless_disabled j k ≡ k
      inherits e k = unfold unless_disabled in rw e refl

-- a bit of a number, as a test
module _ (m n : ℕ) (b : Bool) (e : b ≡ eqb (m / 2 ^ n % 2) 1) where
  pub bit-says : decided b ≡ decision_at m n
  unfolding decision_at
  bit-says = rw e

  pub bit-clear : b ≡ false → decision_at m n ≡ disabled
  unfolding decision_at decided
  bit-clear f = rw (← e, f)

  pub bit-set : b ≡ true → decision_at m n ≡ enabled
  unfolding decision_at decided
  bit-set f = rw (← e, f)

pub decided-off : decided false ≡ disabled
unfolding decided
decided-off = refl

pub decided-on : decided true ≡ enabled
unfolding decided
decided-on = refl
