-- Decisions about the document of a slot, in the terms of the code. Assumes nothing.
use Rattle.features.specs.declared.DefaultAllowlist.{DefaultAllowlist}
use Rattle.std.specs.Prelude.{Option, Some}
use mathlib.Core.Path.{◌≡◌, ap, ◌∙◌, sym}
use Prim.Native.Nat.{ℕ}
use mathlib.Core.List.{List}
use mathlib.Core.Bool.{Bool, false}
use Rattle.lent_bytes.specs.Numbers.{number_at}
use Rattle.features.specs.Features.{default_of}
use Rattle.features.specs.Answers.{default_in}
use Rattle.origins.specs.Origins.{Origin}
use Rattle.origins.specs.Origins.Origin.{fresh}
use Rattle.origins.specs.Matching.{same_origin}
use Rattle.origins.proofs.Laws.{fresh-left, fresh-right}
use Rattle.allowlists.specs.Allowlists.{some_admits}
use Rattle.containers.specs.Answers.{declared_in as origin_declared}
use Rattle.containers.specs.declared.DeclaredOrigin.{DeclaredOrigin}
use Rattle.containers.specs.declared.DeclaredOrigin.TheVariants as declared
use Rattle.decisions.specs.Decisions.{value_by, question_by}
use Rattle.decisions.specs.Masks.{mask_of, decision_at}
use Rattle.decisions.specs.Policies.{value_in, question_in, enabled_mask}
use Rattle.decisions.specs.Answers.{decision_in}
use Rattle.decisions.specs.declared.Decision.{Decision as Answer}
use Rattle.decisions.proofs.Laws.{value-says, question-says, value-parts, question-parts, enabled-parts}
use Rattle.settled.specs.Settled.{declared_in}
use Rattle.document_records.specs.Slots.{inherited_place, own_origin, settled_in, slot_policy}
use Rattle.document_records.specs.Records.{declared_is, DeclaredAnswers}
use Rattle.document_records.proofs.Laws.{slot-declared, slot-own, slot-inherited}

-- what the declared list answers
pub declared-answers : (slot d : List ℕ) (n : ℕ) (same : Bool) (o : Origin) (r : Option Bool) → d ≡ settled_in slot → r ≡ some_admits (declared_in d n) same false o → DeclaredAnswers slot n same o r
declared-answers slot d n same o r e h = record { is = rw (slot-declared slot n, ← e) h }

-- *Value* and *Question*
module _ (slot : List ℕ) (n : ℕ) (o : Origin) (same : Bool) (a : Option Bool) (m : ℕ) (i r : Answer) (own : same ≡ same_origin (own_origin slot) o) (admitted : DeclaredAnswers slot n same o a) (read : m ≡ number_at slot inherited_place) (inherited : decision_in i ≡ decision_at m n) where
  inherits : decision_in i ≡ (slot_policy slot).inherited n
  inherits = inherited ∙ (ap (λ (x : ℕ). decision_at x n) read ∙ sym (slot-inherited slot n))

  pub value-is : decision_in r ≡ value_by (decision_in i) a → decision_in r ≡ value_in (slot_policy slot) n o
  value-is e =
      value-says ((slot_policy slot).declared n) (own_origin slot) o same a i r own admitted.is e
      ∙ (rw (inherits, ← (slot-own slot)) (sym (value-parts (slot_policy slot) n o)))

  pub question-is : (default : Option DefaultAllowlist) → default_in default ≡ default_of n → decision_in r ≡ question_by (decision_in i) a (default_in default) same → decision_in r ≡ question_in (slot_policy slot) n o
  question-is default f e =
      question-says ((slot_policy slot).declared n) (own_origin slot) o same a i r own admitted.is default e
      ∙ (rw (inherits, f, ← (slot-own slot)) (sym (question-parts (slot_policy slot) n o)))

-- at a fresh origin, and at the own one
pub fresh-apart : (slot : List ℕ) → false ≡ same_origin (own_origin slot) fresh
fresh-apart slot = sym (fresh-right (own_origin slot))

pub fresh-declared : (c : Origin) (d : Option DeclaredOrigin) (x : DeclaredOrigin) (src : List ℕ) (o : Origin) → d ≡ Some x → x ≡ declared.Fresh → false ≡ declared_is (origin_declared src c d) o
fresh-declared c d x src o k l = rw (k, l) (sym (fresh-left o))

pub enabled-is : (slot s : List ℕ) (o : Origin) (r : ℕ) → s ≡ slot → o ≡ own_origin slot → r ≡ mask_of (λ n. question_in (slot_policy s) n o) → r ≡ enabled_mask (slot_policy slot)
enabled-is slot s o r es eo e = rw (es, eo, ← (slot-own slot)) at e ∙ sym (enabled-parts (slot_policy slot))
