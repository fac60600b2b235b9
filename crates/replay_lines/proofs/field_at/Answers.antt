-- `field_at` is right: the library finds the field that stands at the place; past the last nothing is said, as by a broken field.
use Rattle.std.proofs.Common.{◌∙◌, ap, arith}
use Rattle.std.specs.Prelude.{unwrap_or}
use Rattle.replay_lines.specs.Answers.{broken_field}
use Rattle.replay_lines.proofs.FieldStates.{field-said}
use Rattle.replay_lines.proofs.field_at.Goals as goal

pub returns : goal.returns
returns c = field-said _ _ _ (c.unwrap_or.ensures ∙ (ap (λ o. unwrap_or o broken_field) c.copied.ensures ∙ c.get.ensures.lookup.4 (omega arith) broken_field))
