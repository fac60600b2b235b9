-- `refused_numbers` is right: each arm is a case of the definition.
use Rattle.speed_exports.proofs.Answers.{refused-told}
use Rattle.speed_exports.proofs.refused_numbers.Goals as goal

pub returns : goal.returns
returns c = search refused-told
