-- `put_refused` is right: the number is the refusal's.
use Rattle.std.proofs.Common.{◌∙◌}
use Rattle.replay_answers.proofs.Answering.{refused_says}
use Rattle.replay_answers.proofs.put_refused.Goals as goal

pub returns : goal.returns
returns c = refused_says _ _ _ _ _ _ (c.from-2.ensures ∙ c.from.ensures) c.put_numbered.ensures
