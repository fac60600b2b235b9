-- Whatever the key, the lookup says that a text is not a dictionary exactly if it is none.
use Rattle.std.proofs.Common.{◌∙◌}
use Rattle.dictionaries.proofs.Lookup.{whether}
use Rattle.dictionaries.proofs.is_dictionary.Goals as goal

pub returns : goal.returns
returns c = c.is_ok.ensures.value ∙ whether _ _ _ c.member.ensures.says
