-- `meaning` is right: each arm is the clause of the definition, on the part that the range cuts.
use Rattle.declarations.proofs.Meanings.{item-token, item-string, item-other}
use Rattle.declarations.proofs.meaning.Goals as goal

pub returns-in-Token : goal.returns-in-Token
returns-in-Token c = search item-token

pub returns-in-String : goal.returns-in-String
returns-in-String c = search item-string

pub returns-in-Other : goal.returns-in-Other
returns-in-Other c = search item-other
