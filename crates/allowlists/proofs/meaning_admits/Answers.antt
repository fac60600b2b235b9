-- `meaning_admits` is right: each arm of the match is a case of the definition.
use Rattle.allowlists.proofs.Meanings.{admits-star, admits-self, admits-src, admits-source, admits-nothing}
use Rattle.allowlists.proofs.meaning_admits.Goals as goal

pub returns-in-All : goal.returns-in-All
returns-in-All c = search admits-star

pub returns-in-SelfOrigin : goal.returns-in-SelfOrigin
returns-in-SelfOrigin c = search admits-self

pub returns-in-SrcOrigin : goal.returns-in-SrcOrigin
returns-in-SrcOrigin c = search admits-src

pub returns-in-Source : goal.returns-in-Source
returns-in-Source c = search admits-source

pub returns-in_default : goal.returns-in_default
returns-in_default c = search admits-nothing
