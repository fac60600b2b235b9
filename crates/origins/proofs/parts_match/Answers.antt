-- `parts_match` is right: the scheme is tested first, and each arm compares what the definition's clause compares.
use Rattle.origins.proofs.Matches.{match-scheme, match_none, match-any, match-exact, match-other, match-subdomain, match-outside}
use Rattle.origins.proofs.parts_match.Goals as goal

pub returns-then-not-scheme_admits : goal.returns-then-not-scheme_admits
returns-then-not-scheme_admits g c = search match-scheme

pub returns-in_default : goal.returns-in_default
returns-in_default g c = search match_none

pub returns-in-Any : goal.returns-in-Any
returns-in-Any g c = search match-any

pub returns-then-same : goal.returns-then-same
returns-then-same g c = search match-exact

pub returns-else-same : goal.returns-else-same
returns-else-same g c = search match-other

pub returns-then-beneath : goal.returns-then-beneath
returns-then-beneath g c = search match-subdomain

pub returns-else-beneath : goal.returns-else-beneath
returns-else-beneath g c = search match-outside
