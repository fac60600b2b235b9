-- `add_expression` is right: each arm adds the parts of its kind, one after the other.
use Rattle.tidying.proofs.Forms.{form-none, form-any, form-exact, form-subdomains}
use Rattle.tidying.proofs.Text.add_expression.Goals as goal

pub returns-in_default : goal.returns-in_default
returns-in_default c = search form-none

pub returns-in-Any : goal.returns-in-Any
returns-in-Any c = search form-any

pub returns-in-Exact : goal.returns-in-Exact
returns-in-Exact c = search form-exact

pub returns-in-Subdomains : goal.returns-in-Subdomains
returns-in-Subdomains c = search form-subdomains
