use Rattle.writing.proofs.Laws.{puts-small, puts-great}
use Rattle.writing.proofs.+put_decimal.Goals as goal

pub returns-then-n-lt10 : goal.returns-then-n-lt10
returns-then-n-lt10 t c = search puts-small

pub returns : goal.returns
returns t c = search puts-great
