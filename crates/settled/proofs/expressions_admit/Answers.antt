-- `expressions_admit` is right: a list admits an origin where one of its expressions does.
use Rattle.std.proofs.Common.{◌∙◌, sym, refl, rules, drop}
use borrow.Author.Tests.{tests}
use Rattle.std.proofs.lemmas.Iterator.Search.{any_from_yields_List}
use Rattle.std.proofs.lemmas.Iterator.Consumers.{YieldsList-from_first}
use Rattle.origins.specs.Matching.{admits_tuple}
use Rattle.origins.specs.Answers.{expression_by, tuple_by}
use Rattle.settled.specs.Settled.{expressions_from}
use Rattle.settled.proofs.Reading.{any-listed}
use Rattle.settled.proofs.expressions_admit.Goals as goal

pub returns : goal.returns
returns c =
    let es = expressions_from c.args.count (drop c.args.at c.args.d.now) in
    any_from_yields_List (λ e. admits_tuple e (tuple_by c.args.o c.args.h.now)) c.any.new.self _ _ c.any.ensures.ran
    (YieldsList-from_first (λ x. expression_by x.0 x.1.now) (λ s. expressions_from s.count (drop s.at s.bytes.now)) {s = record { bytes = c.args.d; at = c.args.at; count = c.args.count }} es refl)
    (λ x b q k. search (rules, tests))
    ∙ sym (any-listed es (tuple_by c.args.o c.args.h.now))
