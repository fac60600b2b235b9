-- `seen` is right: an expression was seen where one of those before it has its normal form.
use Rattle.std.proofs.Common.{◌∙◌, sym, refl, rules, drop}
use borrow.Author.Tests.{tests}
use Rattle.std.proofs.lemmas.Iterator.Search.{any_from_yields_List}
use Rattle.std.proofs.lemmas.Iterator.Consumers.{YieldsList-from_first}
use Rattle.origins.specs.Answers.{expression_by}
use Rattle.origins.specs.NormalForms.{normal, same_expression}
use Rattle.settled.specs.Settled.{expressions_from}
use Rattle.tidying.proofs.Listing.{among-any}
use Rattle.tidying.proofs.seen.Goals as goal

pub returns : goal.returns
returns c =
    let es = expressions_from c.args.count (drop c.args.first c.args.d.now) in
    let own = normal (expression_by c.args.e c.args.h.now) in
    any_from_yields_List (λ f. same_expression own (normal f)) c.any.new.self _ _ c.any.ensures.ran
    (YieldsList-from_first (λ x. expression_by x.0 x.1.now) (λ s. expressions_from s.count (drop s.at s.bytes.now)) {s = record { bytes = c.args.d; at = c.args.first; count = c.args.count }} es refl)
    (λ x b q k. search (rules, tests))
    ∙ sym (among-any own es)
