-- `has_keyword` is right: a keyword is among words where one of them is it.
use Rattle.std.proofs.Common.{◌∙◌, sym, refl, rules}
use borrow.Author.Tests.{tests}
use Rattle.std.proofs.lemmas.Iterator.Search.{any_from_yields_List}
use Rattle.std.proofs.lemmas.Iterator.Consumers.{YieldsList-from_first}
use Rattle.ascii.specs.Texts.{same_lowered}
use Rattle.pieces.specs.Pieces.{words}
use Rattle.pieces.proofs.Listing.{any-keyword}
use Rattle.pieces.proofs.has_keyword.Goals as goal

pub returns : goal.returns
returns c =
    any_from_yields_List (λ w. same_lowered w c.args.keyword.now) c.any.new.self _ _ c.any.ensures.ran (YieldsList-from_first (λ x. x.now) (λ w. words w.0.now) {s = record { 0 = c.args.s }} (words c.args.s.now) refl) (λ x b q k. search (rules, tests))
    ∙ sym (any-keyword c.args.keyword.now (words c.args.s.now))
