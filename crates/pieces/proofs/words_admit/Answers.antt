-- `words_admit` is right: a list of words admits an origin where one of them does.
use Rattle.std.proofs.Common.{◌∙◌, sym, refl, rules}
use borrow.Author.Tests.{tests}
use Rattle.std.proofs.lemmas.Iterator.Search.{any_from_yields_List}
use Rattle.std.proofs.lemmas.Iterator.Consumers.{YieldsList-from_first}
use Rattle.origins.specs.Answers.{origin_in}
use Rattle.allowlists.specs.Allowlists.{meaning_admits}
use Rattle.pieces.specs.Pieces.{words}
use Rattle.pieces.specs.Words.{word_meaning}
use Rattle.pieces.proofs.Listing.{any-admits}
use Rattle.pieces.proofs.words_admit.Goals as goal

pub returns : goal.returns
returns c =
    any_from_yields_List (λ w. meaning_admits (word_meaning w) c.args.is_self c.args.is_src (origin_in c.args.t.now c.args.o)) c.any.new.self _ _ c.any.ensures.ran (YieldsList-from_first (λ x. x.now) (λ w. words w.0.now) {s = record { 0 = c.args.s }} (words c.args.s.now) refl) (λ x b q k. search (rules, tests))
    ∙ sym (any-admits (words c.args.s.now) c.args.is_self c.args.is_src (origin_in c.args.t.now c.args.o))
