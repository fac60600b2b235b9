-- `put_item` is right: only an expression is written, and `*` and `self` are marked; no item means the src-origin.
use Rattle.std.proofs.Common.{◌≡◌, ◌∙◌, ap, Some}
use Rattle.allowlists.specs.declared.MeaningRange.TheVariants as range
use Rattle.settling.proofs.Listing.{item-packs, item_room, item-all, item-self, item-src, item-source, item-nothing}
use Rattle.settling.proofs.put_item.Goals as goal

pub returns-in_default : goal.returns-in_default
returns-in_default c = search item-nothing

pub put_expression-to-requires : goal.put_expression-to-requires
put_expression-to-requires c =
    let e : c.meaning.result ≡ Some (range.Source c.in-Source.e) = c.in-Some.is ∙ ap Some c.in-Source.is in
    (search item-packs, search item_room)

pub returns-in-All : goal.returns-in-All
returns-in-All c =
    let e : c.meaning.result ≡ Some range.All = c.in-Some.is ∙ ap Some c.in-All.is in
    search item-all

pub returns-in-SelfOrigin : goal.returns-in-SelfOrigin
returns-in-SelfOrigin c =
    let e : c.meaning.result ≡ Some range.SelfOrigin = c.in-Some.is ∙ ap Some c.in-SelfOrigin.is in
    search item-self

pub returns-in-SrcOrigin : goal.returns-in-SrcOrigin
returns-in-SrcOrigin c =
    let e : c.meaning.result ≡ Some range.SrcOrigin = c.in-Some.is ∙ ap Some c.in-SrcOrigin.is in
    search item-src

pub returns-in-Source : goal.returns-in-Source
returns-in-Source c =
    let e : c.meaning.result ≡ Some (range.Source c.in-Source.e) = c.in-Some.is ∙ ap Some c.in-Source.is in
    search item-source
