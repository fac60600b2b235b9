-- A bare item is read, and its parameters from the place past it.
use Rattle.std.proofs.Common.{◌≡◌, ◌∙◌, sym, Some, None, drop}
use Rattle.ascii.proofs.Reading.{reads, lows, highs}
use Rattle.items.proofs.Ranges.{end-found, end_none, found-low, found-high}
use Rattle.items.specs.Items.{bare_of}
use Rattle.dictionaries.specs.Dictionaries.{lone_of}
use Rattle.dictionaries.proofs.Values.{rest-closed, value-after, value-unread, item-ranged}
use Rattle.dictionaries.proofs.item_value.Goals as goal

pub returns-in_err-found : goal.returns-in_err-found
unfolding lone_of
returns-in_err-found c =
    let n : c.bare_item.result ≡ None = c.in_err-found.was in
    rw c.from_residual.ensures (record { is = search (value-unread, end_none); left = search (reads, rest-closed, end_none) depth 9 fits 20000; from = omega lows; upto = omega highs })

pub returns : goal.returns
unfolding lone_of
returns c =
    let efound : c.bare_item.result ≡ Some c.in_ok-found.found = c.in_ok-found.was in
    record { is = value-after _ _ _ c.bare_item.ensures.left _ _ _ (end-found _ _ efound) (λ x h. c.with_params.ensures.is _ _ (item-ranged _ _ c.requires c.in_ok-found.found (bare_of (drop c.args.at c.args.s.now)) x _ (sym efound ∙ c.bare_item.ensures.is) h)); left = search (reads, rest-closed, end-found) depth 9 fits 20000; from = omega (lows, found-low, found-high); upto = omega highs }
