-- Spaces are skipped; nothing is read where ")" stands.
use Rattle.ascii.proofs.Reading.{lows, highs}
use Rattle.dictionaries.proofs.InnerLists.{items-said, past-cursor}
use Rattle.dictionaries.proofs.Values.{cursors}
use Rattle.dictionaries.proofs.item_at.Goals as goal

pub returns-then-byte-eq41 : goal.returns-then-byte-eq41
returns-then-byte-eq41 c = record { says = search (items-said, cursors); is = search cursors; past = omega lows; upto = omega highs }

pub returns : goal.returns
returns c = record { says = search (items-said, cursors); is = search cursors; past = past-cursor c.args.cursor c.run_end-i.result _ c.inner_item.result (omega lows) c.run_end-i.ensures.from c.inner_item.ensures.past c.inner_item.ensures.upto; upto = omega highs }
