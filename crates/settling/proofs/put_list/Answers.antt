use Rattle.std.proofs.Common.{rules}
use Rattle.settling.proofs.Listing.{listing_start, listing-room, listing-count, listing-on, listing-end}
use Rattle.settling.proofs.put_list.Goals as goal

pub loop-found-init : goal.loop-found-init
loop-found-init c = (search rules, search listing_start)

pub put_item-n-requires : goal.put_item-n-requires
put_item-n-requires c = (search listing-room, search listing-count)

pub loop-found-preserved : goal.loop-found-preserved
loop-found-preserved c = (search rules, search listing-on)

pub returns : goal.returns
returns c = search listing-end
