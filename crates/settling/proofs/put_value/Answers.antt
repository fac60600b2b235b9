-- `put_value` is right: each arm writes what its case of the value has.
use Rattle.std.proofs.Common.{arith}
use Rattle.settling.proofs.Listing.{lone_room, list-room, lone-put, list_put}
use Rattle.settling.proofs.put_value.Goals as goal

pub put_item-n-requires : goal.put_item-n-requires
put_item-n-requires c = (search lone_room, omega arith)

pub put_list-n-requires : goal.put_list-n-requires
put_list-n-requires c = search list-room

pub returns-in-Item : goal.returns-in-Item
returns-in-Item c = search lone-put

pub returns-in-List : goal.returns-in-List
returns-in-List c = search list_put
