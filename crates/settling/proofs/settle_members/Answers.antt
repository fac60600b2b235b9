use Rattle.std.proofs.Common.{◌≡◌, Ok, Some, None, rules}
use Rattle.settling.proofs.Members.{going-room, going_on, going_end, going-ok}
use Rattle.settling.proofs.settle_members.Goals as goal

pub unwrap-requires : goal.unwrap-requires
unwrap-requires c = search going-ok

pub settle_member-w-requires : goal.settle_member-w-requires
settle_member-w-requires c =
    let e : c.next_member.result ≡ Ok (Some c.in-Some.m) = c.in-Some.ensures in
    search going-room

pub loop-m-preserved : goal.loop-m-preserved
loop-m-preserved c =
    let e : c.next_member.result ≡ Ok (Some c.in-Some.m) = c.in-Some.ensures in
    (search rules, search going_on)

pub returns : goal.returns
returns c =
    let e : c.next_member.result ≡ Ok None = c.in_default.ensures in
    search going_end
