-- Past the leading spaces the text is at its end, or a member is read, which the end or a comma and another must follow.
use Rattle.ascii.proofs.Reading.{lows, highs}
use Rattle.dictionaries.proofs.Members.{nexts, member-low}
use Rattle.dictionaries.proofs.NextMembers.{next-said}
use Rattle.dictionaries.proofs.next_member.Goals as goal

pub returns-then-s-i : goal.returns-then-s-i
returns-then-s-i c = record { says = search (next-said, nexts); is = search nexts; past = omega lows; upto = omega highs }

pub returns-in_default : goal.returns-in_default
returns-in_default c = record { says = search (next-said, nexts); is = search nexts; past = omega lows; upto = omega highs }

pub returns-in_default-parted : goal.returns-in_default-parted
returns-in_default-parted c = record { says = search (next-said, nexts); is = search nexts; past = omega lows; upto = omega highs }

pub returns : goal.returns
returns c = record { says = search (next-said, nexts); is = search nexts; past = omega (lows, member-low); upto = omega highs }
