-- `settle` is right: a refusal leaves the run as it is; else the head is cleared, and the members of a dictionary are settled.
use Rattle.std.proofs.Common.{rules}
use Rattle.settling.proofs.Members.{clear-holds, told-members, answer-long, answer-small, answer-header, answer-malformed}
use Rattle.settling.proofs.settle.Goals as goal

pub returns-then-s-gt-TEXT_BYTES : goal.returns-then-s-gt-TEXT_BYTES
returns-then-s-gt-TEXT_BYTES c = search answer-long

pub returns-then-run-s : goal.returns-then-run-s
returns-then-run-s c = search answer-small

pub returns-then-not-is_dictionary : goal.returns-then-not-is_dictionary
returns-then-not-is_dictionary c = search answer-malformed

pub settle_members-w-requires : goal.settle_members-w-requires
settle_members-w-requires c = (search rules, search rules, search clear-holds, search told-members)

pub returns : goal.returns
returns c = search answer-header
