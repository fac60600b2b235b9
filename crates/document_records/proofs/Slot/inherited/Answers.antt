-- `inherited` is right: each feature inherits by its container policy, and the mask has a bit for each.
use Rattle.std.proofs.Common.{ap, rules}
use Rattle.document_records.specs.Slots.{slot_policy}
use Rattle.document_records.proofs.Inheriting.{inherited-is}
use Rattle.document_records.proofs.Slot.inherited.Goals as goal

pub returns : goal.returns
returns c =
    inherited-is _ _ _ _ _ _ _ _ _ _
    (ap slot_policy c.asked_at_own-own.ensures.slot)
    c.mask_by.ensures.bits
    (λ n d lt e. search rules)
    c.container_policies-policies.ensures
