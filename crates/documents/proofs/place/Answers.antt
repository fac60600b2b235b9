-- `place` is right: the slot is written, and gets its entry.
use Rattle.std.proofs.Common.{◌≡◌, refl, ◌+◌, ◌-◌, arith}
use Rattle.document_records.specs.Slots.{slot_bytes}
use Rattle.documents.proofs.Placing.{push-asks, is-placed}
use Rattle.documents.proofs.place.Goals as goal

pub push-requires : goal.push-requires
push-requires c = let z : c.slot_place-p.result + slot_bytes - c.slot_place-p.result ≡ slot_bytes = omega arith in push-asks _ _ _ _ _ c.args.d.now _ _ c.requires.0 c.count-n.ensures c.slot_place-p.ensures z c.write_document-malformed.ensures c.requires.2

pub returns : goal.returns
returns c = let z : c.slot_place-p.result + slot_bytes - c.slot_place-p.result ≡ slot_bytes = omega arith in (is-placed _ _ _ _ _ c.args.d.now _ _ c.requires.0 c.count-n.ensures c.slot_place-p.ensures z c.write_document-malformed.ensures c.requires.2 _ _ c.push.ensures, refl)
