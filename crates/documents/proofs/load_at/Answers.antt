-- `load_at` is right: the document in the frame of the one there is written.
use Rattle.documents.proofs.FramedLoads.{loads-at}
use Rattle.documents.proofs.load_at.Goals as goal

pub framed_document-d-requires : goal.framed_document-d-requires
framed_document-d-requires c = c.slot-c.ensures.good

pub returns : goal.returns
returns c = loads-at _ c.args.p _ _ _ c.args.frame.now _ c.framed_document-d.result _ c.place.result c.slot-c.ensures c.framed_document-d.ensures c.place.ensures
