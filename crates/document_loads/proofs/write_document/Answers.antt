-- `write_document` is right: the front, the header, and then the decisions that these say.
use Rattle.document_loads.proofs.Written.{raw-kept, writes-is}
use Rattle.document_loads.proofs.write_document.Goals as goal

pub put_decisions-requires : goal.put_decisions-requires
put_decisions-requires c = raw-kept _ _ _ _ c.args.d.now _ c.requires.0 c.requires.1 c.put_front.ensures c.put_header-malformed.ensures

pub returns : goal.returns
returns c = writes-is _ _ _ _ c.args.d.now _ c.requires.0 c.requires.1 c.put_front.ensures c.put_header-malformed.ensures _ c.put_decisions.ensures
