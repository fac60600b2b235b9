-- `framed_document` is right: its parts are the document's.
use Rattle.std.proofs.Common.{arith}
use Rattle.document_loads.proofs.Framing.{own-short, is_framed}
use Rattle.document_loads.proofs.framed_document.Goals as goal

pub arrive-a-requires : goal.arrive-a-requires
arrive-a-requires c = search own-short

pub overflow_add-depth : goal.overflow_add-depth
overflow_add-depth c = omega (arith, c.number-depth.ensures, c.requires.kept.depth)

pub returns : goal.returns
returns c = is_framed _ _ _ _ _ c.args.frame.now _ _ _ _ _ _ _ c.arrive-a.result _ _ _ c.requires c.origin_text-src_said.ensures c.is_sandboxed.ensures c.is_sandboxed-sandboxed.ensures c.declared_origin-declared.ensures c.own-own.ensures.range c.own-own.ensures.text c.number.ensures c.arrive-a.ensures c.is_declared-is_declared.ensures c.inherited-inherited.ensures c.above_in-above.ensures c.number-depth.ensures
