use Rattle.origins.proofs.PortTexts.{writing_start, writing-on, writing-last, writing-end}
use Rattle.origins.proofs.port_text.Goals as goal

pub loop-from-init : goal.loop-from-init
loop-from-init c = writing_start _

pub returns-then-left-lt10 : goal.returns-then-left-lt10
returns-then-left-lt10 c = writing-last _ _ _ _ _ c.loop-from.invariant c.loop-from-test.true c.digit_byte.ensures c.if-left-lt10.true

pub loop-from-preserved : goal.loop-from-preserved
loop-from-preserved c = writing-on _ _ _ _ _ c.loop-from.invariant c.loop-from-test.true c.digit_byte.ensures c.if-left-lt10.false

pub returns : goal.returns
returns c = writing-end _ _ _ _ c.loop-from.invariant c.loop-from-test.false
