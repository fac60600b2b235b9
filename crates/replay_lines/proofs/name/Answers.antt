-- `name` is right: the comparisons are the definition's, in its order.
use Rattle.replay_lines.specs.Format.{name_of}
use Rattle.replay_lines.proofs.Choices.{picks}
use Rattle.replay_lines.proofs.name.Goals as goal

pub returns-then-same : goal.returns-then-same
unfolding name_of
returns-then-same c = search picks depth 12

pub returns-then-same-2 : goal.returns-then-same-2
unfolding name_of
returns-then-same-2 c = search picks depth 12

pub returns-then-same-3 : goal.returns-then-same-3
unfolding name_of
returns-then-same-3 c = search picks depth 12

pub returns-then-same-4 : goal.returns-then-same-4
unfolding name_of
returns-then-same-4 c = search picks depth 12

pub returns-then-same-5 : goal.returns-then-same-5
unfolding name_of
returns-then-same-5 c = search picks depth 12

pub returns-then-same-6 : goal.returns-then-same-6
unfolding name_of
returns-then-same-6 c = search picks depth 12

pub returns-then-same-7 : goal.returns-then-same-7
unfolding name_of
returns-then-same-7 c = search (picks, c.same.ensures, c.if-same.false, c.same-2.ensures, c.if-same-2.false, c.same-3.ensures, c.if-same-3.false, c.same-4.ensures, c.if-same-4.false, c.same-5.ensures, c.if-same-5.false, c.same-6.ensures, c.if-same-6.false, c.same-7.ensures, c.if-same-7.true) depth 12

pub returns-then-same-8 : goal.returns-then-same-8
unfolding name_of
returns-then-same-8 c = search (picks, c.same.ensures, c.if-same.false, c.same-2.ensures, c.if-same-2.false, c.same-3.ensures, c.if-same-3.false, c.same-4.ensures, c.if-same-4.false, c.same-5.ensures, c.if-same-5.false, c.same-6.ensures, c.if-same-6.false, c.same-7.ensures, c.if-same-7.false, c.same-8.ensures, c.if-same-8.true) depth 12

pub returns-else-same-8 : goal.returns-else-same-8
unfolding name_of
returns-else-same-8 c = search (picks, c.same.ensures, c.if-same.false, c.same-2.ensures, c.if-same-2.false, c.same-3.ensures, c.if-same-3.false, c.same-4.ensures, c.if-same-4.false, c.same-5.ensures, c.if-same-5.false, c.same-6.ensures, c.if-same-6.false, c.same-7.ensures, c.if-same-7.false, c.same-8.ensures, c.if-same-8.false) depth 12
