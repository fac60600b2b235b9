-- `next` is right: the first word, and what stands past it.
use Rattle.pieces.proofs.Cutting.{words_nil, word-steps, fewer_words}
use Rattle.pieces.proofs.WordsIterator.next.Goals as goal

pub returns-in_default-clause-steps : goal.returns-in_default-clause-steps
returns-in_default-clause-steps c = (c.in_default.ensures.says, words_nil)

pub returns-clause-steps : goal.returns-clause-steps
returns-clause-steps c = word-steps _ _ c.in-Some.ensures.says c.in-Some.ensures.upto _ c.part-self.ensures _ c.of.ensures

pub returns-clause-goes : goal.returns-clause-goes
returns-clause-goes c = record { on = λ _. (tt, tt, fewer_words _ _ c.in-Some.ensures.says c.in-Some.ensures.upto _ c.part-self.ensures); keeps = tt; rests = λ _. tt }
