-- What claims about lists of calls speak of: whatever answers every list of calls on a new table.
-- The record alone doesn't tie its four parts to each other. The claims are meant of `the_model` and of `by_answers f`: there all four are readings of the answers `f`, and `by_answers answers` is `the_model` (`proofs/Laws: by-answers`).
use Rattle.std.specs.Prelude.{ℕ, List, [], ◌∷◌, ◌++◌, length, get_or, drop}
use Rattle.document_model.specs.Model.{Call, Answer, refused, answers, answer_after, answers_after}
use Rattle.document_model.specs.History.{Event, history}

pub record Answering : Type 0 where
  -- the answers to a list of calls, in order
  pub answers : List Call → List Answer
  -- what a further call, and further calls, answer after a list of calls
  pub answer_after : List Call → Call → Answer
  pub answers_after : List Call → List Call → List Answer
  -- the calls with their answers, the last one first
  pub history : List Call → List Event

-- the model
abbrev pub the_model : Answering
the_model = record { answers = answers; answer_after = answer_after; answers_after = answers_after; history = history }

-- calls with their answers, the last one first, past those before
unfoldable pub events_of : List Call → List Answer → List Event → List Event
events_of [] l es = es
events_of (c ∷ cs) [] es = es
events_of (c ∷ cs) (a ∷ l) es = events_of cs l (record { call = c; answer = a } ∷ es)

-- the answer at a place of a list; past its end one that no call gives
abbrev pub answer_at : ℕ → List Answer → Answer
answer_at i l = get_or l i (refused 0)

-- told the answers alone: a further call's answer is the one at its place
abbrev pub by_answers : (List Call → List Answer) → Answering
by_answers f =
    record {
      answers = f;
      answer_after = λ cs c. answer_at (length cs) (f (cs ++ (c ∷ [])));
      answers_after = λ cs ds. drop (length cs) (f (cs ++ ds));
      history = λ cs. events_of cs (f cs) [];
    }
