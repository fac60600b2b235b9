-- Told its answers alone, the model is the model: a part of the laws of this crate. Assumes nothing.
use mathlib.Core.Path.{◌≡◌, refl}
use mathlib.Core.List.{List, [], ◌∷◌, ◌++◌}
use lib.ListN.{length, get_or, drop}
use Rattle.document_model.specs.Runs.{answers_by}
use Rattle.document_model.specs.Model.{Table, new_table, Call, Answer, refused, answer_to, table_left, table_after, answers, answers_after}
use Rattle.document_model.specs.History.{Event, events_from, history}
use Rattle.document_model.specs.Answering.{the_model, events_of, answer_at, by_answers}
use Rattle.document_model.proofs.Effects.{answers-after}

answers-many : (cs : List Call) (t : Table) → length (answers_by answer_to table_left cs t) ≡ length cs
unfolding answers_by
answers-many [] t = refl
answers-many (c ∷ cs) t = rw (answers-many cs (table_left c t))

as_many : (cs : List Call) → length (answers cs) ≡ length cs
unfolding answers
as_many cs = answers-many cs new_table

events-are : (cs : List Call) (t : Table) (es : List Event) → events_of cs (answers_by answer_to table_left cs t) es ≡ events_from cs t es
unfolding answers_by events_of events_from
events-are [] t es = refl
events-are (c ∷ cs) t es = events-are cs (table_left c t) (record { call = c; answer = answer_to c t } ∷ es)

pub history-is : (cs : List Call) → events_of cs (answers cs) [] ≡ history cs
unfolding answers history
history-is cs = events-are cs new_table []

past : (l m : List Answer) → drop (length l) (l ++ m) ≡ m
past [] m = refl
past (x ∷ l) m = past l m

at_place : (l m : List Answer) (x z : Answer) → get_or (l ++ (x ∷ m)) (length l) z ≡ x
at_place [] m x z = refl
at_place (y ∷ l) m x z = at_place l m x z

-- the answer at a call's place is what the call answers after those before it
pub answer-at : (cs : List Call) (c : Call) (ds : List Call) → answer_at (length cs) (answers (cs ++ (c ∷ ds))) ≡ answer_to c (table_after cs)
unfolding answers_by
answer-at cs c ds = rw (answers-after cs (c ∷ ds), ← as_many cs) (at_place (answers cs) (answers_by answer_to table_left ds (table_left c (table_after cs))) (answer_to c (table_after cs)) (refused 0))

further-are : (cs ds : List Call) → drop (length cs) (answers (cs ++ ds)) ≡ answers_after cs ds
further-are cs ds = rw (answers-after cs ds, ← as_many cs) (past (answers cs) (answers_after cs ds))

pub by-answers : by_answers answers ≡ the_model
by-answers = λ i. record { answers = answers; answer_after = λ cs c. answer-at cs c [] i; answers_after = λ cs ds. further-are cs ds i; history = λ cs. history-is cs i }
