-- The laws of the model that the crates above cite: these, those that the `pub use` lines pass on, `RowByRow`, `Parts`, `Depths`, and the claims (`Claims`). Assumes nothing.

-- the induction over two runs
pub use Rattle.document_model.proofs.TwoRuns.{Follow, two_runs, two-tables, left-append, answers-append, answers-end, answers_next, left_end, left-next}
-- what each call does; that a refused one, and a question of any kind, leaves the table as it was; that further calls go on from the table that the calls before them left; an induction over the history of calls; after any calls each document is what its load call, found among the calls, makes of its container
pub use Rattle.document_model.proofs.Effects.{Effect, nothing_else, top_loaded, frame_loaded, all_removed, effect, refused-keeps, asked-keeps, table-append, table-one, table_none, answers-after, answers_one, answers-are, table_is, history-induction, Made, made_top, made_framed, made}
-- the answer at a call's place, and the history, read from the answers; told these alone, the model is the model
pub use Rattle.document_model.proofs.Answering.{answer-at, history-is, by-answers}
-- what holds of every table that calls leave
pub use Rattle.document_model.proofs.Invariant.{Invariant, reachable}
-- the documents of the table are the loaded ones, and the serials above each are those that it is beneath
pub use Rattle.document_model.proofs.Agreement.{Agrees, agrees}
-- the first values of a function
pub use Rattle.document_model.proofs.Values.{values-at, values-past, values_length, values-none, values_same, values-snoc}
-- documents looked at one after the other: what is found, stays and is listed; serials stored into a run
pub use Rattle.document_model.proofs.DocumentLists.{elem-first, elem_next, elem-nil, find-here, find-on, find-end, at-or-beneath, remaining-none, remaining-goes, remaining-stays, removed-none, removed-goes, removed-stays, serials-none, serials-more, serials-same, stored-none, stored-front, stored-snoc, stored_more, stored_on, stored-end, beneath-fewer}
-- the serials of the documents that calls leave rise from place to place
pub use Rattle.document_model.proofs.Ascending.{serials-ascend, found_at}
-- which outcomes a call can have
pub use Rattle.document_model.proofs.Outcomes.{Asked, asked_not, asked_is, Told, told_not, told_is, Listed, listed_not, listed_is, Removed, removed_not, removed_is, Pushed, pushed_not, pushed_is, asked-outcome, told-enabled, told-forecast, listed-outcome, removed-outcome, top-outcome, framed-outcome}
-- the documents at the places
pub use Rattle.document_model.proofs.Tables.{in-values}
