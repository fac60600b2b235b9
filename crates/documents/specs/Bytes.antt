-- Every byte of the lent run after a call: by the model's outcome, and by the bytes before.
use Rattle.std.specs.Prelude.{ℕ, false, List, [], ◌∷◌}
use Rattle.origins.specs.Origins.Origin.{fresh}
use Rattle.document_model.specs.Model.{Text, Document, Table, Call, top_load, framed_load, unload, question, enabled_features, listing, forecast_of, Outcome, refuse, accept, outcome}
use Rattle.document_table.specs.Layout.{count_in, slot_number, slot_of, view, loaded_run, removed_run}
use Rattle.document_loads.specs.Slots.{written}

-- the last of some documents
unfoldable pub newest : Document → List Document → Document
newest d [] = d
newest d (x ∷ l) = newest x l

abbrev pub no_document : Document
no_document = record { identity = record { serial = 0; above = []; origin = fresh; sandboxed = false }; inherited = 0; declared = [] }

-- a load writes the newest document of the table that it leaves, with its header, into the first free slot
abbrev pub with_newest : List ℕ → Table → Text → List ℕ
with_newest run t h = loaded_run run (written (slot_of run (slot_number run (count_in run))) (newest no_document t.docs) h)

-- an accepted call that leaves a table
abbrev pub changed : Call → Table → List ℕ → List ℕ
changed (top_load h o) t run = with_newest run t h
changed (framed_load c h o a) t run = with_newest run t h
changed (unload s) t run = removed_run s run
changed (question s f o) t run = run
changed (enabled_features s) t run = run
changed (listing s l) t run = run
changed (forecast_of c a) t run = run

-- "A refusal returns only its number and changes nothing"
abbrev pub bytes_in : Call → Outcome → List ℕ → List ℕ
bytes_in c (refuse n) run = run
bytes_in c (accept a t) run = changed c t run

unfoldable pub bytes_left : Call → List ℕ → List ℕ
bytes_left c run = bytes_in c (outcome c (view run)) run
