-- One name to compute with: to unfold it is to unfold every definition that the calls are made of.
use Rattle.containers.specs.Computing.{computing as containers-computing}
use Rattle.decisions.specs.Computing.{computing as decisions-computing}
use Rattle.document_model.specs.Runs.{left_by, answers_by}
use Rattle.document_model.specs.Model.{values_from, declared_by, frame_sandboxed, frame_declared, elem, is_at_or_beneath, find, remaining, removed_count, serials_beneath, refuse_unless, with_document, texts_fit, load, top_identity, framed_identity, top_document, framed_document, stored, fitting_outcome, outcome, answer_to, table_left, table_after, answers}
use Rattle.document_model.specs.History.{events_from, history, accepted_loads, unload_sum, given}

unfoldable pub computing : Unit {0}
unfolding containers-computing decisions-computing left_by answers_by values_from declared_by frame_sandboxed frame_declared elem is_at_or_beneath find remaining removed_count serials_beneath refuse_unless with_document texts_fit load top_identity framed_identity top_document framed_document stored fitting_outcome outcome answer_to table_left table_after answers events_from history accepted_loads unload_sum given
computing = tt
