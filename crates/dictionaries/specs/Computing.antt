-- One name to compute with: to unfold it is to unfold every definition of this crate and of those below.
use Rattle.items.specs.Computing.{computing as items_computing}
use Rattle.dictionaries.specs.Dictionaries.{inner_turn, inner_of, closed_of, list_of, lone_of, value_of, bare_key, assigned_of, member_of, parted_of, dict_turn, read_all, data_of, plains, plainly}
use Rattle.dictionaries.specs.Lookup.{into, is_some, latest, last_in, later, last_value_in, parameters_of, last_parameters_in, range_at, placed_at, answer_of, pointed_at, cursor_at, onward, walk, range_in, parameters_in, found_in, found_parameters_in, list_in}
use Rattle.dictionaries.specs.Members.{with_first, next_in, member_at, parted_at, read_at, next_at, fold_members}
use Rattle.dictionaries.specs.Written.{each_after, joined_by, item_text, value_text, member_text, written}

unfoldable pub computing : Unit {0}
unfolding items_computing inner_turn inner_of closed_of list_of lone_of value_of bare_key assigned_of member_of parted_of dict_turn read_all data_of plains plainly into is_some latest last_in later last_value_in parameters_of last_parameters_in range_at placed_at answer_of pointed_at cursor_at onward walk range_in parameters_in found_in found_parameters_in list_in with_first next_in member_at parted_at read_at next_at fold_members each_after joined_by item_text value_text member_text written
computing = tt
