-- One name to compute with: to unfold it is to unfold every definition of this crate and of ascii.
use Rattle.ascii.specs.Computing.{computing as ascii_computing}
use Rattle.items.specs.Items.{key_of, token_of, boolean_of, bytes_of, fraction_of, unsigned_of, number_of, string_turn, string_of, bare_of, param_of, param_turn, params_of, item_of}
use Rattle.items.specs.Found.{item_range, item_found, item_by, item_in}

unfoldable pub computing : Unit {0}
unfolding ascii_computing key_of token_of boolean_of bytes_of fraction_of unsigned_of number_of string_turn string_of bare_of param_of param_turn params_of item_of item_range item_found item_by item_in
computing = tt
