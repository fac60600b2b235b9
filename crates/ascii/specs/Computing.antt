-- One name to compute with: to unfold it is to unfold every definition of this crate.
use Rattle.ascii.specs.Bytes.{pick, lower}
use Rattle.ascii.specs.Texts.{every, each, same_by, part_of, prepended, cut_at}
use Rattle.ascii.specs.Reading.{head_of, head_is, is_empty, next, run_of, past, skip, let_len, after, mapped, going, adding, on_step, turns}
use Rattle.ascii.specs.Decimals.{decimal_from, decimal_upto, leads_zero, digits_by, last_digits, decimal_text}

unfoldable pub computing : Unit {0}
unfolding pick lower every each same_by part_of prepended cut_at head_of head_is is_empty next run_of past skip let_len after mapped going adding on_step turns decimal_from decimal_upto leads_zero digits_by last_digits decimal_text
computing = tt
