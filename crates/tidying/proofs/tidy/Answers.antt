-- `tidy` is right: each test is one of the definition, in its order, and the buffer holds the tidied form.
use Rattle.std.proofs.Common.{◌≡◌, ◌∙◌, ap, Err}
use Rattle.settling.specs.declared.SettleError.TheVariants as error
use Rattle.tidying.proofs.Answering.{input-long, never-small, malformed, output-long, run_short, written_out}
use Rattle.tidying.proofs.tidy.Goals as goal

pub returns-then-f : goal.returns-then-f
returns-then-f c = search malformed

pub returns-in_default : goal.returns-in_default
returns-in_default c = search (output-long, c.in_default.ensures)

pub returns-then-room-text : goal.returns-then-room-text
returns-then-room-text c = search (run_short, c.in-Some.ensures)

pub returns-else-room-text : goal.returns-else-room-text
returns-else-room-text c = search (written_out, c.in-Some.ensures)

pub returns-in-Err-TooLong : goal.returns-in-Err-TooLong
returns-in-Err-TooLong c =
    let e : c.settle.result ≡ Err error.TooLong = c.in-Err-TooLong.is ∙ ap Err c.in-Err-TooLong.field-0-is in
    search input-long

pub returns-in-Err-NoRoom : goal.returns-in-Err-NoRoom
returns-in-Err-NoRoom c =
    let e : c.settle.result ≡ Err error.NoRoom = c.in-Err-NoRoom.is ∙ ap Err c.in-Err-NoRoom.field-0-is in
    search never-small
