-- `keep` is right: with room the byte stands past those kept, and no other field's part changes; without, nothing changes.
use Rattle.replay_lines.proofs.Slots.{keep-room, keep-full}
use Rattle.replay_lines.proofs.keep.Goals as goal

pub returns-then-kept-lt-FIELD_BYTES : goal.returns-then-kept-lt-FIELD_BYTES
returns-then-kept-lt-FIELD_BYTES c = search keep-room

pub returns-else-kept-lt-FIELD_BYTES : goal.returns-else-kept-lt-FIELD_BYTES
returns-else-kept-lt-FIELD_BYTES c = search keep-full
