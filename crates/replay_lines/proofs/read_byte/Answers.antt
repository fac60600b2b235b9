-- `read_byte` is right: each place in a `%` takes the byte as the definition does.
use Rattle.replay_lines.proofs.FieldStates.{byte-digit, byte-no-digit, byte-second, byte-no-second, byte-broken}
use Rattle.replay_lines.proofs.read_byte.Goals as goal

pub returns-then-is_hex : goal.returns-then-is_hex
returns-then-is_hex c = search byte-digit

pub returns-else-is_hex : goal.returns-else-is_hex
returns-else-is_hex c = search byte-no-digit

pub returns-then-is_hex-2 : goal.returns-then-is_hex-2
returns-then-is_hex-2 c = search byte-second

pub returns-else-is_hex-2 : goal.returns-else-is_hex-2
returns-else-is_hex-2 c = search byte-no-second

pub returns-in-Broken : goal.returns-in-Broken
returns-in-Broken c = search byte-broken
