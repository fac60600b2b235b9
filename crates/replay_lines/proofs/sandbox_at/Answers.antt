-- `sandbox_at` is right: the first byte is literal, and the range is what is kept past it.
use Rattle.replay_lines.proofs.FieldReadings.{sandbox-none, sandbox-text, sandbox-absent, sandbox-other}
use Rattle.replay_lines.proofs.sandbox_at.Goals as goal

pub returns-then-not-is_whole-f : goal.returns-then-not-is_whole-f
returns-then-not-is_whole-f c = search sandbox-none

pub returns-then-byte-eq49 : goal.returns-then-byte-eq49
returns-then-byte-eq49 c = search sandbox-text

pub returns-then-same : goal.returns-then-same
returns-then-same c = search sandbox-absent

pub returns-else-same : goal.returns-else-same
returns-else-same c = search sandbox-other
