-- How long a table is: less than a quarter of the 4 MiB that 02, R-4 says are never too short (of what a new table answers: `documents/proofs/Answering: never-short`).
use Rattle.std.specs.Prelude.{◌*◌, ◌≡◌, refl, true, leb}
use Rattle.document_table.specs.Layout.{table_bytes}

pub within_one : leb table_bytes (1024 * 1024) ≡ true
within_one = refl
