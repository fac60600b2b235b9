-- The limits of document 01 and, for texts and documents, of 02, R-4, each stated once.
use Rattle.std.specs.Prelude.{ℕ}

-- 02, R-4: "to 4,096 bytes for header, allow, sandbox and tidied form"
abbrev pub text_bytes : ℕ
text_bytes = 4096

-- 02, R-4: "Raise to 64 documents"; 01: "in any number of trees"
abbrev pub document_limit : ℕ
document_limit = 64

-- refusal 7: "a load, after serial 4,294,967,295 was given"
abbrev pub last_serial : ℕ
last_serial = 4294967295

-- "A host is 1 to 253 bytes"
abbrev pub host_bytes : ℕ
host_bytes = 253

-- "A port is 0 to 65,535 in decimal"
abbrev pub last_port : ℕ
last_port = 65535

-- "one to five digits worth at most 65,535"
abbrev pub port_digits : ℕ
port_digits = 5
