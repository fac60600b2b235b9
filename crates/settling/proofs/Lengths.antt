-- The bytes that a header is settled into are at most as many as the head and the header have: a part of the laws of this crate. Assumes nothing.
use mathlib.Core.Path.{◌≡◌, refl}
use Prim.Native.Nat.{ℕ, ◌+◌, ◌≤◌}
use mathlib.Core.List.{List, [], ◌∷◌}
use Rattle.std.specs.Prelude.{Option, Some, None}
use native.Mathlib.Omega.{arith}
use lib.ListN.{length, length-append}
use Rattle.features.specs.Features.{feature_of}
use Rattle.dictionaries.specs.Dictionaries.{Value, Plain, value_items, members}
use Rattle.dictionaries.specs.Lookup.{into}
use Rattle.dictionaries.proofs.Bytes.{items_bytes}
use Rattle.dictionaries.proofs.MemberBytes.{plain_bytes, plain-first, members-bytes}
use Rattle.dictionaries.proofs.Laws.{into-none, into-first}
use Rattle.settled.specs.Settled.{head_bytes}
use Rattle.settling.specs.Writing.{expressions_bytes, value_sources, SettledDocument, with_value, with_member, empty_document, document_of, settled_bytes}
use Rattle.settling.proofs.Sizes.{value-fits}
use Rattle.settling.proofs.Documents.{document-long}

value-bytes : (d : SettledDocument) (f : Option ℕ) (v : Value) → length (with_value d f v).body ≤ length d.body + items_bytes (value_items v)
unfolding with_value
value-bytes d None v = omega arith
value-bytes d (Some n) v = omega (arith, length-append d.body (expressions_bytes (value_sources v)), value-fits v)

into-bytes : (ms : List Plain) (d : SettledDocument) → length (into with_member d ms).body ≤ length d.body + plain_bytes ms
into-bytes [] d = rw (into-none with_member d) (omega arith)
into-bytes (m ∷ ms) d =
    rw (into-first with_member d m ms)
    (omega (arith, into-bytes ms (with_value d (feature_of m.key) m.value), value-bytes d (feature_of m.key) m.value, plain-first m ms))

body_bytes : (s : List ℕ) (d : Option (List Plain)) → members s ≡ d → length (document_of d).body ≤ length s
unfolding document_of
body_bytes s (Some ms) e = omega (arith, into-bytes ms empty_document, members-bytes s ms e)
body_bytes s None e = omega arith

pub settled-most : (s : List ℕ) → length (settled_bytes s) ≤ head_bytes + length s
unfolding settled_bytes
settled-most s = omega (arith, length-append (document_of (members s)).head (document_of (members s)).body, document-long s, body_bytes s (members s) refl)
