-- How many expressions a header can declare: a part of the laws of this crate. Assumes nothing.
use mathlib.Core.Path.{◌≡◌, refl, ap, ◌∙◌}
use Prim.Native.Nat.{ℕ, ◌+◌, ◌*◌, ◌≤◌}
use mathlib.Core.List.{List, [], ◌∷◌, map}
use mathlib.Core.Bool.{Bool}
use Rattle.std.specs.Prelude.{Option, Some, None}
use native.Mathlib.Omega.{arith}
use lib.ListN.{length}
use Rattle.ascii.proofs.Clash.{clash}
use Rattle.features.specs.Features.{name_of}
use Rattle.origins.specs.Expressions.{SourceExpression}
use Rattle.origins.proofs.Laws.{expression-long}
use Rattle.items.specs.Items.{Item}
use Rattle.items.proofs.Bytes.{item_bytes, string_bytes}
use Rattle.dictionaries.specs.Dictionaries.{Value, members}
use Rattle.dictionaries.specs.Dictionaries.Value.{one, many}
use Rattle.dictionaries.specs.Lookup.{last_value_in}
use Rattle.dictionaries.proofs.Bytes.{items_bytes, bytes-first, last-bytes}
use Rattle.allowlists.specs.Allowlists.{Allowlist, Meaning, with_source, sources_of, allowlist_of}
use Rattle.allowlists.specs.Allowlists.Allowlist.{listed}
use Rattle.allowlists.specs.Allowlists.Meaning.{star, self, src, source, nothing}
use Rattle.allowlists.proofs.Laws.{listed-sources, sources-nil, sources-cons, with-star, with-self, with-src, with-source, with_nothing}
use Rattle.declarations.specs.Declarations.{item_meaning, items_list, lone_declares, value_declares, last_declares, declares}
use Rattle.declarations.proofs.Meanings.{source-item}
use Rattle.declarations.proofs.Laws.{Lone, lone-cases}
use Rattle.declarations.proofs.Laws.Lone.{ignored, counted}

-- each expression takes at least seven bytes with its quotes
source-bytes : (x : Item) (y : SourceExpression) → item_meaning x ≡ source y → 7 ≤ item_bytes x
source-bytes x y e =
    let f = source-item x y e in
    let n : item_bytes x ≡ 2 + length f.0 = ap item_bytes f.1 ∙ string_bytes f.0 in
    omega (arith, expression-long f.0 y f.2)

sources-bytes : (xs : List Item) → 7 * length (sources_of (map item_meaning xs)) ≤ items_bytes xs
sources-bytes [] = rw sources-nil (omega arith)
sources-bytes (x ∷ xs) = rw (sources-cons (item_meaning x) (map item_meaning xs), bytes-first x xs) (go (item_meaning x) refl (sources-bytes xs))
  where
    go : (m : Meaning) → item_meaning x ≡ m → 7 * length (sources_of (map item_meaning xs)) ≤ items_bytes xs → 7 * length (with_source m (sources_of (map item_meaning xs))) ≤ item_bytes x + items_bytes xs
    go star e h = rw (with-star (sources_of (map item_meaning xs))) (omega arith)
    go self e h = rw (with-self (sources_of (map item_meaning xs))) (omega arith)
    go src e h = rw (with-src (sources_of (map item_meaning xs))) (omega arith)
    go (source y) e h = rw (with-source y (sources_of (map item_meaning xs))) (omega (arith, source-bytes x y e))
    go nothing e h = rw (with_nothing (sources_of (map item_meaning xs))) (omega arith)

-- of a lone item there is one at most
sources-lone : (m : Meaning) → length (sources_of (m ∷ [])) ≤ 1
sources-lone m = rw (sources-cons m [], sources-nil) (go m)
  where
    go : (m : Meaning) → length (with_source m []) ≤ 1
    go star = rw (with-star []) (omega arith)
    go self = rw (with-self []) (omega arith)
    go src = rw (with-src []) (omega arith)
    go (source y) = rw (with-source y []) (omega arith)
    go nothing = rw (with_nothing []) (omega arith)

-- a header of so many bytes declares at most one expression more than a seventh of them
pub declares-few : (s : List ℕ) (n : ℕ) (a b : Bool) (es : List SourceExpression) → declares s n ≡ Some (listed a b es) → 7 * length es ≤ length s + 7
unfolding declares
declares-few s n a b es e = go (last_value_in (name_of n) (members s)) refl e
  where
    lone : (m : Meaning) (d : Option Allowlist) → Lone m d → d ≡ Some (listed a b es) → 7 * length es ≤ length s + 7
    lone m None (ignored k) f = clash cc
    lone m (Some l) counted f =
        let q : allowlist_of (m ∷ []) ≡ listed a b es = cc in
        omega (arith, sources-lone m, ap length (listed-sources (m ∷ []) a b es q))

    value : (v : Value) → last_value_in (name_of n) (members s) ≡ Some (Some v) → value_declares v ≡ Some (listed a b es) → 7 * length es ≤ length s + 7
    value (one x) f h = lone (item_meaning x) (lone_declares (item_meaning x)) (lone-cases (item_meaning x)) (unfold value_declares in h)
    value (many xs) f h =
        let q : items_list xs ≡ listed a b es = unfold value_declares in cc in
        omega (arith, sources-bytes xs, ap length (listed-sources (map item_meaning xs) a b es q), last-bytes s (name_of n) xs f)

    go : (o : Option (Option Value)) → last_value_in (name_of n) (members s) ≡ o → last_declares o ≡ Some (listed a b es) → 7 * length es ≤ length s + 7
    go (Some (Some v)) f h = value v f (unfold last_declares in h)
    go (Some None) f h = clash (unfold last_declares in cc)
    go None f h = clash (unfold last_declares in cc)
