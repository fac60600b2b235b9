-- A member's list in the settled form is never longer than the member's text. Assumes nothing.
use mathlib.Core.Path.{◌≡◌, refl, ap, ◌∙◌}
use Prim.Native.Nat.{ℕ, ◌+◌, ◌-◌, ◌≤◌, ◌<◌}
use mathlib.Core.List.{List, [], ◌∷◌, map}
use mathlib.Core.Bool.{Bool, true, false, ◌&&◌}
use Rattle.std.specs.Prelude.{Some}
use native.Mathlib.Omega.{arith}
use lib.ListN.{length, take, drop, length-append}
use lib.Dec.{leb}
use borrow.Author.Tests.{leb-true, leb-false}
use Rattle.ascii.specs.Bytes.{pick, lower}
use Rattle.ascii.specs.Texts.{lowered, part_of}
use Rattle.ascii.proofs.Bytes.{and_right}
use Rattle.origins.specs.Origins.{scheme_slashes}
use Rattle.origins.specs.Expressions.{HostPart, SourceExpression, expression_of}
use Rattle.origins.specs.Expressions.HostPart.{no_host, any_host, exact_host, subdomains_of}
use Rattle.origins.specs.Answers.{host_kind, host_from, host_to, host_in}
use Rattle.origins.specs.declared.Scheme.{Scheme}
use Rattle.origins.specs.declared.Scheme.TheVariants.{Http, Https}
use Rattle.origins.proofs.Laws.{expression-range, expression-long}
use Rattle.origins.proofs.Steps.{each-length}
use Rattle.items.specs.Items.{Item}
use Rattle.items.proofs.Bytes.{item_bytes, string_bytes}
use Rattle.dictionaries.specs.Dictionaries.{Value, value_items}
use Rattle.dictionaries.proofs.Bytes.{items_bytes, bytes-first}
use Rattle.allowlists.specs.Allowlists.{Meaning, with_source, sources_of}
use Rattle.allowlists.specs.Allowlists.Meaning.{star, self, src, source, nothing}
use Rattle.allowlists.proofs.Laws.{sources-nil, sources-cons, with-star, with-self, with-src, with-source, with_nothing, with_append}
use Rattle.declarations.specs.Declarations.{item_meaning}
use Rattle.declarations.proofs.Meanings.{source-item}
use Rattle.settling.specs.Writing.{host_text, expressions_bytes, value_sources}
use Rattle.settling.proofs.Writes.{expression-bytes, no_bytes, one-bytes, bytes_on}

-- a part of a text that isn't empty ends within it
part-within : (x : List ℕ) (a e : ℕ) → 0 < length (part_of x a e) → e ≤ length x
unfolding part_of
part-within x a e h = go (leb a e && leb e (length x)) refl h
  where
    go : (b : Bool) → leb a e && leb e (length x) ≡ b → 0 < length (pick b (take (e - a) (drop a x)) []) → e ≤ length x
    go true t g = leb-true e (length x) (and_right (leb a e) (leb e (length x)) t)
    go false t g = absurd (unfold pick in (omega arith))

slashes-least : (k : Scheme) → 7 ≤ length (scheme_slashes k)
slashes-least Http = omega arith
slashes-least Https = omega arith

-- an expression's host is shorter than its text
host-short : (x : List ℕ) (e : SourceExpression) → expression_of x ≡ Some e → 4 + length (host_text e.host) ≤ length x
host-short x e f = go e.host refl (ap (λ (z : SourceExpression). z.host) (expression-range x e f))
  where
    low : 5 ≤ length x
    low = expression-long x e f

    named : (h : List ℕ) (a b : ℕ) → lowered (part_of x a b) ≡ h → 7 + length h ≤ b → 4 + length h ≤ length x
    named h a b q g = split (leb 1 (length h)) refl
      where
        split : (t : Bool) → leb 1 (length h) ≡ t → 4 + length h ≤ length x
        split true t = omega (arith, part-within x a b (omega (arith, leb-true 1 (length h) t, ap length q, each-length lower (part_of x a b))))
        split false t = omega (arith, low, leb-false 1 (length h) t)

    go : (z : HostPart) → e.host ≡ z → host_in (host_kind e.host) (lowered (part_of x (host_from e.scheme e.host) (host_to e.scheme e.host))) ≡ e.host → 4 + length (host_text e.host) ≤ length x
    go no_host k q = rw k (omega (arith, low))
    go any_host k q = rw k (omega (arith, low))
    go (exact_host h) k q =
        let w : exact_host (lowered (part_of x (host_from e.scheme (exact_host h)) (host_to e.scheme (exact_host h)))) ≡ exact_host h = rw k at q in
        rw k (named h (host_from e.scheme (exact_host h)) (host_to e.scheme (exact_host h)) (cc) (omega (arith, slashes-least e.scheme)))
    go (subdomains_of h) k q =
        let w : subdomains_of (lowered (part_of x (host_from e.scheme (subdomains_of h)) (host_to e.scheme (subdomains_of h)))) ≡ subdomains_of h = rw k at q in
        rw k (named h (host_from e.scheme (subdomains_of h)) (host_to e.scheme (subdomains_of h)) (cc) (omega (arith, slashes-least e.scheme)))

-- an item, and the items of a value
item-fits : (x : Item) → length (expressions_bytes (with_source (item_meaning x) [])) ≤ item_bytes x
item-fits x = go (item_meaning x) refl
  where
    none : (es : List SourceExpression) → es ≡ [] → length (expressions_bytes es) ≤ item_bytes x
    none es e = rw (e, no_bytes) (omega arith)

    go : (m : Meaning) → item_meaning x ≡ m → length (expressions_bytes (with_source m [])) ≤ item_bytes x
    go star e = none (with_source star []) (with-star [])
    go self e = none (with_source self []) (with-self [])
    go src e = none (with_source src []) (with-src [])
    go nothing e = none (with_source nothing []) (with_nothing [])
    go (source y) e =
        let f = source-item x y e in
        let n : item_bytes x ≡ 2 + length f.0 = ap item_bytes f.1 ∙ string_bytes f.0 in
        rw (with-source y [], one-bytes y) (omega (arith, expression-bytes y, host-short f.0 y f.2))

items-fit : (xs : List Item) → length (expressions_bytes (sources_of (map item_meaning xs))) ≤ items_bytes xs
items-fit [] = rw (sources-nil, no_bytes) (omega arith)
items-fit (x ∷ xs) =
    let a = with_source (item_meaning x) [] in
    let b = sources_of (map item_meaning xs) in
    rw (sources-cons (item_meaning x) (map item_meaning xs), with_append (item_meaning x) (sources_of (map item_meaning xs)), bytes_on a b, bytes-first x xs)
    (omega (arith, length-append (expressions_bytes a) (expressions_bytes b), item-fits x, items-fit xs))

pub value-fits : (v : Value) → length (expressions_bytes (value_sources v)) ≤ items_bytes (value_items v)
value-fits v = items-fit (value_items v)
