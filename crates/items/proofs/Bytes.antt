-- How many bytes of a text an item takes at least. Assumes nothing.
use mathlib.Core.Path.{◌≡◌, refl, ap}
use Prim.Native.Nat.{ℕ, ◌+◌, ◌≤◌}
use mathlib.Core.List.{List, [], ◌∷◌, ◌++◌}
use native.Mathlib.Omega.{arith}
use lib.ListN.{length, length-append}
use Rattle.ascii.proofs.Clash.{clash}
use Rattle.ascii.specs.Reading.{Parsed, head_of, after, mapped}
use Rattle.ascii.specs.Reading.Parsed.{parsed, malformed}
use Rattle.ascii.proofs.Suffixes.{suffix-length}
use Rattle.items.specs.Items.{Item, Parameter, bare_of, params_of, item_of}
use Rattle.items.specs.Items.Item.{token, string, other}
use Rattle.items.proofs.Ranges.{ItemTook, kind_by, bare-took}
use Rattle.items.proofs.Suffixes.{bare_ends, params-ends}

-- the bytes of an item's text, and of a string's quotes; of another item none are counted
unfoldable pub item_bytes : Item → ℕ
item_bytes (token t) = length t
item_bytes (string t) = 2 + length t
item_bytes other = 0

-- by its cases
pub token-bytes : (t : List ℕ) → item_bytes (token t) ≡ length t
unfolding item_bytes
token-bytes t = refl

pub string_bytes : (t : List ℕ) → item_bytes (string t) ≡ 2 + length t
unfolding item_bytes
string_bytes t = refl

pub other-bytes : item_bytes other ≡ 0
unfolding item_bytes
other-bytes = refl

-- an item that is read takes no fewer
pub bare-bytes : (l : List ℕ) (x : Item) (m : List ℕ) → bare_of l ≡ parsed x m → item_bytes x + length m ≤ length l
bare-bytes l x m e = go x (rw e at (bare-took l)) (suffix-length ((bare_ends l).ends x m e))
  where
    go : (y : Item) → ItemTook (kind_by (head_of l)) l (parsed y m) → length m ≤ length l → item_bytes y + length m ≤ length l
    go (token t) h n = unfold item_bytes in (omega (arith, ap length h.1, length-append t m))
    go (string t) h n = unfold item_bytes in (omega (arith, ap length h.1, length-append (t ++ (34 ∷ [])) m, length-append t (34 ∷ [])))
    go other h n = unfold item_bytes in (omega arith)

pub item-bytes : (l : List ℕ) (x : Item) (m : List ℕ) → item_of l ≡ parsed x m → item_bytes x + length m ≤ length l
unfolding item_of
item-bytes l x m e = go (bare_of l) refl e
  where
    last : (y : Item) (n : List ℕ) (g : Parsed (List Parameter)) → params_of n ≡ g → item_bytes y + length n ≤ length l → mapped (λ p. y) g ≡ parsed x m → item_bytes x + length m ≤ length l
    last y n (parsed p k) f h u =
        let a : y ≡ x = unfold mapped in cc in
        let b : k ≡ m = unfold mapped in cc in
        omega (arith, ap item_bytes a, ap length b, suffix-length ((params-ends n).ends p k f))
    last y n malformed f h u = clash (unfold mapped in cc)

    go : (g : Parsed Item) → bare_of l ≡ g → after g (λ y n. mapped (λ p. y) (params_of n)) ≡ parsed x m → item_bytes x + length m ≤ length l
    go (parsed y n) f u = last y n (params_of n) refl (bare-bytes l y n f) (unfold after in u)
    go malformed f u = clash (unfold after in cc)
