-- A loaded document has fewer documents above it than are loaded: a part of the laws of this crate. Assumes nothing.
use mathlib.Core.Path.{◌≡◌, refl, ap}
use Prim.Native.Nat.{ℕ, zero, suc, ◌≤◌, ◌<◌}
use mathlib.Core.List.{List, [], ◌∷◌}
use mathlib.Core.Bool.{Bool, true, false}
use native.Mathlib.Omega.{arith}
use lib.ListN.{length}
use lib.Dec.{ltb}
use borrow.Author.Tests.{lt-ltb, le-ltb, ltb-true, ltb-false}
use Rattle.ascii.specs.Bytes.{pick}
use Rattle.document_model.specs.Model.{Document, Table, Call, table_after}
use Rattle.document_model.proofs.Tables.{In, rising-low}
use Rattle.document_model.proofs.Tables.In.{here, there}
use Rattle.document_model.proofs.Invariant.{Linked, Invariant, reachable}
use Rattle.document_model.proofs.Invariant.Linked.{at_top, in_frame}

-- how many of several documents are older than a serial
older : ℕ → List Document → ℕ
older s [] = 0
older s (d ∷ ds) = pick (ltb d.identity.serial s) (suc (older s ds)) (older s ds)

older-most : (s : ℕ) (ds : List Document) → older s ds ≤ length ds
unfolding older
older-most s [] = omega arith
older-most s (d ∷ ds) = go (ltb d.identity.serial s) (older-most s ds)
  where
    go : (b : Bool) → older s ds ≤ length ds → pick b (suc (older s ds)) (older s ds) ≤ length (d ∷ ds)
    go true h = unfold pick in (omega arith)
    go false h = unfold pick in (omega arith)

older-more : (s u : ℕ) (ds : List Document) → s ≤ u → older s ds ≤ older u ds
unfolding older
older-more s u [] h = omega arith
older-more s u (d ∷ ds) h = go (ltb d.identity.serial s) (ltb d.identity.serial u) refl refl (older-more s u ds h)
  where
    go : (a b : Bool) → ltb d.identity.serial s ≡ a → ltb d.identity.serial u ≡ b → older s ds ≤ older u ds → pick a (suc (older s ds)) (older s ds) ≤ pick b (suc (older u ds)) (older u ds)
    go true true e f i = unfold pick in (omega arith)
    go true false e f i = absurd (omega (arith, ltb-true d.identity.serial s e, ltb-false d.identity.serial u f))
    go false true e f i = unfold pick in (omega arith)
    go false false e f i = unfold pick in i

-- one document in front
first-older : (s : ℕ) (d : Document) (ds : List Document) → d.identity.serial < s → older s (d ∷ ds) ≡ suc (older s ds)
unfolding older pick
first-older s d ds h = rw (lt-ltb d.identity.serial s h)

first-not : (s : ℕ) (d : Document) (ds : List Document) → s ≤ d.identity.serial → older s (d ∷ ds) ≡ older s ds
unfolding older pick
first-not s d ds h = rw (le-ltb d.identity.serial s h)

first_either : (s u : ℕ) (d : Document) (ds : List Document) → s ≤ u → older s ds < older u ds → older s (d ∷ ds) < older u (d ∷ ds)
unfolding older
first_either s u d ds h i = go (ltb d.identity.serial s) (ltb d.identity.serial u) refl refl
  where
    go : (a b : Bool) → ltb d.identity.serial s ≡ a → ltb d.identity.serial u ≡ b → pick a (suc (older s ds)) (older s ds) < pick b (suc (older u ds)) (older u ds)
    go true true e f = unfold pick in (omega arith)
    go true false e f = absurd (omega (arith, ltb-true d.identity.serial s e, ltb-false d.identity.serial u f))
    go false true e f = unfold pick in (omega arith)
    go false false e f = unfold pick in i

-- a document counts among those older than a later serial, and not among those older than its own
older-step : (u : ℕ) (c : Document) {ds : List Document} → In c ds → c.identity.serial < u → older c.identity.serial ds < older u ds
older-step u c (here {l = ds}) h =
    omega (arith, first-not c.identity.serial c ds (omega arith), first-older u c ds h, older-more c.identity.serial u ds (omega arith))
older-step u c (there {y = d} {l = ds} m) h = first_either c.identity.serial u d ds (omega arith) (older-step u c m h)

not_itself : (x : Document) {ds : List Document} → In x ds → older x.identity.serial ds < length ds
not_itself x (here {l = ds}) = omega (arith, first-not x.identity.serial x ds (omega arith), older-most x.identity.serial ds)
not_itself x (there {y = d} {l = ds} m) = go (ltb d.identity.serial x.identity.serial) refl (not_itself x m)
  where
    go : (b : Bool) → ltb d.identity.serial x.identity.serial ≡ b → older x.identity.serial ds < length ds → older x.identity.serial (d ∷ ds) < length (d ∷ ds)
    go true e h = omega (arith, first-older x.identity.serial d ds (ltb-true d.identity.serial x.identity.serial e))
    go false e h = omega (arith, first-not x.identity.serial d ds (ltb-false d.identity.serial x.identity.serial e))

-- each document above is older than the one beneath it
linked-older : (t : Table) (k : ℕ) (x : Document) → Linked t.docs x → x.identity.serial ≤ suc k → ((c : Document) → In c t.docs → c.identity.serial ≤ k → length c.identity.above ≤ older c.identity.serial t.docs) → length x.identity.above ≤ older x.identity.serial t.docs
linked-older t k x (at_top e) h i = omega (arith, ap length e)
linked-older t k x (in_frame c n e l f) h i = omega (arith, ap length e, i c n (omega arith), older-step x.identity.serial c n l)

above-older : (t : Table) → Invariant t → (k : ℕ) (x : Document) → In x t.docs → x.identity.serial ≤ k → length x.identity.above ≤ older x.identity.serial t.docs
above-older t i zero x m h = linked-older t zero x (i.linked x m) (omega arith) (λ c n g. absurd (not-zero c n g))
  where
    not-zero : (c : Document) → In c t.docs → c.identity.serial ≤ 0 → ⊥
    not-zero c n g = omega (arith, rising-low 1 t.docs t.next i.rising n)
above-older t i (suc k) x m h = linked-older t k x (i.linked x m) h (λ c n g. above-older t i k c n g)

pub above-fewer : (cs : List Call) (x : Document) → In x (table_after cs).docs → length x.identity.above < length (table_after cs).docs
above-fewer cs x m = omega (arith, above-older (table_after cs) (reachable cs) x.identity.serial x m (omega arith), not_itself x m)
