-- The end of an origin's host: the labels up to a colon, scanned byte by byte in the pass that looks for it. Assumes nothing.
use Rattle.std.specs.Prelude.{Option, Some, None}
use mathlib.Core.Path.{◌≡◌, refl, ◌∙◌, sym}
use Prim.Native.Nat.{ℕ, ◌+◌, ◌≤◌, ◌<◌}
use mathlib.Core.List.{List, [], ◌∷◌}
use mathlib.Core.Bool.{Bool, true, false, not, ◌&&◌}
use native.Mathlib.Numerals.{add-one}
use native.Mathlib.Omega.{arith}
use Rattle.std.specs.Bool.{then_some}
use lib.ListN.{length, get_or, drop, drop_of_length-le}
use lib.Seq.{drop-cons}
use lib.Dec.{eqb, leb}
use borrow.Author.Tests.{eq-eqb, ne_eqb, le-leb, lt-leb}
use Rattle.ascii.proofs.Clash.{clash}
use Rattle.ascii.specs.Bytes.{pick, within, is_label_byte}
use Rattle.ascii.specs.Texts.{every}
use Rattle.ascii.specs.Reading.{run_of, past}
use Rattle.ascii.specs.Places.{IsRun}
use Rattle.ascii.proofs.Reading.{run_end, run_more, run-stop}
use Rattle.limits.specs.Limits.{host_bytes}
use Rattle.origins.specs.Hosts.{labels, is_label, is_host, is_origin_host}
use Rattle.origins.specs.Origins.{not_colon}
use Rattle.origins.specs.Steps.{ended_at, host_labels, IsHostEnd}
use Rattle.origins.proofs.Hosts.{scan, scan-labels}

pub ended-is : (i : ℕ) (starts : Bool) (r : Option ℕ) → r ≡ then_some (not starts) i → r ≡ ended_at i starts
unfolding pick
ended-is i true r e = e
ended-is i false r e = e

-- ---- the run up to a colon

-- at a place: what is past the run from there is what is past it from the start
pub record Passing (s : List ℕ) (from i : ℕ) : Type 0 where
  pub low : from ≤ i
  pub high : i ≤ length s
  pub leaves : past not_colon (drop i s) ≡ past not_colon (drop from s)

pub passing_begins : (s : List ℕ) (from : ℕ) → from ≤ length s → Passing s from from
passing_begins s from h = record { low = omega arith; high = h; leaves = refl }

module _ (s : List ℕ) (from i : ℕ) (w : Passing s from i) where
  pub passed-all : length s ≤ i → IsRun not_colon s from i
  passed-all h = record { is = run_end not_colon s i (past not_colon (drop from s)) h w.leaves; from = let a = w.low in omega arith; upto = w.high }

  module _ (x : ℕ) (is : x ≡ get_or s i 0) (inside : i < length s) where
    pub passed-colon : x ≡ 58 → IsRun not_colon s from i
    passed-colon c =
        let t : not_colon (get_or s i 0) ≡ false = rw (← is, eq-eqb x 58 c) refl in
        record { is = run-stop not_colon s i (past not_colon (drop from s)) false (sym t) refl inside w.leaves; from = let a = w.low in omega arith; upto = w.high }

    pub passing-on : (x ≡ 58 → ⊥) → Passing s from (i + 1)
    passing-on c =
        let t : not_colon (get_or s i 0) ≡ true = rw (← is, ne_eqb x 58 c) refl in
        record { low = let a = w.low in omega arith; high = omega arith; leaves = run_more not_colon s i (past not_colon (drop from s)) true (sym t) refl inside w.leaves }

-- ---- the labels on the way

not-label : (x y : ℕ) → is_label_byte y ≡ false → is_label_byte x ≡ true → x ≡ y → ⊥
not-label x y f t e = clash cc

-- at a place: the scan of what is left up to the colon is that of the whole
pub record Scanning (s : List ℕ) (from i : ℕ) (starts : Bool) : Type 0 where
  pub at : Passing s from i
  pub scans : scan starts (run_of not_colon (drop i s)) ≡ host_labels s from

pub scan_begins : (s : List ℕ) (from : ℕ) → from ≤ length s → Scanning s from from true
scan_begins s from h = record { at = passing_begins s from h; scans = sym (scan-labels (run_of not_colon (drop from s))) }

module _ (s : List ℕ) (from i : ℕ) (starts : Bool) (w : Scanning s from i starts) where
  -- where the run ends, what is scanned has no byte left
  closes : (r : Option ℕ) → r ≡ ended_at i starts → IsRun not_colon s from i → not starts ≡ host_labels s from → IsHostEnd s from r
  unfolding pick
  closes r e run good = go starts refl
    where
      go : (b : Bool) → starts ≡ b → IsHostEnd s from r
      go true t =
          let q : r ≡ None = e ∙ rw t refl in
          record { some_at = λ x k. clash cc; none_good = λ k. sym good ∙ rw t refl }
      go false t =
          let q : r ≡ Some i = e ∙ rw t refl in
          let g : host_labels s from ≡ true = sym good ∙ rw t refl in
          record { some_at = λ x k. (let z : i ≡ x = cc in rw (← z) (run, g)); none_good = λ k. clash cc }

  pub ends-all : (r : Option ℕ) → length s ≤ i → r ≡ ended_at (length s) starts → IsHostEnd s from r
  unfolding scan run_of
  ends-all r h f =
      let q : length s ≡ i = omega (arith, w.at.high) in
      let e : r ≡ ended_at i starts = rw (← q) f in
      let good : not starts ≡ host_labels s from = rw (drop_of_length-le s h) at w.scans in
      closes r e (passed-all s from i w.at h) good

  module _ (x : ℕ) (is : x ≡ get_or s i 0) (inside : i < length s) where
    pub ends-colon : (r : Option ℕ) → x ≡ 58 → r ≡ ended_at i starts → IsHostEnd s from r
    unfolding scan run_of pick
    ends-colon r c e =
        let t : not_colon (get_or s i 0) ≡ false = rw (← is, eq-eqb x 58 c) refl in
        let good : not starts ≡ host_labels s from = rw (drop-cons s i 0 inside, t) at w.scans in
        closes r e (passed-colon s from i w.at x is inside c) good

    module _ (c : x ≡ 58 → ⊥) where
      at_byte : pick (eqb x 46) (pick starts false (scan true (run_of not_colon (drop (i + 1) s)))) (pick (is_label_byte x) (scan false (run_of not_colon (drop (i + 1) s))) false) ≡ host_labels s from
      unfolding scan run_of pick
      at_byte =
          let on : not_colon (get_or s i 0) ≡ true = rw (← is, ne_eqb x 58 c) refl in
          rw (is, add-one) (rw (drop-cons s i 0 inside, on) at w.scans)

      bad : host_labels s from ≡ false → IsHostEnd s from None
      bad e = record { some_at = λ y k. clash cc; none_good = λ k. e }

      next : (b : Bool) → scan b (run_of not_colon (drop (i + 1) s)) ≡ host_labels s from → Scanning s from (i + 1) b
      next b e = record { at = passing-on s from i w.at x is inside c; scans = e }

      pub label-empty : x ≡ 46 → starts ≡ true → IsHostEnd s from None
      unfolding pick
      label-empty d t = bad (sym (rw (eq-eqb x 46 d, t) at at_byte))

      pub label-next : x ≡ 46 → starts ≡ false → Scanning s from (i + 1) true
      unfolding pick
      label-next d t = next true (rw (eq-eqb x 46 d, t) at at_byte)

      pub label-other : (x ≡ 46 → ⊥) → (b : Bool) → b ≡ is_label_byte x → b ≡ false → IsHostEnd s from None
      unfolding pick
      label-other d b u t = let v : is_label_byte x ≡ false = sym u ∙ t in bad (sym (rw (ne_eqb x 46 d, v) at at_byte))

      other_byte : (x ≡ 46 → ⊥) → is_label_byte x ≡ true → Scanning s from (i + 1) false
      unfolding pick
      other_byte d v = next false (rw (ne_eqb x 46 d, v) at at_byte)

    pub label-byte : (b : Bool) → b ≡ is_label_byte x → b ≡ true → Scanning s from (i + 1) false
    label-byte b u t = let v : is_label_byte x ≡ true = sym u ∙ t in other_byte (not-label x 58 refl v) (not-label x 46 refl v) v

-- ---- what the end says of the host

some-label : (h : List ℕ) → every is_label (labels h) ≡ true → 1 ≤ length h
some-label [] e = let z : scan true [] ≡ true = sym (scan-labels []) ∙ e in none z
  where
    none : scan true [] ≡ true → 1 ≤ 0
    none = unfold scan in (λ z. let y : ◌≡◌ {A = ℕ} 0 1 = cc in absurd (omega arith))
some-label (x ∷ h) e = omega arith

module _ (s : List ℕ) (from : ℕ) (r : Option ℕ) (is : IsHostEnd s from r) where
  pub host-none : r ≡ None → is_origin_host (run_of not_colon (drop from s)) ≡ false
  unfolding is_origin_host is_host
  host-none e = rw (is.none_good e) (and_none (within 1 host_bytes (length (run_of not_colon (drop from s)))))
    where
      and_none : (b : Bool) → b && false ≡ false
      and_none true = refl
      and_none false = refl

  module _ (e : ℕ) (k : r ≡ Some e) where
    pub host-run : IsRun not_colon s from e
    host-run = (is.some_at e k).0

    pub host-over : host_bytes < length (run_of not_colon (drop from s)) → is_origin_host (run_of not_colon (drop from s)) ≡ false
    unfolding is_origin_host is_host
    host-over h = rw (lt-leb (length (run_of not_colon (drop from s))) host_bytes h) (gone (leb 1 (length (run_of not_colon (drop from s)))) (host_labels s from))
      where
        gone : (a b : Bool) → a && false && b ≡ false
        gone true b = refl
        gone false b = refl

    pub host-good : length (run_of not_colon (drop from s)) ≤ host_bytes → is_origin_host (run_of not_colon (drop from s)) ≡ true
    unfolding is_origin_host is_host
    host-good h =
        let g = (is.some_at e k).1 in
        rw (le-leb (length (run_of not_colon (drop from s))) host_bytes h, le-leb 1 (length (run_of not_colon (drop from s))) (some-label (run_of not_colon (drop from s)) g), g) refl
