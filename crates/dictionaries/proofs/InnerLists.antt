-- The items of an inner list one after the other: the turns that read it, and the answers at a cursor. Assumes nothing.
use Rattle.std.specs.Prelude.{Option, Some, None}
use mathlib.Core.Path.{◌≡◌, refl, ap, ◌∙◌, sym}
use Prim.Native.Nat.{ℕ, zero, suc, ◌-◌, ◌^◌, ◌≤◌, ◌<◌, min}
use mathlib.Core.List.{List, [], ◌∷◌, ◌++◌}
use mathlib.Core.Bool.{Bool, true, false, ◌||◌}
use native.Mathlib.Omega.{arith}
use lib.ListN.{length, drop}
use lib.Dec.{eqb}
use Rattle.ascii.proofs.Clash.{clash}
use Rattle.ascii.specs.Bytes.{pick, is_space}
use Rattle.ascii.specs.Reading.{Parsed, Step, head_of, next, skip, past, going, adding, on_step, turns}
use Rattle.ascii.specs.Reading.Parsed.{parsed, malformed}
use Rattle.ascii.specs.Reading.Step.{more, done, fail}
use Rattle.ascii.proofs.Suffixes.{Suffix, suffix_trans, suffix-past, suffix-drop, suffix-length, suffix-place}
use Rattle.items.specs.Items.{Item, item_of}
use Rattle.items.specs.Found.{item_range, item_in}
use Rattle.items.specs.declared.ItemFound.{ItemFound}
use Rattle.items.proofs.Ranges.{item-range}
use Rattle.items.proofs.Suffixes.{item-ends, item-shrinks}
use Rattle.dictionaries.specs.Dictionaries.{inner_turn}
use Rattle.dictionaries.specs.Lookup.{pointed_at, cursor_at, onward, walk, items_from, list_in, low_next, high_next}

-- an item of a list takes at least a byte
pub inner-shrinks : (l a : List ℕ) (xs : List Item) → inner_turn l ≡ more xs a → length a < length l
unfolding inner_turn skip next
inner-shrinks l a xs e = go (eqb (head_of (past is_space l)) 41) (item_of (past is_space l)) refl e
  where
    parted : (x : Item) (n : List ℕ) (t : Bool) → pick t (more (x ∷ []) n) fail ≡ more xs a → n ≡ a
    parted = unfold pick in (λ x n. elim [ true ↦ λ u. cc | false ↦ λ u. clash cc ])

    go : (b : Bool) (g : Parsed Item) → item_of (past is_space l) ≡ g → pick b (done [] (drop 1 (past is_space l))) (going g (λ x n. pick (eqb (head_of n) 32 || eqb (head_of n) 41) (more (x ∷ []) n) fail)) ≡ more xs a → length a < length l
    go = unfold pick going in (elim [
      | true ↦ λ g h u. clash cc
      | false ↦ elim [
        | parsed x n ↦ λ h u.
            let w : n ≡ a = parted x n (eqb (head_of n) 32 || eqb (head_of n) 41) u in
            omega (arith, ap length w, (item-shrinks (past is_space l)).shorter x n h, suffix-length (suffix-past is_space l))
        | malformed ↦ λ h u. clash cc
      ]
    ])

-- turns enough are enough
pub walk-enough : (n k : ℕ) (l : List ℕ) → length l < n → length l < k → walk n l ≡ walk k l
unfolding walk
walk-enough zero k l h g = absurd (omega arith)
walk-enough (suc n) zero l h g = absurd (omega arith)
walk-enough (suc n) (suc k) l h g = go (inner_turn l) refl (λ m u. walk-enough n k m (omega arith) (omega arith))
  where
    go : (st : Step Item) → inner_turn l ≡ st → ((m : List ℕ) → length m < length l → walk n m ≡ walk k m) → onward st (λ m. walk n m) ≡ onward st (λ m. walk k m)
    go = unfold onward in (elim [ more xs m ↦ λ e r. ap (λ (z : List Item). xs ++ z) (r m (inner-shrinks l m xs e)) | done xs m ↦ λ e r. refl | fail ↦ λ e r. refl ])

-- what the turns of a list collect is what is gone through
pub walk-turns : (n : ℕ) (l : List ℕ) (xs : List Item) (m : List ℕ) → turns inner_turn n l ≡ parsed xs m → walk n l ≡ xs
unfolding turns walk
walk-turns zero l xs m e = clash cc
walk-turns (suc n) l xs m e = go (inner_turn l) e (λ k ys u. walk-turns n k ys m u)
  where
    add : (a : List Item) (k : List ℕ) (g : Parsed (List Item)) → adding a g ≡ parsed xs m → ((ys : List Item) → g ≡ parsed ys m → walk n k ≡ ys) → a ++ walk n k ≡ xs
    add = unfold adding in (λ a k. elim [ parsed b o ↦ λ u r. let w : a ++ b ≡ xs = cc in let v : o ≡ m = cc in ap (λ (z : List Item). a ++ z) (r b (ap (λ (z : List ℕ). parsed b z) v)) ∙ w | malformed ↦ λ u r. clash cc ])

    go : (st : Step Item) → on_step st (λ k. turns inner_turn n k) ≡ parsed xs m → ((k : List ℕ) (ys : List Item) → turns inner_turn n k ≡ parsed ys m → walk n k ≡ ys) → onward st (λ k. walk n k) ≡ xs
    go = unfold on_step onward in (elim [ more a k ↦ λ u r. add a k (turns inner_turn n k) u (r k) | done a k ↦ λ u r. cc | fail ↦ λ u r. clash cc ])

-- the turn of a list at a cursor, by the answer there
module _ (s : List ℕ) (c : ℕ) where
  here : List ℕ
  here = past is_space (drop c s)

  here_in : Suffix here s
  unfolding here
  here_in = suffix_trans (suffix-drop c s) (suffix-past is_space (drop c s))

  turn-found : (x : Item) (n : List ℕ) (f : ItemFound) → item_of here ≡ parsed x n → Some (record { range = item_range (length s - length here) x; next = length s - length n }) ≡ Some f → more (x ∷ []) n ≡ more (item_in s f.range ∷ []) (drop f.next s)
  turn-found x n f e u =
      let p : drop (length s - length here) s ≡ here = suffix-place here_in in
      let a : item_range (length s - length here) x ≡ f.range = cc in
      let b : length s - length n ≡ f.next = cc in
      let d : item_in s (item_range (length s - length here) x) ≡ x = item-range s (length s - length here) x n (omega arith) (ap item_of p ∙ e) in
      let g : drop (length s - length n) s ≡ n = suffix-place (suffix_trans here_in ((item-ends here).ends x n e)) in
      let y : x ≡ item_in s f.range = sym d ∙ ap (item_in s) a in
      let z : n ≡ drop f.next s = sym g ∙ ap (λ (k : ℕ). drop k s) b in
      λ j. more (y j ∷ []) (z j)

  pub cursor-step : (f : ItemFound) → cursor_at s c ≡ Some f → inner_turn (drop c s) ≡ more (item_in s f.range ∷ []) (drop f.next s)
  unfolding cursor_at inner_turn skip next here
  cursor-step f e = go (eqb (head_of here) 41) (item_of here) refl e
    where
      parted : (t : Bool) (x : Item) (n : List ℕ) → item_of here ≡ parsed x n → pick t (Some (record { range = item_range (length s - length here) x; next = length s - length n })) None ≡ Some f → pick t (more (x ∷ []) n) fail ≡ more (item_in s f.range ∷ []) (drop f.next s)
      parted = unfold pick in (elim [ true ↦ λ x n h u. turn-found x n f h u | false ↦ λ x n h u. clash cc ])

      go : (b : Bool) (g : Parsed Item) → item_of here ≡ g → pick b None (pointed_at s here g) ≡ Some f → pick b (done [] (drop 1 here)) (going g (λ x n. pick (eqb (head_of n) 32 || eqb (head_of n) 41) (more (x ∷ []) n) fail)) ≡ more (item_in s f.range ∷ []) (drop f.next s)
      go = unfold pick going pointed_at in (elim [ true ↦ λ g h u. clash cc | false ↦ elim [ parsed x n ↦ λ h u. parted (eqb (head_of n) 32 || eqb (head_of n) 41) x n h u | malformed ↦ λ h u. clash cc ] ])

  pub cursor-stop : (r : List ℕ → List Item) → cursor_at s c ≡ None → onward (inner_turn (drop c s)) r ≡ []
  unfolding cursor_at inner_turn skip next here
  cursor-stop r e = go (eqb (head_of here) 41) (item_of here) e
    where
      parted : (t : Bool) (x : Item) (n : List ℕ) (fd : ItemFound) → pick t (Some fd) None ≡ None → onward (pick t (more (x ∷ []) n) fail) r ≡ []
      parted = unfold pick onward in (elim [ true ↦ λ x n fd u. clash cc | false ↦ λ x n fd u. refl ])

      go : (b : Bool) (g : Parsed Item) → pick b None (pointed_at s here g) ≡ None → onward (pick b (done [] (drop 1 here)) (going g (λ x n. pick (eqb (head_of n) 32 || eqb (head_of n) 41) (more (x ∷ []) n) fail))) r ≡ []
      go = unfold pick going pointed_at onward in (elim [ true ↦ λ g u. refl | false ↦ elim [ parsed x n ↦ λ u. parted (eqb (head_of n) 32 || eqb (head_of n) 41) x n (record { range = item_range (length s - length here) x; next = length s - length n }) u | malformed ↦ λ u. refl ] ])

-- the items of a list in order, by the cursor: the answer there is the first item from there on, and the next cursor has the others
module _ (s : List ℕ) (c : ℕ) (r : Option ItemFound) (is : r ≡ cursor_at s c) where
  pub items-item : (f : ItemFound) → r ≡ Some f → items_from s c ≡ item_in s f.range ∷ items_from s f.next
  unfolding walk onward
  items-item f e =
      let t : inner_turn (drop c s) ≡ more (item_in s f.range ∷ []) (drop f.next s) = cursor-step s c f (sym is ∙ e) in
      let h : length (drop f.next s) < length (drop c s) = inner-shrinks (drop c s) (drop f.next s) _ t in
      rw t (ap (λ (z : List Item). item_in s f.range ∷ z) (walk-enough (length (drop c s)) (suc (length (drop f.next s))) (drop f.next s) h (omega arith)))

  -- at the end none is left
  pub items-end : r ≡ None → items_from s c ≡ []
  unfolding walk
  items-end e = cursor-stop s c (λ m. walk (length (drop c s)) m) (sym is ∙ e)

-- so the answer says the items from the cursor on
pub items-said : (s : List ℕ) (c : ℕ) (r : Option ItemFound) → r ≡ cursor_at s c → list_in s r ≡ items_from s c
unfolding list_in
items-said s c (Some f) is = sym (items-item s c (Some f) is f refl)
items-said s c None is = sym (items-end s c None is refl)

-- the next cursor, for `omega`
pub next_low : (r : Option ItemFound) (f : ItemFound) → r ≡ Some f → low_next r ≡ f.next
next_low r f e = rw e

pub next-high : (r : Option ItemFound) (f : ItemFound) → r ≡ Some f → high_next r ≡ f.next
next-high r f e = rw e

-- what is read past a cursor's spaces ends past the cursor
pub past-cursor : (c i n : ℕ) (r : Option ItemFound) → c < 2 ^ 64 → min c n ≤ i → i < low_next r → high_next r ≤ n → c < low_next r
past-cursor c i n (Some f) k h a b = omega arith
past-cursor c i n None k h a b = k
