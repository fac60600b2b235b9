-- Values and members by their places. Assumes nothing.
use Rattle.std.specs.Prelude.{Option, Some, None}
use mathlib.Core.Path.{◌≡◌, refl, ap, ◌∙◌, sym}
use Prim.Native.Nat.{ℕ, ◌+◌, ◌-◌, ◌≤◌, ◌<◌}
use mathlib.Core.List.{List, [], ◌∷◌}
use mathlib.Core.Bool.{Bool, true, false, ◌||◌}
use native.Mathlib.Omega.{arith}
use lib.ListN.{length, drop, length-drop}
use lib.Seq.{drop-drop}
use lib.Dec.{eqb}
use borrow.Author.Tests.{eq-eqb, ne_eqb}
use Rattle.ascii.specs.Bytes.{pick, is_space}
use Rattle.ascii.specs.Reading.{Parsed, Step, head_of, is_empty, past, skip, next, after, going}
use Rattle.ascii.specs.Reading.Parsed.{parsed, malformed}
use Rattle.ascii.specs.Reading.Step.{more, done, fail}
use Rattle.ascii.specs.declared.Turn.TheVariants as turn
use Rattle.ascii.proofs.Clash.{clash}
use Rattle.ascii.specs.Places.{rest_of, left_at, went_of, went_at, high}
use Rattle.ascii.proofs.Reading.{empty-yes, empty-no}
use Rattle.items.specs.Items.{Item, Parameter, params_of, item_of}
use Rattle.items.specs.Items.Item.{other}
use Rattle.items.specs.Found.{item_range, item_found}
use Rattle.items.specs.Found as f
use Rattle.items.specs.declared.ItemKind.TheVariants as kind
use Rattle.items.specs.declared.ItemFound.{ItemFound}
use Rattle.items.proofs.Ranges.{place-left, left-at, left-none, left-parsed, left_not, none-parsed, other_at, found-is}
use Rattle.dictionaries.specs.Dictionaries.{Value, Placed, inner_turn, closed_of}
use Rattle.dictionaries.specs.Dictionaries.Value.{one, many}
use Rattle.dictionaries.specs.Lookup.{range_at, placed_at, pointed_at, cursor_at}
use Rattle.dictionaries.specs.Steps.{value_found, parted_rest}
use Rattle.dictionaries.specs.declared.ValueRange.{ValueRange}
use Rattle.dictionaries.specs.declared.ValueRange.TheVariants as range
use Rattle.dictionaries.specs.declared.MemberValue.{MemberValue}
use Rattle.dictionaries.proofs.InnerLists.{cursor-step}

place_of : (s : List ℕ) (i : ℕ) → i ≤ length s → length s - length (drop i s) ≡ i
place_of s i h = omega (arith, length-drop i s)

-- a value and the parameters past it
module _ (s : List ℕ) (q : ℕ) (p : Option ℕ) (is : left_at s p ≡ rest_of (params_of (drop q s))) where
  pub closed-some : (n : ℕ) → p ≡ Some n → high p ≤ length s → q ≤ length s → (at : ValueRange) (v : Value) (l : List ℕ) → at ≡ range_at (length s - length l) v → Some (record { range = at; params = record { from = q; to = n } }) ≡ value_found s (closed_of v l (drop q s))
  unfolding closed_of
  closed-some n e h k at v l w = go (params_of (drop q s)) (left-at s p n _ e is)
    where
      go : (g : Parsed (List Parameter)) → left_at s (Some n) ≡ rest_of g → Some (record { range = at; params = record { from = q; to = n } }) ≡ value_found s (after g (λ ps m. parsed (record { value = v; parameters = ps; start = length l; params_from = length (drop q s); params_to = length m }) m))
      go = unfold after value_found placed_at in (elim [
        | parsed ps m ↦ λ d.
            let a : q ≡ length s - length (drop q s) = sym (place_of s q k) in
            let b : n ≡ length s - length m = place-left s m n (omega (arith, ap high e)) (left-parsed s m n ps d) in
            λ j. Some (record { range = w j; params = record { from = a j; to = b j } })
        | malformed ↦ λ d. absurd (left_not (List Parameter) s n d)
      ])

  pub closed-none : p ≡ None → (v : Value) (l : List ℕ) → None ≡ value_found s (closed_of v l (drop q s))
  unfolding closed_of
  closed-none e v l = go (params_of (drop q s)) (left-none s p _ e is)
    where
      go : (g : Parsed (List Parameter)) → left_at s None ≡ rest_of g → None ≡ value_found s (after g (λ ps m. parsed (record { value = v; parameters = ps; start = length l; params_from = length (drop q s); params_to = length m }) m))
      go = unfold after value_found in (elim [ parsed ps m ↦ λ d. absurd (none-parsed s m ps d) | malformed ↦ λ d. refl ])

-- what is left past a value is what is left past its parameters
pub rest-closed : (R : Option (List ℕ)) (v : Value) (l m : List ℕ) → R ≡ rest_of (params_of m) → R ≡ rest_of (closed_of v l m)
unfolding closed_of after rest_of
rest-closed R v l m e = go (params_of m) e
  where
    go : (g : Parsed (List Parameter)) → R ≡ rest_of g → R ≡ rest_of {A = Placed} (after g (λ ps n. parsed (record { value = v; parameters = ps; start = length l; params_from = length m; params_to = length n }) n))
    go (parsed ps n) d = unfold after rest_of in d
    go malformed d = unfold after rest_of in d

-- what follows a part that was read
module _ {B : Type 0} (s : List ℕ) (a : Parsed B) (r : Option ℕ) (is : left_at s r ≡ rest_of a) (f : B → List ℕ → Parsed Placed) where
  pub value-after : (R : Option MemberValue) (q : ℕ) → r ≡ Some q → ((x : B) → a ≡ parsed x (drop q s) → R ≡ value_found s (f x (drop q s))) → R ≡ value_found s (after a f)
  value-after R q e h = go a refl (left-at s r q _ e is)
    where
      go : (g : Parsed B) → a ≡ g → left_at s (Some q) ≡ rest_of g → R ≡ value_found s (after g f)
      go = unfold after in (elim [
        | parsed x m ↦ λ u v. let d : drop q s ≡ m = left-parsed s m q x v in rw (← d) (h x (u ∙ ap (λ (z : List ℕ). parsed x z) (sym d)))
        | malformed ↦ λ u v. absurd (left_not B s q v)
      ])

  pub value-unread : r ≡ None → None ≡ value_found s (after a f)
  value-unread e = go a (left-none s r _ e is)
    where
      go : (g : Parsed B) → left_at s None ≡ rest_of g → None ≡ value_found s (after g f)
      go = unfold after value_found in (elim [ parsed x m ↦ λ v. absurd (none-parsed s m x v) | malformed ↦ λ v. refl ])

-- where a value stands that starts at a place
module _ (s : List ℕ) (i : ℕ) (h : i ≤ length s) where
  pub list-ranged : (xs : List Item) → range.List i ≡ range_at (length s - length (drop i s)) (many xs)
  unfolding range_at
  list-ranged xs = ap range.List (sym (place_of s i h))

  pub item-ranged : (fd : ItemFound) (g : Parsed Item) (x : Item) (m : List ℕ) → Some fd ≡ item_found s i g → g ≡ parsed x m → range.Item fd.range ≡ range_at (length s - length (drop i s)) (one x)
  unfolding range_at
  item-ranged fd g x m u e =
      let w : fd.range ≡ item_range i x = ap (λ (z : ItemFound). z.range) (found-is s i fd x m (rw e at u)) in
      ap range.Item (w ∙ ap (λ (z : ℕ). item_range z x) (sym (place_of s i h)))

  pub truth-ranged : range.Item (record { kind = kind.Other; text = record { from = i; to = i } }) ≡ range_at (length s - length (drop i s)) (one other)
  unfolding range_at
  truth-ranged = ap range.Item (sym (other_at i) ∙ ap (λ (z : ℕ). item_range z other) (sym (place_of s i h)))

-- a choice, and a byte that is consumed
module _ (s : List ℕ) (R : Option MemberValue) where
  pub value-yes : (b : Bool) (x y : Parsed Placed) → b ≡ true → R ≡ value_found s x → R ≡ value_found s (pick b x y)
  unfolding pick
  value-yes b x y t e = rw t e

  pub value-no : (b : Bool) (x y : Parsed Placed) → b ≡ false → R ≡ value_found s y → R ≡ value_found s (pick b x y)
  unfolding pick
  value-no b x y t e = rw t e

  pub value-next : (i : ℕ) (g : List ℕ → Parsed Placed) → R ≡ value_found s (g (drop (i + 1) s)) → R ≡ value_found s (next (drop i s) g)
  unfolding next
  value-next i g e = rw drop-drop e

pub value-told : (a a' n : ℕ) → a' ≡ a → a' ≡ n → eqb a n ≡ true
value-told a a' n e g = eq-eqb a n (sym e ∙ g)

pub value-told-not : (a a' n : ℕ) → a' ≡ a → (a' ≡ n → ⊥) → eqb a n ≡ false
value-told-not a a' n e g = ne_eqb a n (λ z. g (e ∙ z))

pub ruleset values = (value-yes, value-no, value-next, value-told, value-told-not)

-- an item of an inner list
module _ (s : List ℕ) (i : ℕ) (h : i ≤ length s) (r : Option ItemFound) (is : r ≡ item_found s i (item_of (drop i s))) (left : left_at s (f.end_of r) ≡ rest_of (item_of (drop i s))) where
  pub inner-none : r ≡ None → None ≡ pointed_at s (drop i s) (item_of (drop i s))
  inner-none at = go (item_of (drop i s)) (rw at at left)
    where
      go : (k : Parsed Item) → left_at s None ≡ rest_of k → None ≡ pointed_at s (drop i s) k
      go = unfold pointed_at in (elim [ parsed y m ↦ λ v. absurd (none-parsed s m y v) | malformed ↦ λ v. refl ])

  module _ (fd : ItemFound) (at : r ≡ Some fd) (y : ℕ) (v : y ≡ head_of (drop fd.next s)) where
    inner-found : (b : Bool) → eqb y 32 || eqb y 41 ≡ b → pick b (Some fd) None ≡ pointed_at s (drop i s) (item_of (drop i s))
    inner-found b t = go (item_of (drop i s)) (sym at ∙ is) (rw at at left)
      where
        go : (k : Parsed Item) → Some fd ≡ item_found s i k → left_at s (Some fd.next) ≡ rest_of k → pick b (Some fd) None ≡ pointed_at s (drop i s) k
        go = unfold pointed_at in (elim [
          | parsed z m ↦ λ a d.
              let w : drop fd.next s ≡ m = left-parsed s m fd.next z d in
              let o : fd ≡ record { range = item_range i z; next = length s - length m } = found-is s i fd z m a in
              let q : head_of m ≡ y = sym (v ∙ ap head_of w) in
              rw (q, t, place_of s i h, o) refl
          | malformed ↦ λ a d. absurd (left_not Item s fd.next d)
        ])

    pub inner-follows : eqb y 32 || eqb y 41 ≡ true → Some fd ≡ pointed_at s (drop i s) (item_of (drop i s))
    unfolding pick
    inner-follows t = inner-found true t

    pub inner-other : eqb y 32 || eqb y 41 ≡ false → None ≡ pointed_at s (drop i s) (item_of (drop i s))
    unfolding pick
    inner-other t = inner-found false t

pub ruleset inners = (inner-none, inner-follows, inner-other)

-- what is read at a cursor, past spaces
module _ (s : List ℕ) (c i x : ℕ) (e : drop i s ≡ past is_space (drop c s)) (u : x ≡ head_of (drop i s)) where
  pub cursor-end : x ≡ 41 → None ≡ cursor_at s c
  unfolding cursor_at skip pick
  cursor-end g = rw (← e, eq-eqb (head_of (drop i s)) 41 (sym u ∙ g))

  module _ (g : x ≡ 41 → ⊥) (r : Option ItemFound) (is : r ≡ pointed_at s (drop i s) (item_of (drop i s))) where
    pub cursor-item : r ≡ cursor_at s c
    unfolding cursor_at skip pick
    cursor-item = rw (← e, ne_eqb (head_of (drop i s)) 41 (λ z. g (u ∙ z))) is

    -- and the turn of the list there
    pub turn-item : (f : ItemFound) → r ≡ Some f → went_at s (Some (turn.More f.next)) ≡ went_of (inner_turn (drop c s))
    unfolding went_at went_of
    turn-item f at = rw (cursor-step s c f (sym cursor-item ∙ at)) refl

    pub turn-none : r ≡ None → went_at s None ≡ went_of (inner_turn (drop c s))
    unfolding went_at went_of inner_turn skip pick
    turn-none at = rw (← e, ne_eqb (head_of (drop i s)) 41 (λ z. g (u ∙ z))) (go (item_of (drop i s)) (sym at ∙ is))
      where
        parted : (t : Bool) (y : Item) (n : List ℕ) (fd : ItemFound) → None ≡ pick t (Some fd) None → went_at s None ≡ went_of (pick t (more (y ∷ []) n) fail)
        parted = unfold pick went_at went_of in (elim [ true ↦ λ y n fd w. clash cc | false ↦ λ y n fd w. refl ])

        go : (k : Parsed Item) → None ≡ pointed_at s (drop i s) k → went_at s None ≡ went_of (going k (λ y n. pick (eqb (head_of n) 32 || eqb (head_of n) 41) (more (y ∷ []) n) fail))
        go = unfold pointed_at going in (elim [ parsed y n ↦ λ w. parted (eqb (head_of n) 32 || eqb (head_of n) 41) y n _ w | malformed ↦ λ w. (unfold went_at went_of in refl) ])

pub ruleset cursors = (cursor-end, cursor-item)

-- what parts a member from the next, by the turn that it is
module _ (s : List ℕ) (st : Step (Unit {0})) where
  pub parted-more : (q : ℕ) → went_at s (Some (turn.More q)) ≡ went_of st → left_at s (Some q) ≡ parted_rest st
  parted-more q = go st
    where
      go : (k : Step (Unit {0})) → went_at s (Some (turn.More q)) ≡ went_of k → left_at s (Some q) ≡ parted_rest k
      go = unfold went_at went_of left_at parted_rest in (elim [ more a l ↦ λ e. cc | done a l ↦ λ e. clash cc | fail ↦ λ e. clash cc ])

  pub parted-done : (q : ℕ) → went_at s (Some (turn.Done q)) ≡ went_of st → left_at s (Some q) ≡ parted_rest st
  parted-done q = go st
    where
      go : (k : Step (Unit {0})) → went_at s (Some (turn.Done q)) ≡ went_of k → left_at s (Some q) ≡ parted_rest k
      go = unfold went_at went_of left_at parted_rest in (elim [ more a l ↦ λ e. clash cc | done a l ↦ λ e. cc | fail ↦ λ e. clash cc ])

  pub parted-none : went_at s None ≡ went_of st → left_at s None ≡ parted_rest st
  parted-none = go st
    where
      go : (k : Step (Unit {0})) → went_at s None ≡ went_of k → left_at s None ≡ parted_rest k
      go = unfold went_at went_of left_at parted_rest in (elim [ more a l ↦ λ e. clash cc | done a l ↦ λ e. clash cc | fail ↦ λ e. refl ])

-- what stands past a member, by the place past the blanks
pub past_end : (s : List ℕ) (e : ℕ) → length s ≤ e → is_empty (drop e s) ≡ true
past_end s e h = empty-yes s e h

pub past_more : (s : List ℕ) (e : ℕ) → e < length s → is_empty (drop e s) ≡ false
past_more s e h = empty-no s e h
