-- How many bytes of a text the items of a list, and those of a member, take at least. Assumes nothing.
use mathlib.Core.Path.{◌≡◌, refl, ap, ◌∙◌, sym}
use Prim.Native.Nat.{ℕ, zero, suc, ◌+◌, ◌≤◌}
use mathlib.Core.List.{List, [], ◌∷◌, ◌++◌}
use mathlib.Core.Bool.{Bool, true, false, ◌||◌}
use Rattle.std.specs.Prelude.{Option, Some, None, Result, Ok, Err}
use native.Mathlib.Omega.{arith}
use lib.ListN.{length, drop, length-drop}
use lib.Dec.{eqb}
use Rattle.ascii.proofs.Clash.{clash}
use Rattle.ascii.specs.Bytes.{pick, is_space}
use Rattle.ascii.specs.Reading.{Parsed, Step, head_of, skip, past, next, after, mapped, going, adding, on_step, turns}
use Rattle.ascii.specs.Reading.Parsed.{parsed, malformed}
use Rattle.ascii.specs.Reading.Step.{more, done, fail}
use Rattle.ascii.proofs.Suffixes.{suffix-length, suffix-past}
use Rattle.items.specs.Items.{Item, key_of, bare_of, params_of, item_of}
use Rattle.items.specs.Items.Item.{other}
use Rattle.items.proofs.Suffixes.{key-ends, params-ends}
use Rattle.items.proofs.Bytes.{item_bytes, other-bytes, bare-bytes, item-bytes}
use Rattle.dictionaries.specs.Dictionaries.{Value, Placed, Member, value_items, inner_turn, inner_of, closed_of, list_of, lone_of, bare_key, value_of, assigned_of, member_of, members}
use Rattle.dictionaries.specs.Dictionaries.Value.{one, many}
use Rattle.dictionaries.specs.Lookup.{last_value_in, last_found, range_in, value_in, found_in, onward, walk, items_from}
use Rattle.dictionaries.specs.Members.{IsNext}
use Rattle.dictionaries.specs.declared.MemberAt.{MemberAt}
use Rattle.dictionaries.specs.declared.ValueRange.{ValueRange}
use Rattle.dictionaries.specs.declared.ValueRange.TheVariants as range
use Rattle.dictionaries.specs.declared.MemberValue.{MemberValue}
use Rattle.dictionaries.specs.declared.NotADictionary.{NotADictionary}
use Rattle.dictionaries.proofs.Places.{found-last}
use Rattle.dictionaries.proofs.Members.{next-member-low, next-member-high}
use Rattle.dictionaries.proofs.NextMembers.{Stepped, step-member, stepped-value, stepped-says}

-- the bytes of the items of a list
unfoldable pub items_bytes : List Item → ℕ
items_bytes [] = 0
items_bytes (x ∷ xs) = item_bytes x + items_bytes xs

pub bytes-none : items_bytes [] ≡ 0
unfolding items_bytes
bytes-none = refl

pub bytes-first : (x : Item) (xs : List Item) → items_bytes (x ∷ xs) ≡ item_bytes x + items_bytes xs
unfolding items_bytes
bytes-first x xs = refl

bytes_one : (x : Item) → items_bytes (x ∷ []) ≡ item_bytes x
unfolding items_bytes
bytes_one x = omega arith

bytes-append : (xs ys : List Item) → items_bytes (xs ++ ys) ≡ items_bytes xs + items_bytes ys
unfolding items_bytes
bytes-append [] ys = omega arith
bytes-append (x ∷ xs) ys = omega (arith, bytes-append xs ys)

-- one turn of an inner list
abbrev TurnBytes : List ℕ → Step Item → Type 0
TurnBytes l (more xs m) = items_bytes xs + length m ≤ length l
TurnBytes l (done xs m) = items_bytes xs + length m ≤ length l
TurnBytes l fail = Unit {0}

turn-bytes : (l : List ℕ) → TurnBytes l (inner_turn l)
unfolding inner_turn skip next
turn-bytes l = go (eqb (head_of (past is_space l)) 41) (item_of (past is_space l)) refl
  where
    parted : (x : Item) (n : List ℕ) (t : Bool) → item_bytes x + length n ≤ length l → TurnBytes l (pick t (more (x ∷ []) n) fail)
    parted x n true h = unfold pick in (omega (arith, bytes_one x))
    parted x n false h = unfold pick in tt

    go : (b : Bool) (g : Parsed Item) → item_of (past is_space l) ≡ g → TurnBytes l (pick b (done [] (drop 1 (past is_space l))) (going g (λ x n. pick (eqb (head_of n) 32 || eqb (head_of n) 41) (more (x ∷ []) n) fail)))
    go true g h = unfold pick in (omega (arith, bytes-none, length-drop 1 (past is_space l), suffix-length (suffix-past is_space l)))
    go false (parsed x n) h =
        unfold pick going in (parted x n (eqb (head_of n) 32 || eqb (head_of n) 41) (omega (arith, item-bytes (past is_space l) x n h, suffix-length (suffix-past is_space l))))
    go false malformed h = unfold pick going in tt

-- from a cursor on, wherever it stands
walk-bytes : (n : ℕ) (l : List ℕ) → items_bytes (walk n l) ≤ length l
unfolding walk
walk-bytes zero l = omega (arith, bytes-none)
walk-bytes (suc n) l = go (inner_turn l) (turn-bytes l) (λ m. walk-bytes n m)
  where
    go : (st : Step Item) → TurnBytes l st → ((m : List ℕ) → items_bytes (walk n m) ≤ length m) → items_bytes (onward st (λ m. walk n m)) ≤ length l
    go (more xs m) h ih = unfold onward in (omega (arith, bytes-append xs (walk n m), ih m))
    go (done xs m) h ih = unfold onward in (omega arith)
    go fail h ih = unfold onward in (omega (arith, bytes-none))

pub cursor-bytes : (s : List ℕ) (c : ℕ) → items_bytes (items_from s c) ≤ length s
cursor-bytes s c = omega (arith, walk-bytes (suc (length (drop c s))) (drop c s), length-drop c s)

-- the last value of a key, where it is a list
pub last-bytes : (s key : List ℕ) (xs : List Item) → last_value_in key (members s) ≡ Some (Some (many xs)) → items_bytes xs ≤ length s
last-bytes s key xs e = go (last_found s key) (found-last s key ∙ e)
  where
    stands : (v : ValueRange) → range_in s v ≡ many xs → items_bytes xs ≤ length s
    stands = unfold range_in in (elim [
      | range.Item x ↦ λ f. clash cc
      | range.List first ↦ λ f. let q : items_from s first ≡ xs = cc in omega (arith, ap items_bytes q, cursor-bytes s first)
    ])

    go : (r : Result (Option MemberValue) NotADictionary) → found_in s r ≡ Some (Some (many xs)) → items_bytes xs ≤ length s
    go (Err u) f = clash (unfold found_in in cc)
    go (Ok None) f = clash (unfold found_in in cc)
    go (Ok (Some v)) f = stands v.range (unfold found_in in cc)

-- a reading that takes at least so many bytes
record Takes {A : Type 0} (size : A → ℕ) (l : List ℕ) (g : Parsed A) : Type 0 where
  takes : (a : A) (m : List ℕ) → g ≡ parsed a m → size a + length m ≤ length l

module _ {A : Type 0} (size : A → ℕ) (l : List ℕ) where
  takes-malformed : Takes size l malformed
  takes-malformed = record { takes = λ a m e. clash cc }

  takes-parsed : (x : A) (n : List ℕ) → size x + length n ≤ length l → Takes size l (parsed x n)
  takes-parsed x n h = record { takes = λ a m e. let u : x ≡ a = cc in let v : n ≡ m = cc in rw (← u, ← v) h }

  takes-pick : (b : Bool) (x y : Parsed A) → Takes size l x → Takes size l y → Takes size l (pick b x y)
  unfolding pick
  takes-pick true x y h k = h
  takes-pick false x y h k = k

  takes-after : {B : Type 0} (g : Parsed B) (f : B → List ℕ → Parsed A) → ((x : B) (m : List ℕ) → g ≡ parsed x m → Takes size l (f x m)) → Takes size l (after g f)
  unfolding after
  takes-after (parsed x m) f h = h x m refl
  takes-after malformed f h = takes-malformed

  takes-wide : (k : List ℕ) (g : Parsed A) → length k ≤ length l → Takes size k g → Takes size l g
  takes-wide k g h w = record { takes = λ a m e. omega (arith, w.takes a m e) }

-- an inner list
inner-bytes : (n : ℕ) (l : List ℕ) → Takes items_bytes l (turns inner_turn n l)
unfolding turns
inner-bytes zero l = takes-malformed items_bytes l
inner-bytes (suc n) l = go (inner_turn l) (turn-bytes l) (λ m. inner-bytes n m)
  where
    add : (a : List Item) (m : List ℕ) (g : Parsed (List Item)) → items_bytes a + length m ≤ length l → Takes items_bytes m g → Takes items_bytes l (adding a g)
    add = unfold adding in (λ a m. elim [ parsed b o ↦ λ h w. takes-parsed items_bytes l (a ++ b) o (omega (arith, bytes-append a b, w.takes b o refl)) | malformed ↦ λ h w. takes-malformed items_bytes l ])

    go : (st : Step Item) → TurnBytes l st → ((m : List ℕ) → Takes items_bytes m (turns inner_turn n m)) → Takes items_bytes l (on_step st (λ m. turns inner_turn n m))
    go = unfold on_step in (elim [ more a m ↦ λ h w. add a m (turns inner_turn n m) h (w m) | done a m ↦ λ h w. takes-parsed items_bytes l a m h | fail ↦ λ h w. takes-malformed items_bytes l ])

-- a value and its parameters
abbrev placed_bytes : Placed → ℕ
placed_bytes p = items_bytes (value_items p.value)

closed-bytes : (v : Value) (k m l : List ℕ) → items_bytes (value_items v) + length m ≤ length l → Takes placed_bytes l (closed_of v k m)
unfolding closed_of
closed-bytes v k m l h =
    takes-after placed_bytes l (params_of m) (λ ps n. parsed (record { value = v; parameters = ps; start = length k; params_from = length m; params_to = length n }) n)
    (λ ps n e. takes-parsed placed_bytes l (record { value = v; parameters = ps; start = length k; params_from = length m; params_to = length n }) n (omega (arith, suffix-length ((params-ends m).ends ps n e))))

list-bytes : (l : List ℕ) → Takes placed_bytes l (list_of l)
unfolding list_of inner_of
list-bytes l =
    takes-after placed_bytes l (turns inner_turn (suc (length l)) l) (λ xs m. closed_of (many xs) l m)
    (λ xs m e. closed-bytes (many xs) l m l ((inner-bytes (suc (length l)) l).takes xs m e))

lone-bytes : (l : List ℕ) → Takes placed_bytes l (lone_of l)
unfolding lone_of
lone-bytes l =
    takes-after placed_bytes l (bare_of l) (λ x m. closed_of (one x) l m)
    (λ x m e. closed-bytes (one x) l m l (omega (arith, bytes_one x, bare-bytes l x m e)))

key-bytes : (l : List ℕ) → Takes placed_bytes l (bare_key l)
unfolding bare_key
key-bytes l = closed-bytes (one other) l l l (omega (arith, bytes_one other, other-bytes))

assigned-bytes : (l : List ℕ) → Takes placed_bytes l (assigned_of l)
unfolding assigned_of value_of next
assigned-bytes l =
    let m = drop 1 l in
    let h : length m ≤ length l = omega (arith, length-drop 1 l) in
    let n = drop 1 m in
    let g : length n ≤ length l = omega (arith, length-drop 1 m) in
    takes-pick placed_bytes l (eqb (head_of l) 61) (pick (eqb (head_of m) 40) (list_of n) (lone_of m)) (bare_key l)
    (takes-pick placed_bytes l (eqb (head_of m) 40) (list_of n) (lone_of m) (takes-wide placed_bytes l n (list_of n) g (list-bytes n)) (takes-wide placed_bytes l m (lone_of m) h (lone-bytes m)))
    (key-bytes l)

-- the items of a member take no more bytes than its text
abbrev member_bytes : Member → ℕ
member_bytes m = placed_bytes m.placed

member-takes : (l : List ℕ) → Takes member_bytes l (member_of l)
unfolding member_of
member-takes l =
    takes-after member_bytes l (key_of l) (λ k m. mapped (λ v. record { key = k; from = length l; placed = v }) (assigned_of m))
    (λ k m e. keyed k (assigned_of m) (takes-wide placed_bytes l m (assigned_of m) (suffix-length ((key-ends l).ends k m e)) (assigned-bytes m)))
  where
    keyed : (k : List ℕ) (g : Parsed Placed) → Takes placed_bytes l g → Takes member_bytes l (mapped (λ v. record { key = k; from = length l; placed = v }) g)
    keyed = unfold mapped in (λ k. elim [ parsed p n ↦ λ w. takes-parsed (λ (m : Member). placed_bytes m.placed) l (record { key = k; from = length l; placed = p }) n (w.takes p n refl) | malformed ↦ λ w. takes-malformed (λ (m : Member). placed_bytes m.placed) l ])

pub member-bytes : (l : List ℕ) (m : Member) (n : List ℕ) → member_of l ≡ parsed m n → items_bytes (value_items m.placed.value) + length n ≤ length l
member-bytes l m n e = (member-takes l).takes m n e

-- and so they end before the next cursor
pub next-bytes : (s : List ℕ) (c : ℕ) (r : Result (Option MemberAt) NotADictionary) (f : MemberAt) → IsNext s c r → r ≡ Ok (Some f) → items_bytes (value_items (value_in s f.value)) + c ≤ f.next
next-bytes s c r f h e =
    let y : Stepped s c f = step-member s c f (sym h.is ∙ e) in
    let v : value_in s f.value ≡ y.member.placed.value = ap (value_in s) (stepped-value s c f y) ∙ (stepped-says s c f y).0 in
    omega
    (arith, ap (λ (z : Value). items_bytes (value_items z)) v, member-bytes (past is_space (drop c s)) y.member y.left y.reads, y.fewer, suffix-length (suffix-past is_space (drop c s)), length-drop c s, h.past, h.upto, next-member-low r f e, next-member-high r f e)
