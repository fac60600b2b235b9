-- How many bytes the items of all members of a dictionary take, at most those of the text: a part of the laws of this crate. Assumes nothing.
use mathlib.Core.Path.{◌≡◌, refl}
use Prim.Native.Nat.{ℕ, zero, suc, ◌+◌, ◌≤◌}
use mathlib.Core.List.{List, [], ◌∷◌, ◌++◌}
use mathlib.Core.Bool.{Bool, true, false}
use Rattle.std.specs.Prelude.{Some, None}
use native.Mathlib.Omega.{arith}
use lib.ListN.{length, drop, length-drop}
use lib.Dec.{eqb}
use Rattle.ascii.specs.Bytes.{pick, is_space, is_blank}
use Rattle.ascii.specs.Reading.{Parsed, Step, head_of, is_empty, skip, past, next, going, adding, on_step, turns}
use Rattle.ascii.specs.Reading.Parsed.{parsed, malformed}
use Rattle.ascii.specs.Reading.Step.{more, done, fail}
use Rattle.ascii.proofs.Suffixes.{suffix-length, suffix-past}
use Rattle.dictionaries.specs.Dictionaries.{Value, Member, Plain, value_items, member_of, parted_of, dict_turn, read_all, data_of, plains, plainly, members}
use Rattle.dictionaries.proofs.Bytes.{items_bytes, member-bytes}

abbrev value_bytes : Value → ℕ
value_bytes v = items_bytes (value_items v)

members_bytes : List Member → ℕ
members_bytes [] = 0
members_bytes (m ∷ ms) = value_bytes m.placed.value + members_bytes ms

members-one : (x : Member) → members_bytes (x ∷ []) ≡ value_bytes x.placed.value
unfolding members_bytes
members-one x = omega arith

members-append : (a b : List Member) → members_bytes (a ++ b) ≡ members_bytes a + members_bytes b
unfolding members_bytes
members-append [] b = omega arith
members-append (x ∷ a) b = omega (arith, members-append a b)

-- one turn
abbrev TurnBytes : List ℕ → Step Member → Type 0
TurnBytes l (more xs m) = members_bytes xs + length m ≤ length l
TurnBytes l (done xs m) = members_bytes xs + length m ≤ length l
TurnBytes l fail = Unit {0}

parted-bytes : (x : Member) (m l : List ℕ) → value_bytes x.placed.value + length m ≤ length l → TurnBytes l (parted_of x m)
unfolding parted_of skip next
parted-bytes x m l h = go (is_empty (past is_blank m)) (eqb (head_of (past is_blank m)) 44) (is_empty (past is_blank (drop 1 (past is_blank m))))
  where
    go : (a b c : Bool) → TurnBytes l (pick a (done (x ∷ []) (past is_blank m)) (pick b (pick c fail (more (x ∷ []) (past is_blank (drop 1 (past is_blank m))))) fail))
    go true b c = unfold pick in (omega (arith, members-one x, suffix-length (suffix-past is_blank m)))
    go false true true = unfold pick in tt
    go false true false = unfold pick in (omega (arith, members-one x, suffix-length (suffix-past is_blank m), length-drop 1 (past is_blank m), suffix-length (suffix-past is_blank (drop 1 (past is_blank m)))))
    go false false c = unfold pick in tt

turn-bytes : (l : List ℕ) → TurnBytes l (dict_turn l)
unfolding dict_turn
turn-bytes l = go (member_of l) refl
  where
    go : (g : Parsed Member) → member_of l ≡ g → TurnBytes l (going g (λ x m. parted_of x m))
    go (parsed x m) e = unfold going in (parted-bytes x m l (member-bytes l x m e))
    go malformed e = unfold going in tt

-- all of them
abbrev AllBytes : List ℕ → Parsed (List Member) → Type 0
AllBytes l (parsed ms m) = members_bytes ms ≤ length l
AllBytes l malformed = Unit {0}

turns-bytes : (n : ℕ) (l : List ℕ) → AllBytes l (turns dict_turn n l)
unfolding turns
turns-bytes zero l = tt
turns-bytes (suc n) l = go (dict_turn l) (turn-bytes l) (λ m. turns-bytes n m)
  where
    add : (a : List Member) (m : List ℕ) (g : Parsed (List Member)) → members_bytes a + length m ≤ length l → AllBytes m g → AllBytes l (adding a g)
    add a m (parsed b o) h w = unfold adding in (omega (arith, members-append a b))
    add a m malformed h w = unfold adding in tt

    go : (st : Step Member) → TurnBytes l st → ((m : List ℕ) → AllBytes m (turns dict_turn n m)) → AllBytes l (on_step st (λ m. turns dict_turn n m))
    go (more a m) h w = unfold on_step in (add a m (turns dict_turn n m) h (w m))
    go (done a m) h w = unfold on_step in (omega arith)
    go fail h w = unfold on_step in tt

all-wide : (k l : List ℕ) (g : Parsed (List Member)) → length k ≤ length l → AllBytes k g → AllBytes l g
all-wide k l (parsed ms m) h w = omega arith
all-wide k l malformed h w = tt

read-bytes : (s : List ℕ) → AllBytes s (read_all s)
unfolding read_all skip
read-bytes s = go (is_empty (past is_space s))
  where
    go : (b : Bool) → AllBytes s (pick b (parsed [] (past is_space s)) (turns dict_turn (suc (length (past is_space s))) (past is_space s)))
    go true = unfold pick in (unfold members_bytes in (omega arith))
    go false = unfold pick in (all-wide (past is_space s) s (turns dict_turn (suc (length (past is_space s))) (past is_space s)) (suffix-length (suffix-past is_space s)) (turns-bytes (suc (length (past is_space s))) (past is_space s)))

-- the same of members without their places
pub plain_bytes : List Plain → ℕ
plain_bytes [] = 0
plain_bytes (m ∷ ms) = items_bytes (value_items m.value) + plain_bytes ms

pub plain-none : plain_bytes [] ≡ 0
unfolding plain_bytes
plain-none = refl

pub plain-first : (m : Plain) (ms : List Plain) → plain_bytes (m ∷ ms) ≡ items_bytes (value_items m.value) + plain_bytes ms
unfolding plain_bytes
plain-first m ms = refl

plains-bytes : (ms : List Member) → plain_bytes (plains ms) ≡ members_bytes ms
unfolding plain_bytes plains members_bytes
plains-bytes [] = refl
plains-bytes (m ∷ ms) = omega (arith, plains-bytes ms)

pub members-bytes : (s : List ℕ) (ms : List Plain) → members s ≡ Some ms → plain_bytes ms ≤ length s
members-bytes s ms e = go (read_all s) refl (read-bytes s)
  where
    go : (g : Parsed (List Member)) → read_all s ≡ g → AllBytes s g → plain_bytes ms ≤ length s
    go (parsed xs m) k w =
        let q : plainly (data_of (read_all s)) ≡ Some (plains xs) = unfold plainly data_of in (rw k refl) in
        let z : ms ≡ plains xs = cc in
        rw z (omega (arith, plains-bytes xs))
    go malformed k w = let q : plainly (data_of (read_all s)) ≡ None = unfold plainly data_of in (rw k refl) in let z : ◌≡◌ {A = ℕ} 0 1 = cc in absurd (omega arith)
