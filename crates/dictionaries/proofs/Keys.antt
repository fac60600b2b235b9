-- No member of a dictionary has an empty key: a part of the laws of this crate. Assumes nothing.
use mathlib.Core.Path.{◌≡◌, refl, ap, ◌∙◌}
use Prim.Native.Nat.{ℕ, zero, suc}
use mathlib.Core.List.{List, [], ◌∷◌, ◌++◌}
use mathlib.Core.Bool.{Bool, true, false}
use Rattle.std.specs.Prelude.{Option, Some, None}
use Rattle.ascii.proofs.Clash.{clash}
use lib.ListN.{length, drop}
use lib.Dec.{eqb}
use Rattle.ascii.specs.Bytes.{pick, is_space, is_blank}
use Rattle.ascii.specs.Texts.{same_bytes}
use Rattle.ascii.specs.Reading.{Parsed, Step, head_of, past, is_empty, next, skip, after, mapped, going, adding, on_step, turns}
use Rattle.ascii.specs.Reading.Parsed.{parsed, malformed}
use Rattle.ascii.specs.Reading.Step.{more, done, fail}
use Rattle.items.specs.Items.{key_of}
use Rattle.items.proofs.Laws.{key-some}
use Rattle.dictionaries.specs.Dictionaries.{Value, Placed, Member, assigned_of, member_of, parted_of, dict_turn, read_all, data_of, plain, plains, plainly, members}
use Rattle.dictionaries.specs.Lookup.{into, later, last_value_in}

-- a member's key is not empty
member-some : (l : List ℕ) (x : Member) (m : List ℕ) → member_of l ≡ parsed x m → same_bytes x.key [] ≡ false
unfolding member_of
member-some l x m e = go (key_of l) refl e
  where
    named : (k : List ℕ) (g : Parsed Placed) → same_bytes k [] ≡ false → mapped (λ v. record { key = k; from = length l; placed = v }) g ≡ parsed x m → same_bytes x.key [] ≡ false
    named k (parsed p n) h f =
        let u : record { key = k; from = length l; placed = p } ≡ x = unfold mapped in cc in
        rw (← u) h
    named k malformed h f = clash (unfold mapped in cc)

    go : (g : Parsed (List ℕ)) → key_of l ≡ g → after g (λ k n. mapped (λ v. record { key = k; from = length l; placed = v }) (assigned_of n)) ≡ parsed x m → same_bytes x.key [] ≡ false
    go (parsed k n) h f = named k (assigned_of n) (key-some l k n h) (unfold after in f)
    go malformed h f = clash (unfold after in cc)

-- members among which an empty key finds none
abbrev Keyed : List Member → Type 0
Keyed a = (v : Option Value) → into (later []) v (plains a) ≡ v

one-keyed : (x : Member) → same_bytes x.key [] ≡ false → Keyed (x ∷ [])
unfolding into plains later pick
one-keyed x e v = rw e

keys-append : (a b : List Member) (v : Option Value) → into (later []) v (plains (a ++ b)) ≡ into (later []) (into (later []) v (plains a)) (plains b)
unfolding into plains
keys-append [] b v = refl
keys-append (x ∷ a) b v = keys-append a b (later [] v (plain x))

both-keyed : (a b : List Member) → Keyed a → Keyed b → Keyed (a ++ b)
both-keyed a b h k v = keys-append a b v ∙ (ap (λ (z : Option Value). into (later []) z (plains b)) (h v) ∙ k v)

-- the turns of a dictionary
abbrev TurnKeyed : Step Member → Type 0
TurnKeyed (more a m) = Keyed a
TurnKeyed (done a m) = Keyed a
TurnKeyed fail = Unit {0}

abbrev AllKeyed : Parsed (List Member) → Type 0
AllKeyed (parsed a m) = Keyed a
AllKeyed malformed = Unit {0}

parted-keyed : (x : Member) (l : List ℕ) → Keyed (x ∷ []) → TurnKeyed (parted_of x l)
unfolding parted_of skip next
parted-keyed x l h = go (is_empty (past is_blank l)) (eqb (head_of (past is_blank l)) 44) (is_empty (past is_blank (drop 1 (past is_blank l)))) (past is_blank l) (past is_blank (drop 1 (past is_blank l)))
  where
    go : (a b c : Bool) (m o : List ℕ) → TurnKeyed (pick a (done (x ∷ []) m) (pick b (pick c fail (more (x ∷ []) o)) fail))
    go = unfold pick in (elim [ true ↦ λ b c m o. h | false ↦ elim [ true ↦ elim [ true ↦ λ m o. tt | false ↦ λ m o. h ] | false ↦ λ c m o. tt ] ])

turn-keyed : (l : List ℕ) → TurnKeyed (dict_turn l)
unfolding dict_turn
turn-keyed l = go (member_of l) refl
  where
    go : (g : Parsed Member) → member_of l ≡ g → TurnKeyed (going g (λ x m. parted_of x m))
    go = unfold going in (elim [ parsed x m ↦ λ e. parted-keyed x m (one-keyed x (member-some l x m e)) | malformed ↦ λ e. tt ])

turns-keyed : (n : ℕ) (l : List ℕ) → AllKeyed (turns dict_turn n l)
unfolding turns
turns-keyed zero l = tt
turns-keyed (suc n) l = go (dict_turn l) (turn-keyed l) (λ m. turns-keyed n m)
  where
    add : (a : List Member) (g : Parsed (List Member)) → Keyed a → AllKeyed g → AllKeyed (adding a g)
    add = unfold adding in (λ a. elim [ parsed b m ↦ λ h k. both-keyed a b h k | malformed ↦ λ h k. tt ])

    go : (st : Step Member) → TurnKeyed st → ((m : List ℕ) → AllKeyed (turns dict_turn n m)) → AllKeyed (on_step st (λ m. turns dict_turn n m))
    go = unfold on_step in (elim [ more a m ↦ λ h k. add a (turns dict_turn n m) h (k m) | done a m ↦ λ h k. h | fail ↦ λ h k. tt ])

read-keyed : (s : List ℕ) → AllKeyed (read_all s)
unfolding read_all skip
read-keyed s = go (is_empty (past is_space s))
  where
    go : (b : Bool) → AllKeyed (pick b (parsed [] (past is_space s)) (turns dict_turn (suc (length (past is_space s))) (past is_space s)))
    go = unfold pick in (elim [ true ↦ (λ v. unfold into plains in refl) | false ↦ turns-keyed (suc (length (past is_space s))) (past is_space s) ])

-- so no member has the empty key
pub no-empty-key : (s : List ℕ) (v : Value) → last_value_in [] (members s) ≡ Some (Some v) → ⊥
no-empty-key s v = go (read_all s) (read-keyed s)
  where
    go : (g : Parsed (List Member)) → AllKeyed g → last_value_in [] (plainly (data_of g)) ≡ Some (Some v) → ⊥
    go = unfold last_value_in plainly data_of in (elim [ parsed ms m ↦ λ h e. (let k : into (later []) None (plains ms) ≡ None = h None in clash cc) | malformed ↦ λ h e. clash cc ])
