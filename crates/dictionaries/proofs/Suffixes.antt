-- What is left past the parts of a dictionary is the end of the text. Assumes nothing.
use Prim.Native.Nat.{ℕ, suc}
use mathlib.Core.List.{List}
use lib.ListN.{length}
use Rattle.ascii.specs.Reading.{turns}
use Rattle.ascii.proofs.Suffixes.{Suffix, Ends, StepEnds, suffix_trans, ends-wide, ends-turns, suffixes}
use Rattle.items.specs.Items.{bare_of, item_of}
use Rattle.items.proofs.Suffixes.{key-ends, bare_ends, params_in, item-ends}
use Rattle.dictionaries.specs.Dictionaries.{Member, inner_turn, inner_of, closed_of, list_of, lone_of, bare_key, value_of, assigned_of, member_of, parted_of, dict_turn}

-- each reader leaves an end of its text
item-in : (k l : List ℕ) → Suffix k l → Ends l (item_of k)
item-in k l h = ends-wide l k (item_of k) h (item-ends k)

pub inner-turn-ends : (l : List ℕ) → StepEnds l (inner_turn l)
unfolding inner_turn
inner-turn-ends l = search (suffixes, item-in) depth 9

inner-in : (k l : List ℕ) → Suffix k l → Ends l (inner_of k)
unfolding inner_of
inner-in k l h = ends-wide l k (turns inner_turn (suc (length k)) k) h (ends-turns inner_turn inner-turn-ends (suc (length k)) k)

bare-in : (k l : List ℕ) → Suffix k l → Ends l (bare_of k)
bare-in k l h = ends-wide l k (bare_of k) h (bare_ends k)

pub assigned-ends : (l : List ℕ) → Ends l (assigned_of l)
unfolding assigned_of value_of list_of lone_of bare_key closed_of
assigned-ends l = search (suffixes, inner-in, bare-in, params_in) depth 9 fits 20000

assigned-in : (k l : List ℕ) → Suffix k l → Ends l (assigned_of k)
assigned-in k l h = ends-wide l k (assigned_of k) h (assigned-ends k)

pub member-ends : (l : List ℕ) → Ends l (member_of l)
unfolding member_of
member-ends l = search (suffixes, key-ends, assigned-in) depth 9

pub parted-ends : {A : Type 0} (x : A) (l : List ℕ) → StepEnds l (parted_of x l)
unfolding parted_of
parted-ends x l = search suffixes depth 9 fits 20000

parted-in : (x : Member) (k l : List ℕ) → Suffix k l → StepEnds l (parted_of x k)
parted-in x k l h = record { goes_on = λ a m e. suffix_trans h ((parted-ends x k).goes_on a m e); stops = λ a m e. suffix_trans h ((parted-ends x k).stops a m e) }

pub dict-turn-ends : (l : List ℕ) → StepEnds l (dict_turn l)
unfolding dict_turn
dict-turn-ends l = search (suffixes, member-ends, parted-in) depth 9
