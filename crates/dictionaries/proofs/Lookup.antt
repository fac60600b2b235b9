-- The last member of a key: member by member, and whether there is a dictionary. Assumes nothing.
use mathlib.Core.Path.{◌≡◌, refl, ap, ◌∙◌, sym}
use Prim.Native.Nat.{ℕ}
use mathlib.Core.List.{List, [], ◌∷◌}
use mathlib.Core.Bool.{Bool, true, false}
use Rattle.std.specs.Prelude.{Option, Some, None, Result, Ok, Err, is_ok, IsErr}
use lib.ListN.{drop}
use Rattle.ascii.proofs.Clash.{clash}
use Rattle.ascii.specs.Bytes.{pick}
use Rattle.ascii.specs.Texts.{same_bytes, part_in}
use Rattle.dictionaries.specs.Dictionaries.{Value, Member, Plain, dictionary, members}
use Rattle.dictionaries.specs.Lookup.{into, is_some, refused, latest, last_in, last_value_in, placed_at, answer_of, last_found, found_in, found_parameters_in, IsLast}
use Rattle.dictionaries.specs.Members.{with_first, fold_members, next_at}
use Rattle.dictionaries.specs.Steps.{newer_of, newest, answered}
use Rattle.dictionaries.specs.declared.MemberValue.{MemberValue}
use Rattle.dictionaries.specs.declared.MemberAt.{MemberAt}
use Rattle.dictionaries.specs.declared.NotADictionary.{NotADictionary}
use Rattle.dictionaries.proofs.Places.{found-last, found-parameters}
use Rattle.dictionaries.proofs.NextMembers.{Stepped, step-member, step_end, step-malformed, stepped-value, stepped-key}

-- there is one refusal
pub is-refused : {A : Type 0} (r : Result A NotADictionary) → IsErr r → r ≡ refused A
is-refused (Ok a) e = clash cc
is-refused (Err u) e = refl

-- a fold over members, the first of them first
pub fold-first : {A B : Type 0} (k : B → A → B) (b : B) (m : A) (d : Option (List A)) → fold_members k b (with_first m d) ≡ fold_members k (k b m) d
unfolding fold_members with_first into
fold-first k b m (Some ms) = refl
fold-first k b m None = refl

pub fold-none : {A B : Type 0} (k : B → A → B) (b : B) → fold_members k b (Some []) ≡ Some b
unfolding fold_members into
fold-none k b = refl

pub fold-malformed : {A B : Type 0} (k : B → A → B) (b : B) → fold_members k b None ≡ None
unfolding fold_members
fold-malformed k b = refl

-- the last member of a key, as the code has its value
unfoldable held : List ℕ → Option Member → Option MemberValue
held s (Some m) = Some (placed_at s m.placed)
held s None = None

answer-held : (s : List ℕ) (b : Option Member) → answer_of s (Some b) ≡ Ok (held s b)
unfolding answer_of held
answer-held s (Some m) = refl
answer-held s None = refl

-- the newest answer is the answer for the last member
module _ (s key : List ℕ) where
  newest-held : (b : Option Member) (m : Member) → held s (latest key b m) ≡ newest s key (held s b) m
  unfolding latest newest
  newest-held b m = go (same_bytes m.key key)
    where
      go : (t : Bool) → held s (pick t (Some m) b) ≡ pick t (Some (placed_at s m.placed)) (held s b)
      go = unfold pick held in (elim [ true ↦ refl | false ↦ refl ])

  newest-all : (ms : List Member) (b : Option Member) → held s (into (latest key) b ms) ≡ into (newest s key) (held s b) ms
  unfolding into
  newest-all [] b = refl
  newest-all (m ∷ ms) b = newest-all ms (latest key b m) ∙ ap (λ (z : Option MemberValue). into (newest s key) z ms) (newest-held b m)

  answer-fold : (d : Option (List Member)) → answered (fold_members (newest s key) None d) ≡ answer_of s (last_in key d)
  unfolding answered fold_members last_in
  answer-fold (Some ms) = sym (answer-held s (into (latest key) None ms) ∙ ap Ok (newest-all ms None ∙ (unfold held in refl)))
  answer-fold None = unfold answer_of in refl

  newer-newest : (b : Option MemberValue) (m : Member) (k : List ℕ) (v : MemberValue) → k ≡ m.key → v ≡ placed_at s m.placed → pick (same_bytes k key) (Some v) b ≡ newest s key b m
  unfolding newest
  newer-newest b m k v e f = rw (e, f)

  -- the newest so far, and then the members from a cursor on, give the last of all
  abbrev pub SoFar : Option MemberValue → ℕ → Type 0
  SoFar best c = answered (fold_members (newest s key) best (dictionary (drop c s))) ≡ last_found s key

  pub look-start : SoFar None 0
  look-start = answer-fold (dictionary s)

  module _ (best : Option MemberValue) (c : ℕ) (so_far : SoFar best c) (r : Result (Option MemberAt) NotADictionary) (is : r ≡ next_at s c) where
    look-member : (f : MemberAt) (b : Option MemberValue) → r ≡ Ok (Some f) → b ≡ newer_of s f key best → SoFar b f.next
    look-member f b e h =
        let y : Stepped s c f = step-member s c f (sym is ∙ e) in
        let n : newer_of s f key best ≡ newest s key best y.member = newer-newest best y.member (part_in s f.key) f.value (stepped-key s c f y) (stepped-value s c f y) in
        rw (h, n) (ap answered (sym (fold-first (newest s key) best y.member (dictionary (drop f.next s)))) ∙ (rw y.all at so_far))

    -- a member's value replaces the newest so far exactly if its key is the one asked for
    module _ (f : MemberAt) (part : List ℕ) (cut : part ≡ part_in s f.key) (t : Bool) (told : t ≡ same_bytes part key) where
      pub look-hit : r ≡ Ok (Some f) → t ≡ true → SoFar (Some f.value) f.next
      look-hit e u = look-member f (Some f.value) e (unfold pick in (rw (← cut, ← told, u)))

      pub look-miss : r ≡ Ok (Some f) → t ≡ false → SoFar best f.next
      look-miss e u = look-member f best e (unfold pick in (rw (← cut, ← told, u)))

    pub look-end : r ≡ Ok None → Ok best ≡ last_found s key
    look-end e = sym (ap answered (fold-none (newest s key) best) ∙ (unfold answered in refl)) ∙ (rw (step_end s c (sym is ∙ e)) at so_far)

    pub look-malformed : (u : NotADictionary) → r ≡ Err u → Err u ≡ last_found s key
    look-malformed u e = sym (ap answered (fold-malformed (newest s key) best) ∙ (unfold answered in refl)) ∙ (rw (step-malformed s c (sym is ∙ e)) at so_far)

  -- an answer for the last member says the last value of the key and its parameters
  pub last-is : (r : Result (Option MemberValue) NotADictionary) → r ≡ last_found s key → IsLast s key r
  last-is r e = record { says = ap (found_in s) e ∙ found-last s key; parameters = ap (found_parameters_in s) e ∙ found-parameters s key; is = e }

pub ruleset looks = (look-start, look-hit, look-miss)

-- any key tells whether the text is a dictionary
last_some : (key : List ℕ) (d : Option (List Plain)) (v : Option Value) → Some v ≡ last_value_in key d → true ≡ is_some d
unfolding last_value_in is_some
last_some key (Some ms) v e = refl
last_some key None v e = clash cc

last_none : (key : List ℕ) (d : Option (List Plain)) → None ≡ last_value_in key d → false ≡ is_some d
unfolding last_value_in is_some
last_none key (Some ms) e = clash cc
last_none key None e = refl

pub whether : (s key : List ℕ) (r : Result (Option MemberValue) NotADictionary) → found_in s r ≡ last_value_in key (members s) → is_ok r ≡ is_some (members s)
unfolding found_in
whether s key (Ok (Some v)) e = last_some key (members s) _ e
whether s key (Ok None) e = last_some key (members s) _ e
whether s key (Err u) e = last_none key (members s) e
