-- What a member says stands at its places. Assumes nothing.
use mathlib.Core.Path.{◌≡◌, refl, ap, ◌∙◌}
use Prim.Native.Nat.{ℕ, zero, suc, ◌-◌}
use mathlib.Core.List.{List, [], ◌∷◌, ◌++◌}
use mathlib.Core.Bool.{Bool, true, false}
use Rattle.std.specs.Prelude.{Option, Some, None, Result, Ok, Err}
use native.Mathlib.Omega.{arith}
use lib.ListN.{length, drop}
use lib.Dec.{eqb}
use Rattle.ascii.proofs.Clash.{clash}
use Rattle.ascii.specs.Bytes.{pick, is_space, is_blank}
use Rattle.ascii.specs.Texts.{same_bytes}
use Rattle.ascii.specs.Reading.{Parsed, Step, head_of, is_empty, next, skip, past, after, mapped, going, adding, on_step, turns}
use Rattle.ascii.specs.Reading.Parsed.{parsed, malformed}
use Rattle.ascii.specs.Reading.Step.{more, done, fail}
use Rattle.ascii.specs.Places.{rest_of}
use Rattle.ascii.proofs.Suffixes.{Suffix, StepEnds, suffix_trans, suffix-past, suffix-drop, suffix-place, ends-turns}
use Rattle.items.specs.Items.{Item, Parameter, key_of, bare_of, params_of}
use Rattle.items.specs.Items.Item.{other}
use Rattle.items.specs.Found.{item_range, item_in}
use Rattle.items.proofs.Ranges.{bare-range, other-range}
use Rattle.items.proofs.Suffixes.{key-ends, bare_ends, params-ends}
use Rattle.dictionaries.specs.Dictionaries.{Value, Placed, Member, inner_turn, inner_of, closed_of, list_of, lone_of, bare_key, value_of, assigned_of, member_of, parted_of, dict_turn, read_all, data_of, dictionary, plains, plainly, members}
use Rattle.dictionaries.specs.Dictionaries.Value.{one, many}
use Rattle.dictionaries.specs.Lookup.{into, latest, last_in, later, last_value_in, parameters_of, last_parameters_in, range_at, placed_at, answer_of, last_found, items_from, range_in, value_in, parameters_in, found_in, found_parameters_in}
use Rattle.dictionaries.specs.declared.MemberValue.{MemberValue}
use Rattle.dictionaries.specs.declared.NotADictionary.{NotADictionary}
use Rattle.dictionaries.proofs.Suffixes.{inner-turn-ends, dict-turn-ends}
use Rattle.dictionaries.proofs.InnerLists.{walk-turns}

-- a value is what stands where its member says
abbrev Stands : List ℕ → Value → ℕ → Type 0
Stands s (one x) k = item_in s (item_range (length s - k) x) ≡ x
Stands s (many xs) k = items_from s (length s - k) ≡ xs

-- and its parameters are those that stand there
abbrev pub Closes : List ℕ → Placed → Type 0
Closes s p = params_of (drop (length s - p.params_from) s) ≡ parsed p.parameters (drop (length s - p.params_to) s)

abbrev pub Says : List ℕ → Placed → Type 0
Says s p = (value_in s (placed_at s p) ≡ p.value) × Closes s p

says : (s : List ℕ) (p : Placed) → Stands s p.value p.start → Closes s p → Says s p
unfolding placed_at
says s p h c = (go p.value h, c)
  where
    go : (v : Value) → Stands s v p.start → range_in s (range_at (length s - p.start) v) ≡ v
    go = unfold range_in range_at in (elim [ one x ↦ λ e. ap one e | many xs ↦ λ e. ap many e ])

-- what is read from an end of a text says what stands there
record Good (s : List ℕ) (g : Parsed Placed) : Type 0 where
  good : (p : Placed) (n : List ℕ) → g ≡ parsed p n → Says s p

module _ (s : List ℕ) where
  good-malformed : Good s malformed
  good-malformed = record { good = λ p n e. clash cc }

  good-pick : (b : Bool) (x y : Parsed Placed) → Good s x → Good s y → Good s (pick b x y)
  unfolding pick
  good-pick true x y h k = h
  good-pick false x y h k = k

  closed-good : (v : Value) (l m : List ℕ) → Suffix m s → Stands s v (length l) → Good s (closed_of v l m)
  unfolding closed_of
  closed-good v l m k h = go (params_of m) refl
    where
      closes : (ps : List Parameter) (n : List ℕ) → params_of m ≡ parsed ps n → params_of (drop (length s - length m) s) ≡ parsed ps (drop (length s - length n) s)
      closes ps n e = rw (suffix-place k, suffix-place (suffix_trans k ((params-ends m).ends ps n e))) e

      go : (g : Parsed (List Parameter)) → params_of m ≡ g → Good s (after g (λ ps n. parsed (record { value = v; parameters = ps; start = length l; params_from = length m; params_to = length n }) n))
      go = unfold after in (elim [ parsed ps n ↦ λ a. record { good = λ p o e. let w : record { value = v; parameters = ps; start = length l; params_from = length m; params_to = length n } ≡ p = cc in rw (← w) (says s (record { value = v; parameters = ps; start = length l; params_from = length m; params_to = length n }) h (closes ps n a)) } | malformed ↦ λ a. good-malformed ])

  lone-good : (l : List ℕ) → Suffix l s → Good s (lone_of l)
  unfolding lone_of
  lone-good l h = go (bare_of l) refl
    where
      go : (g : Parsed Item) → bare_of l ≡ g → Good s (after g (λ x m. closed_of (one x) l m))
      go = unfold after in (elim [ parsed x m ↦ λ e. closed-good (one x) l m (suffix_trans h ((bare_ends l).ends x m e)) (bare-range s (length s - length l) x m (omega arith) (ap bare_of (suffix-place h) ∙ e)) | malformed ↦ λ e. good-malformed ])

  list-good : (l : List ℕ) → Suffix l s → Good s (list_of l)
  unfolding list_of inner_of
  list-good l h = go (turns inner_turn (suc (length l)) l) refl
    where
      go : (g : Parsed (List Item)) → turns inner_turn (suc (length l)) l ≡ g → Good s (after g (λ xs m. closed_of (many xs) l m))
      go = unfold after in (elim [ parsed xs m ↦ λ e. closed-good (many xs) l m (suffix_trans h ((ends-turns inner_turn inner-turn-ends (suc (length l)) l).ends xs m e)) (rw (suffix-place h) (walk-turns (suc (length l)) l xs m e)) | malformed ↦ λ e. good-malformed ])

  key-good : (l : List ℕ) → Suffix l s → Good s (bare_key l)
  unfolding bare_key
  key-good l h = closed-good (one other) l l h (other-range s (length s - length l))

  assigned-good : (l : List ℕ) → Suffix l s → Good s (assigned_of l)
  unfolding assigned_of value_of next
  assigned-good l h =
      let k : Suffix (drop 1 l) s = suffix_trans h (suffix-drop 1 l) in
      good-pick (eqb (head_of l) 61) _ _ (good-pick (eqb (head_of (drop 1 l)) 40) _ _ (list-good (drop 1 (drop 1 l)) (suffix_trans k (suffix-drop 1 (drop 1 l)))) (lone-good (drop 1 l) k)) (key-good l h)

  pub member-says : (l : List ℕ) → Suffix l s → (m : Member) (n : List ℕ) → member_of l ≡ parsed m n → Says s m.placed
  unfolding member_of
  member-says l h m n e = go (key_of l) refl e
    where
      named : (k : List ℕ) (g : Parsed Placed) → Good s g → mapped (λ v. record { key = k; from = length l; placed = v }) g ≡ parsed m n → Says s m.placed
      named = unfold mapped in (λ k. elim [ parsed p o ↦ λ b u. let w : p ≡ m.placed = cc in rw (← w) (b.good p o refl) | malformed ↦ λ b u. clash cc ])

      go : (g : Parsed (List ℕ)) → key_of l ≡ g → after g (λ k o. mapped (λ v. record { key = k; from = length l; placed = v }) (assigned_of o)) ≡ parsed m n → Says s m.placed
      go = unfold after in (elim [ parsed k o ↦ λ a u. named k (assigned_of o) (assigned-good o (suffix_trans h ((key-ends l).ends k o a))) u | malformed ↦ λ a u. clash cc ])

-- the parameters of an answer are read from the start of their range up to its end
abbrev pub ParametersEnd : List ℕ → Result (Option MemberValue) NotADictionary → Type 0
ParametersEnd s (Ok (Some v)) = rest_of (params_of (drop v.params.from s)) ≡ Some (drop v.params.to s)
ParametersEnd s (Ok None) = Unit {0}
ParametersEnd s (Err e) = Unit {0}

-- all members of a list say what stands there
abbrev pub AllSay : List ℕ → List Member → Type 0
AllSay s [] = Unit {0}
AllSay s (m ∷ ms) = Says s m.placed × AllSay s ms

module _ (s : List ℕ) where
  all_append : (xs ys : List Member) → AllSay s xs → AllSay s ys → AllSay s (xs ++ ys)
  all_append [] ys a b = b
  all_append (x ∷ xs) ys a b = (a.0, all_append xs ys a.1 b)

  -- what a turn adds
  abbrev StepSays : Step Member → Type 0
  StepSays (more xs m) = AllSay s xs
  StepSays (done xs m) = AllSay s xs
  StepSays fail = Unit {0}

  turn-says : (l : List ℕ) → Suffix l s → StepSays (dict_turn l)
  unfolding dict_turn
  turn-says l h = go (member_of l) (λ m n e. member-says s l h m n e)
    where
      parted : (x : Member) (a b c : Bool) (m o : List ℕ) → Says s x.placed → StepSays (pick a (done (x ∷ []) m) (pick b (pick c fail (more (x ∷ []) o)) fail))
      parted = unfold pick in (λ x. elim [ true ↦ λ b c m o e. (e, tt) | false ↦ elim [ true ↦ elim [ true ↦ λ m o e. tt | false ↦ λ m o e. (e, tt) ] | false ↦ λ c m o e. tt ] ])

      go : (g : Parsed Member) → ((m : Member) (n : List ℕ) → g ≡ parsed m n → Says s m.placed) → StepSays (going g (λ x m. parted_of x m))
      go = unfold going parted_of skip next in (elim [ parsed x m ↦ λ e. parted x (is_empty (past is_blank m)) (eqb (head_of (past is_blank m)) 44) (is_empty (past is_blank (drop 1 (past is_blank m)))) (past is_blank m) (past is_blank (drop 1 (past is_blank m))) (e x m refl) | malformed ↦ λ e. tt ])

  abbrev ParsedSays : Parsed (List Member) → Type 0
  ParsedSays (parsed ms l) = AllSay s ms
  ParsedSays malformed = Unit {0}

  turns-say : (n : ℕ) (l : List ℕ) → Suffix l s → ParsedSays (turns dict_turn n l)
  unfolding turns
  turns-say zero l h = tt
  turns-say (suc n) l h = go (dict_turn l) (turn-says l h) (dict-turn-ends l) (λ m k. turns-say n m k)
    where
      add : (a : List Member) (g : Parsed (List Member)) → AllSay s a → ParsedSays g → ParsedSays (adding a g)
      add = unfold adding in (λ a. elim [ parsed b m ↦ λ u v. all_append a b u v | malformed ↦ λ u v. tt ])

      go : (st : Step Member) → StepSays st → StepEnds l st → ((m : List ℕ) → Suffix m s → ParsedSays (turns dict_turn n m)) → ParsedSays (on_step st (λ m. turns dict_turn n m))
      go = unfold on_step in (elim [ more a m ↦ λ u e r. add a (turns dict_turn n m) u (r m (suffix_trans h (e.goes_on a m refl))) | done a m ↦ λ u e r. u | fail ↦ λ u e r. tt ])

  read-says : ParsedSays (read_all s)
  unfolding read_all skip
  read-says = go (is_empty (past is_space s))
    where
      go : (b : Bool) → ParsedSays (pick b (parsed [] (past is_space s)) (turns dict_turn (suc (length (past is_space s))) (past is_space s)))
      go = unfold pick in (elim [ true ↦ tt | false ↦ turns-say (suc (length (past is_space s))) (past is_space s) (suffix-past is_space s) ])

  -- the last member of a key
  abbrev LastSays : Option Member → Type 0
  LastSays (Some m) = Says s m.placed
  LastSays None = Unit {0}

  abbrev value_held : Option Member → Option Value
  value_held (Some m) = Some m.placed.value
  value_held None = None

  answer-value : (o : Option Member) → LastSays o → found_in s (answer_of s (Some o)) ≡ Some (value_held o)
  unfolding answer_of found_in
  answer-value (Some m) h = ap (λ (z : Value). Some (Some z)) h.0
  answer-value None h = refl

  answer-parameters : (o : Option Member) → LastSays o → found_parameters_in s (answer_of s (Some o)) ≡ Some (parameters_of o)
  unfolding answer_of placed_at parameters_of found_parameters_in parameters_in data_of
  answer-parameters (Some m) h = rw h.1
  answer-parameters None h = refl

  answer-ends : (o : Option Member) → LastSays o → ParametersEnd s (answer_of s (Some o))
  unfolding answer_of placed_at rest_of
  answer-ends (Some m) h = rw h.1
  answer-ends None h = tt

  module _ (key : List ℕ) where
    last_says : (ms : List Member) → AllSay s ms → (b : Option Member) → LastSays b → LastSays (into (latest key) b ms)
    unfolding into latest
    last_says [] a b h = h
    last_says (m ∷ ms) a b h = last_says ms a.1 (latest key b m) (go (same_bytes m.key key))
      where
        go : (t : Bool) → LastSays (pick t (Some m) b)
        go = unfold pick in (elim [ true ↦ a.0 | false ↦ h ])

    last-value : (ms : List Member) (b : Option Member) → value_held (into (latest key) b ms) ≡ into (later key) (value_held b) (plains ms)
    unfolding into plains latest later
    last-value [] b = refl
    last-value (m ∷ ms) b = last-value ms (latest key b m) ∙ ap (λ (z : Option Value). into (later key) z (plains ms)) (go (same_bytes m.key key))
      where
        go : (t : Bool) → value_held (pick t (Some m) b) ≡ pick t (Some m.placed.value) (value_held b)
        go = unfold pick in (elim [ true ↦ refl | false ↦ refl ])

    pub found-last : found_in s (last_found s key) ≡ last_value_in key (members s)
    found-last = go (read_all s) read-says
      where
        go : (g : Parsed (List Member)) → ParsedSays g → found_in s (answer_of s (last_in key (data_of g))) ≡ last_value_in key (plainly (data_of g))
        go = unfold data_of last_in plainly last_value_in in (elim [ parsed ms l ↦ λ a. answer-value (into (latest key) None ms) (last_says ms a None tt) ∙ ap Some (last-value ms None) | malformed ↦ λ a. (unfold found_in answer_of in refl) ])

    pub found-parameters : found_parameters_in s (last_found s key) ≡ last_parameters_in key (dictionary s)
    found-parameters = go (read_all s) read-says
      where
        go : (g : Parsed (List Member)) → ParsedSays g → found_parameters_in s (answer_of s (last_in key (data_of g))) ≡ last_parameters_in key (data_of g)
        go = unfold data_of last_in last_parameters_in in (elim [ parsed ms l ↦ λ a. answer-parameters (into (latest key) None ms) (last_says ms a None tt) | malformed ↦ λ a. (unfold found_parameters_in answer_of in refl) ])

    pub found-ends : ParametersEnd s (last_found s key)
    found-ends = go (read_all s) read-says
      where
        go : (g : Parsed (List Member)) → ParsedSays g → ParametersEnd s (answer_of s (last_in key (data_of g)))
        go = unfold data_of last_in in (elim [ parsed ms l ↦ λ a. answer-ends (into (latest key) None ms) (last_says ms a None tt) | malformed ↦ λ a. (unfold answer_of in tt) ])
