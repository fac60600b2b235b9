-- Going from member to member by a cursor gives the dictionary. Assumes nothing.
use mathlib.Core.Path.{◌≡◌, refl, ap, ◌∙◌, sym}
use Prim.Native.Nat.{ℕ, zero, suc, ◌-◌, ◌≤◌, ◌<◌}
use mathlib.Core.List.{List, [], ◌∷◌, ◌++◌}
use mathlib.Core.Bool.{Bool, true, false, ◌||◌}
use Rattle.std.specs.Prelude.{Option, Some, None, Result, Ok, Err}
use native.Mathlib.Omega.{arith}
use lib.ListN.{length, drop}
use lib.Dec.{eqb}
use Rattle.ascii.proofs.Clash.{clash}
use Rattle.ascii.specs.Bytes.{pick, is_space, is_blank}
use Rattle.ascii.specs.Texts.{part_in}
use Rattle.ascii.specs.declared.TextRange.{TextRange}
use Rattle.ascii.specs.Reading.{Parsed, Step, head_of, is_empty, past, skip, next, after, mapped, going, adding, on_step, turns, turns_of}
use Rattle.ascii.specs.Reading.Parsed.{parsed, malformed}
use Rattle.ascii.specs.Reading.Step.{more, done, fail}
use Rattle.ascii.proofs.Suffixes.{Suffix, suffix_trans, suffix-past, suffix-drop, suffix-length, suffix-place}
use Rattle.items.specs.Items.{key_of}
use Rattle.items.proofs.Ranges.{Took, key-took, part-took}
use Rattle.dictionaries.specs.Dictionaries.{Placed, Member, Plain, assigned_of, member_of, parted_of, parted_by, dict_turn, read_all, data_of, dictionary, plain, plains, plainly}
use Rattle.dictionaries.specs.Lookup.{placed_at, refused, value_in}
use Rattle.dictionaries.specs.Members.{members_from, with_first, member_in, next_in, member_at, parted_at, read_at, next_at}
use Rattle.dictionaries.specs.declared.MemberAt.{MemberAt}
use Rattle.dictionaries.specs.declared.NotADictionary.{NotADictionary}
use Rattle.dictionaries.proofs.Suffixes.{member-ends, parted-ends}
use Rattle.dictionaries.proofs.Places.{Says, member-says}
use Rattle.dictionaries.proofs.Members.{at_next, at_key, at_value}

-- past a run of blanks no space follows
past-blanks : (l : List ℕ) → past is_space (past is_blank l) ≡ past is_blank l
unfolding past pick
past-blanks [] = refl
past-blanks (x ∷ xs) = go (eqb x 32) (eqb x 9) refl (past-blanks xs)
  where
    go : (a b : Bool) → eqb x 32 ≡ a → past is_space (past is_blank xs) ≡ past is_blank xs → past is_space (pick (a || b) (past is_blank xs) (x ∷ xs)) ≡ pick (a || b) (past is_blank xs) (x ∷ xs)
    go = unfold pick past in (elim [ true ↦ λ b e h. h | false ↦ elim [ true ↦ λ e h. h | false ↦ λ e h. rw e ] ])

-- what is left where another member must follow: it is shorter, not empty, and no space stands first
record Follows (l o : List ℕ) : Type 0 where
  shorter : length o < length l
  full : is_empty o ≡ false
  starts : past is_space o ≡ o

-- what stands past a member, whatever the member is
unfoldable with_member : {A : Type 0} → A → Step (Unit {0}) → Step A
with_member x (more u l) = more (x ∷ []) l
with_member x (done u l) = done (x ∷ []) l
with_member x fail = fail

module _ (l : List ℕ) where
  parted-with : {A : Type 0} (x : A) → parted_of x l ≡ with_member x (parted_by l)
  unfolding parted_of skip next
  parted-with x = go (is_empty (past is_blank l)) (eqb (head_of (past is_blank l)) 44) (is_empty (past is_blank (drop 1 (past is_blank l)))) (past is_blank l) (past is_blank (drop 1 (past is_blank l)))
    where
      go : (a b c : Bool) (m o : List ℕ) → pick a (done (x ∷ []) m) (pick b (pick c fail (more (x ∷ []) o)) fail) ≡ with_member x (pick a (done (tt ∷ []) m) (pick b (pick c fail (more (tt ∷ []) o)) fail))
      go = unfold with_member pick in (elim [ true ↦ λ b c m o. refl | false ↦ elim [ true ↦ elim [ true ↦ λ m o. refl | false ↦ λ m o. refl ] | false ↦ λ c m o. refl ] ])

  parted-more : (u : List (Unit {0})) (o : List ℕ) → parted_by l ≡ more u o → Follows l o
  unfolding parted_of skip next
  parted-more u o e = go (past is_blank l) (suffix-length (suffix-past is_blank l)) (is_empty (past is_blank l)) (eqb (head_of (past is_blank l)) 44) refl (is_empty (past is_blank (drop 1 (past is_blank l)))) refl e
    where
      comma : (m : List ℕ) → eqb (head_of m) 44 ≡ true → length (past is_blank (drop 1 m)) < length m
      comma = unfold head_of in (elim [ [] ↦ λ f. clash cc | x ∷ xs ↦ λ f. omega (arith, suffix-length (suffix-past is_blank xs)) ])

      go : (m : List ℕ) → length m ≤ length l → (a b : Bool) → eqb (head_of m) 44 ≡ b → (c : Bool) → is_empty (past is_blank (drop 1 m)) ≡ c → pick a (done (tt ∷ []) m) (pick b (pick c fail (more (tt ∷ []) (past is_blank (drop 1 m)))) fail) ≡ more u o → Follows l o
      go = unfold pick in (λ m h. elim [
        | true ↦ λ b f c g w. clash cc
        | false ↦ elim [
          | true ↦ λ f. elim [
            | true ↦ λ g w. clash cc
            | false ↦ λ g w. let d : past is_blank (drop 1 m) ≡ o = cc in rw (← d) (record { shorter = omega (arith, comma m f); full = g; starts = past-blanks (drop 1 m) })
          ]
          | false ↦ λ f c g w. clash cc
        ]
      ])

  parted-done : (u : List (Unit {0})) (o : List ℕ) → parted_by l ≡ done u o → o ≡ []
  unfolding parted_of skip next
  parted-done u o e = go (past is_blank l) (is_empty (past is_blank l)) refl (eqb (head_of (past is_blank l)) 44) (is_empty (past is_blank (drop 1 (past is_blank l)))) e
    where
      no_bytes : (m : List ℕ) → is_empty m ≡ true → m ≡ []
      no_bytes = unfold is_empty in (elim [ [] ↦ λ f. refl | x ∷ xs ↦ λ f. clash cc ])

      go : (m : List ℕ) (a : Bool) → is_empty m ≡ a → (b c : Bool) → pick a (done (tt ∷ []) m) (pick b (pick c fail (more (tt ∷ []) (past is_blank (drop 1 m)))) fail) ≡ done u o → o ≡ []
      go = unfold pick in (λ m. elim [
        | true ↦ λ f b c w. let d : m ≡ o = cc in sym d ∙ no_bytes m f
        | false ↦ λ f. elim [ true ↦ elim [ true ↦ λ w. clash cc | false ↦ λ w. clash cc ] | false ↦ λ c w. clash cc ]
      ])

-- a turn that another follows takes at least a byte
dict-shrinks : (l a : List ℕ) (xs : List Member) → dict_turn l ≡ more xs a → length a < length l
unfolding dict_turn
dict-shrinks l a xs e = go (member_of l) refl e
  where
    parted : (x : Member) (n : List ℕ) (st : Step (Unit {0})) → parted_by n ≡ st → with_member x st ≡ more xs a → length a < length n
    parted = unfold with_member in (λ x n. elim [ more u o ↦ λ f w. let d : o ≡ a = cc in rw (← d) (parted-more n u o f).shorter | done u o ↦ λ f w. clash cc | fail ↦ λ f w. clash cc ])

    go : (g : Parsed Member) → member_of l ≡ g → going g (λ x m. parted_of x m) ≡ more xs a → length a < length l
    go = unfold going in (elim [
      | parsed x n ↦ λ f w. let h : length a < length n = parted x n (parted_by n) refl (sym (parted-with n x) ∙ w) in omega (arith, suffix-length ((member-ends l).ends x n f))
      | malformed ↦ λ f w. clash cc
    ])

-- turns enough are enough
dict-enough : (n k : ℕ) (l : List ℕ) → length l < n → length l < k → turns dict_turn n l ≡ turns dict_turn k l
unfolding turns
dict-enough zero k l h g = absurd (omega arith)
dict-enough (suc n) zero l h g = absurd (omega arith)
dict-enough (suc n) (suc k) l h g = go (dict_turn l) refl (λ m u. dict-enough n k m (omega arith) (omega arith))
  where
    go : (st : Step Member) → dict_turn l ≡ st → ((m : List ℕ) → length m < length l → turns dict_turn n m ≡ turns dict_turn k m) → on_step st (λ m. turns dict_turn n m) ≡ on_step st (λ m. turns dict_turn k m)
    go = unfold on_step in (elim [ more xs m ↦ λ e r. ap (adding xs) (r m (dict-shrinks l m xs e)) | done xs m ↦ λ e r. refl | fail ↦ λ e r. refl ])

-- the members of a text that begins with one
data-first : {A : Type 0} (x : A) (g : Parsed (List A)) → data_of (adding (x ∷ []) g) ≡ with_first x (data_of g)
unfolding data_of adding with_first
data-first x (parsed ys l) = refl
data-first x malformed = refl

read-full : (l : List ℕ) → is_empty (past is_space l) ≡ false → read_all l ≡ turns_of dict_turn (past is_space l)
unfolding read_all skip pick
read-full l e = rw e

read-empty : (l : List ℕ) → is_empty (past is_space l) ≡ true → dictionary l ≡ Some []
unfolding read_all skip pick data_of
read-empty l e = rw e

no-members : dictionary [] ≡ Some []
no-members = read-empty [] (unfold past is_empty in refl)

-- one step at a cursor: the member that is read there, and the dictionary that is left
pub record Stepped (s : List ℕ) (c : ℕ) (f : MemberAt) : Type 0 where
  pub member : Member
  pub left : List ℕ
  pub reads : member_of (past is_space (drop c s)) ≡ parsed member left
  pub is : f ≡ member_at s member f.next
  pub fewer : length s - f.next ≤ length left
  pub all : dictionary (drop c s) ≡ with_first member (dictionary (drop f.next s))

module _ (s : List ℕ) (c : ℕ) where
  start : List ℕ
  start = past is_space (drop c s)

  start-in : Suffix start s
  unfolding start
  start-in = suffix_trans (suffix-drop c s) (suffix-past is_space (drop c s))

  module _ (full : is_empty start ≡ false) (m : Member) (n : List ℕ) (reads : member_of start ≡ parsed m n) where
    ends-in : (o : List ℕ) → Suffix o n → Suffix o s
    ends-in o h = suffix_trans start-in (suffix_trans ((member-ends start).ends m n reads) h)

    turn_is : dict_turn start ≡ with_member m (parted_by n)
    unfolding dict_turn going
    turn_is = rw reads (parted-with n m)

    read_is : read_all (drop c s) ≡ on_step (with_member m (parted_by n)) (λ z. turns dict_turn (length start) z)
    unfolding start turns
    read_is = read-full (drop c s) full ∙ ap (λ (z : Step Member). on_step z (λ y. turns dict_turn (length start) y)) turn_is

    stepped : (f : MemberAt) (o : List ℕ) → Suffix o n → member_at s m (length s - length o) ≡ f → dictionary (drop c s) ≡ with_first m (dictionary o) → Stepped s c f
    unfolding start
    stepped f o h e d =
        let p : length s - length o ≡ f.next = sym (at_next s m (length s - length o)) ∙ ap (λ (z : MemberAt). z.next) e in
        record {
          member = m;
          left = n;
          reads = reads;
          is = sym e ∙ ap (member_at s m) p;
          fewer = omega (arith, suffix-length h);
          all = rw (← p, suffix-place (ends-in o h)) d;
        }

    read_more : (u : List (Unit {0})) (o : List ℕ) → parted_by n ≡ more u o → dictionary (drop c s) ≡ with_first m (data_of (turns dict_turn (length start) o))
    unfolding with_member on_step
    read_more u o e = ap data_of (rw e at read_is) ∙ data-first m (turns dict_turn (length start) o)

    read-last : (u : List (Unit {0})) (o : List ℕ) → parted_by n ≡ done u o → dictionary (drop c s) ≡ with_first m (Some [])
    unfolding with_member on_step data_of with_first
    read-last u o e = ap data_of (rw e at read_is)

    read-fail : parted_by n ≡ fail → dictionary (drop c s) ≡ None
    unfolding with_member on_step data_of
    read-fail e = ap data_of (rw e at read_is)

    step-parted : (f : MemberAt) (st : Step (Unit {0})) → parted_by n ≡ st → parted_at s m st ≡ Ok (Some f) → Stepped s c f
    unfolding parted_at
    step-parted f (more u o) e w =
        let y : Follows n o = parted-more n u o e in
        let x : member_at s m (length s - length o) ≡ f = cc in
        let h : length o < length start = omega (arith, y.shorter, suffix-length ((member-ends start).ends m n reads)) in
        let d : read_all o ≡ turns_of dict_turn o = rw y.starts at (read-full o (rw y.starts y.full)) in
        stepped f o ((parted-ends tt n).goes_on u o e) x
        (read_more u o e ∙ ap (λ (z : Parsed (List Member)). with_first m (data_of z)) (dict-enough (length start) (suc (length o)) o h (omega arith) ∙ sym d))
    step-parted f (done u o) e w =
        let x : member_at s m (length s - length o) ≡ f = cc in
        let z : dictionary o ≡ Some [] = ap dictionary (parted-done n u o e) ∙ no-members in
        stepped f o ((parted-ends tt n).stops u o e) x (read-last u o e ∙ ap (with_first m) (sym z))
    step-parted f fail e w = clash cc

    fail-parted : (st : Step (Unit {0})) → parted_by n ≡ st → parted_at s m st ≡ refused (Option MemberAt) → dictionary (drop c s) ≡ None
    unfolding parted_at
    fail-parted (more u o) e w = clash cc
    fail-parted (done u o) e w = clash cc
    fail-parted fail e w = read-fail e

    end-parted : (st : Step (Unit {0})) → parted_at s m st ≡ Ok None → ⊥
    unfolding parted_at
    end-parted (more u o) w = clash cc
    end-parted (done u o) w = clash cc
    end-parted fail w = clash cc

  -- each answer, and the members from there on
  pub step-member : (f : MemberAt) → next_at s c ≡ Ok (Some f) → Stepped s c f
  unfolding next_at skip
  step-member f e = go (is_empty (past is_space (drop c s))) refl e
    where
      inside : is_empty (past is_space (drop c s)) ≡ false → (g : Parsed Member) → member_of (past is_space (drop c s)) ≡ g → read_at s g ≡ Ok (Some f) → Stepped s c f
      inside = unfold read_at start in (λ h. elim [ parsed m n ↦ λ r w. step-parted h m n r f (parted_by n) refl w | malformed ↦ λ r w. clash cc ])

      go : (b : Bool) → is_empty (past is_space (drop c s)) ≡ b → pick b (Ok None) (read_at s (member_of (past is_space (drop c s)))) ≡ Ok (Some f) → Stepped s c f
      go = unfold pick in (elim [ true ↦ λ h w. clash cc | false ↦ λ h w. inside h (member_of (past is_space (drop c s))) refl w ])

  pub step_end : next_at s c ≡ Ok None → dictionary (drop c s) ≡ Some []
  unfolding next_at skip
  step_end e = go (is_empty (past is_space (drop c s))) refl e
    where
      inside : is_empty (past is_space (drop c s)) ≡ false → (g : Parsed Member) → member_of (past is_space (drop c s)) ≡ g → read_at s g ≡ Ok None → ⊥
      inside = unfold read_at start in (λ h. elim [ parsed m n ↦ λ r w. end-parted h m n r (parted_by n) w | malformed ↦ λ r w. clash cc ])

      go : (b : Bool) → is_empty (past is_space (drop c s)) ≡ b → pick b (Ok None) (read_at s (member_of (past is_space (drop c s)))) ≡ Ok None → dictionary (drop c s) ≡ Some []
      go = unfold pick in (elim [ true ↦ λ h w. read-empty (drop c s) h | false ↦ λ h w. absurd (inside h (member_of (past is_space (drop c s))) refl w) ])

  pub step-malformed : next_at s c ≡ refused (Option MemberAt) → dictionary (drop c s) ≡ None
  unfolding next_at skip
  step-malformed e = go (is_empty (past is_space (drop c s))) refl e
    where
      unread : is_empty (past is_space (drop c s)) ≡ false → member_of (past is_space (drop c s)) ≡ malformed → dictionary (drop c s) ≡ None
      unread h r = ap data_of (read-full (drop c s) h) ∙ (unfold turns dict_turn going on_step data_of in (rw r))

      inside : is_empty (past is_space (drop c s)) ≡ false → (g : Parsed Member) → member_of (past is_space (drop c s)) ≡ g → read_at s g ≡ refused (Option MemberAt) → dictionary (drop c s) ≡ None
      inside = unfold read_at start in (λ h. elim [ parsed m n ↦ λ r w. fail-parted h m n r (parted_by n) refl w | malformed ↦ λ r w. unread h r ])

      go : (b : Bool) → is_empty (past is_space (drop c s)) ≡ b → pick b (Ok None) (read_at s (member_of (past is_space (drop c s)))) ≡ refused (Option MemberAt) → dictionary (drop c s) ≡ None
      go = unfold pick in (elim [ true ↦ λ h w. clash cc | false ↦ λ h w. inside h (member_of (past is_space (drop c s))) refl w ])

-- the key of a member that was read stood at the front
pub record Keyed (l : List ℕ) (m : Member) : Type 0 where
  pub rest : List ℕ
  pub is : l ≡ m.key ++ rest
  pub from : m.from ≡ length l

member-keyed : (l : List ℕ) (m : Member) (n : List ℕ) → member_of l ≡ parsed m n → Keyed l m
unfolding member_of
member-keyed l m n e = go (key_of l) (key-took l) e
  where
    named : (k o : List ℕ) → l ≡ k ++ o → (g : Parsed Placed) → mapped (λ v. record { key = k; from = length l; placed = v }) g ≡ parsed m n → Keyed l m
    named = unfold mapped in (λ k o t. elim [ parsed p q ↦ λ u. let w : record { key = k; from = length l; placed = p } ≡ m = cc in rw (← w) (record { rest = o; is = t; from = refl }) | malformed ↦ λ u. clash cc ])

    go : (g : Parsed (List ℕ)) → Took (λ k. k) l g → after g (λ k o. mapped (λ v. record { key = k; from = length l; placed = v }) (assigned_of o)) ≡ parsed m n → Keyed l m
    go = unfold after in (elim [ parsed k o ↦ λ t u. named k o t (assigned_of o) u | malformed ↦ λ t u. clash cc ])

-- so the answer says that member
module _ (s : List ℕ) (c : ℕ) (f : MemberAt) (h : Stepped s c f) where
  stepped-in : Suffix (past is_space (drop c s)) s
  stepped-in = suffix_trans (suffix-drop c s) (suffix-past is_space (drop c s))

  pub stepped-says : Says s h.member.placed
  stepped-says = member-says s (past is_space (drop c s)) stepped-in h.member h.left h.reads

  pub stepped-value : f.value ≡ placed_at s h.member.placed
  stepped-value = ap (λ (z : MemberAt). z.value) h.is ∙ at_value s h.member f.next

  pub stepped-key : part_in s f.key ≡ h.member.key
  stepped-key =
      let k : Keyed (past is_space (drop c s)) h.member = member-keyed _ h.member h.left h.reads in
      let p : drop (length s - h.member.from) s ≡ h.member.key ++ k.rest = ap (λ (z : ℕ). drop (length s - z) s) k.from ∙ (suffix-place stepped-in ∙ k.is) in
      ap (λ (z : MemberAt). part_in s z.key) h.is ∙ (ap (λ (z : TextRange). part_in s z) (at_key s h.member f.next) ∙ part-took s h.member.key k.rest (length s - h.member.from) (omega arith) p)

  pub stepped-plain : plain h.member ≡ member_in s f
  stepped-plain =
      let v : h.member.placed.value ≡ value_in s f.value = sym stepped-says.0 ∙ ap (value_in s) (sym stepped-value) in
      λ j. record { key = sym stepped-key j; value = v j }

-- an answer says the members from its cursor on
plain-first : (m : Member) (d : Option (List Member)) → plainly (with_first m d) ≡ with_first (plain m) (plainly d)
unfolding plainly plains with_first
plain-first m (Some ms) = refl
plain-first m None = refl

pub next-said : (s : List ℕ) (c : ℕ) (r : Result (Option MemberAt) NotADictionary) → r ≡ next_at s c → next_in s r ≡ members_from s c
unfolding next_in
next-said s c (Ok (Some f)) e =
    let h : Stepped s c f = step-member s c f (sym e) in
    sym (ap plainly h.all ∙ (plain-first h.member (dictionary (drop f.next s)) ∙ ap (λ (z : Plain). with_first z (members_from s f.next)) (stepped-plain s c f h)))
next-said s c (Ok None) e = sym (ap plainly (step_end s c (sym e)) ∙ (unfold plainly plains in refl))
next-said s c (Err u) e = sym (ap plainly (step-malformed s c (sym e)) ∙ (unfold plainly in refl))
