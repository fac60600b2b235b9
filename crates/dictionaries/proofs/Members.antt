-- A member and what stands past it, by their places. Assumes nothing.
use Rattle.std.specs.Prelude.{Some, None, Result, Ok}
use mathlib.Core.Path.{◌≡◌, refl, ap, ◌∙◌, sym}
use Prim.Native.Nat.{ℕ, ◌+◌, ◌-◌, ◌≤◌, ◌<◌}
use mathlib.Core.List.{List}
use Rattle.std.specs.Prelude.{Option}
use native.Mathlib.Omega.{arith}
use lib.ListN.{length, drop, length-drop, length-append}
use Rattle.ascii.proofs.Clash.{clash}
use Rattle.ascii.specs.Bytes.{pick, is_space}
use Rattle.ascii.specs.Reading.{Parsed, Step, past, skip, after, mapped}
use Rattle.ascii.specs.Reading.Parsed.{parsed, malformed}
use Rattle.ascii.specs.Reading.Step.{more, done, fail}
use Rattle.ascii.specs.Places.{rest_of, left_at, low, high}
use Rattle.ascii.proofs.Reading.{empty-yes, empty-no}
use Rattle.items.specs.Items.{key_of}
use Rattle.items.proofs.Ranges.{Took, key-took, place-left, left-at, left-none, left-parsed, left_not, none-parsed}
use Rattle.dictionaries.specs.Dictionaries.{Placed, Member, assigned_of, member_of, parted_by}
use Rattle.dictionaries.specs.Lookup.{placed_at, refused}
use Rattle.dictionaries.specs.Members.{member_at, parted_at, read_at, next_at, low_member, high_member}
use Rattle.dictionaries.specs.Steps.{value_end, value_found, member_end, member_found, parted_rest}
use Rattle.dictionaries.specs.declared.MemberValue.{MemberValue}
use Rattle.dictionaries.specs.declared.MemberAt.{MemberAt}
use Rattle.dictionaries.specs.declared.NotADictionary.{NotADictionary}

-- the place past a value, for `search` and for `omega`
module _ (r : Option MemberValue) (v : MemberValue) (at : r ≡ Some v) where
  pub value-left : (s : List ℕ) (w : Option (List ℕ)) → left_at s (value_end r) ≡ w → left_at s (Some v.params.to) ≡ w
  value-left s w l = rw at at l

  pub value_low : low (value_end r) ≡ v.params.to
  value_low = rw at

  pub value-high : high (value_end r) ≡ v.params.to
  value-high = rw at

pub value_none : (s : List ℕ) (r : Option MemberValue) (w : Option (List ℕ)) → r ≡ None → left_at s (value_end r) ≡ w → left_at s None ≡ w
value_none s r w e l = rw e at l

-- a member: its key, and the value past it
module _ (s : List ℕ) (i : ℕ) (r : Option ℕ) (is : left_at s r ≡ rest_of (key_of (drop i s))) where
  pub member-no-key : r ≡ None → None ≡ member_found s (member_of (drop i s))
  unfolding member_of
  member-no-key e = go (key_of (drop i s)) (left-none s r _ e is)
    where
      go : (g : Parsed (List ℕ)) → left_at s None ≡ rest_of g → None ≡ member_found s (after g (λ k m. mapped (λ p. record { key = k; from = length (drop i s); placed = p }) (assigned_of m)))
      go = unfold after member_found in (elim [ parsed k m ↦ λ u. absurd (none-parsed s m k u) | malformed ↦ λ u. refl ])

  module _ (q : ℕ) (at : r ≡ Some q) (w : Option MemberValue) (wl : left_at s (value_end w) ≡ rest_of (assigned_of (drop q s))) where
    pub member-unread : w ≡ None → None ≡ member_found s (member_of (drop i s))
    unfolding member_of
    member-unread e = go (key_of (drop i s)) (left-at s r q _ at is)
      where
        none : (k : List ℕ) (g : Parsed Placed) → left_at s None ≡ rest_of g → None ≡ member_found s (mapped (λ p. record { key = k; from = length (drop i s); placed = p }) g)
        none = unfold mapped member_found in (λ k. elim [ parsed p o ↦ λ u. absurd (none-parsed s o p u) | malformed ↦ λ u. refl ])

        go : (g : Parsed (List ℕ)) → left_at s (Some q) ≡ rest_of g → None ≡ member_found s (after g (λ k m. mapped (λ p. record { key = k; from = length (drop i s); placed = p }) (assigned_of m)))
        go = unfold after in (elim [
          | parsed k m ↦ λ u. none k (assigned_of m) (rw (left-parsed s m q k u) at (value_none s w _ e wl))
          | malformed ↦ λ u. absurd (left_not (List ℕ) s q u)
        ])

    pub member-found : i ≤ length s → high r ≤ length s → w ≡ value_found s (assigned_of (drop q s)) → high (value_end w) ≤ length s → (v : MemberValue) → w ≡ Some v → Some (record { key = record { from = i; to = q }; value = v; next = v.params.to }) ≡ member_found s (member_of (drop i s))
    unfolding member_of
    member-found h hr wi hw v e = go (key_of (drop i s)) (left-at s r q _ at is) (key-took (drop i s))
      where
        valued : (k : List ℕ) → q ≡ i + length k → (g : Parsed Placed) → Some v ≡ value_found s g → left_at s (Some v.params.to) ≡ rest_of g → Some (record { key = record { from = i; to = q }; value = v; next = v.params.to }) ≡ member_found s (mapped (λ p. record { key = k; from = length (drop i s); placed = p }) g)
        valued = unfold mapped member_found member_at value_found in (λ k y. elim [
          | parsed p o ↦ λ a l.
              let a1 : i ≡ length s - length (drop i s) = omega (arith, length-drop i s) in
              let a2 : q ≡ length s - length (drop i s) + length k = omega (arith, length-drop i s) in
              let a3 : v ≡ placed_at s p = cc in
              let a4 : v.params.to ≡ length s - length o = place-left s o v.params.to (omega (arith, value-high w v e)) (left-parsed s o v.params.to p l) in
              λ j. Some (record { key = record { from = a1 j; to = a2 j }; value = a3 j; next = a4 j })
          | malformed ↦ λ a l. clash cc
        ])

        go : (g : Parsed (List ℕ)) → left_at s (Some q) ≡ rest_of g → Took (λ k. k) (drop i s) g → Some (record { key = record { from = i; to = q }; value = v; next = v.params.to }) ≡ member_found s (after g (λ k m. mapped (λ p. record { key = k; from = length (drop i s); placed = p }) (assigned_of m)))
        go = unfold after in (elim [
          | parsed k m ↦ λ u t.
              let d : drop q s ≡ m = left-parsed s m q k u in
              let y : q ≡ i + length k = omega (arith, ap high at, sym (length-drop i s) ∙ ap length t, length-append k m, sym (length-drop q s) ∙ ap length d) in
              valued k y (assigned_of m) (rw d at (sym e ∙ wi)) (rw d at (value-left w v e s _ wl))
          | malformed ↦ λ u t. absurd (left_not (List ℕ) s q u)
        ])

pub ruleset members = (member-found, member-unread, member-no-key)

-- its parts
pub at_key : (s : List ℕ) (m : Member) (n : ℕ) → (member_at s m n).key ≡ record { from = length s - m.from; to = length s - m.from + length m.key }
unfolding member_at
at_key s m n = refl

pub at_value : (s : List ℕ) (m : Member) (n : ℕ) → (member_at s m n).value ≡ placed_at s m.placed
unfolding member_at
at_value s m n = refl

pub at_next : (s : List ℕ) (m : Member) (n : ℕ) → (member_at s m n).next ≡ n
unfolding member_at
at_next s m n = refl

-- a member at a cursor, and what parts it from the next
module _ (s : List ℕ) (c i : ℕ) (e : drop i s ≡ past is_space (drop c s)) where
  pub next-end : length s ≤ i → Ok None ≡ next_at s c
  unfolding next_at skip pick
  next-end h = rw (← e, empty-yes s i h)

  at-member : i < length s → read_at s (member_of (drop i s)) ≡ next_at s c
  unfolding next_at skip pick
  at-member h = rw (← e, empty-no s i h)

  module _ (h : i < length s) (r : Option MemberAt) (is : r ≡ member_found s (member_of (drop i s))) where
    pub next-unread : r ≡ None → refused (Option MemberAt) ≡ next_at s c
    next-unread at = go (member_of (drop i s)) (sym at ∙ is) ∙ at-member h
      where
        go : (g : Parsed Member) → None ≡ member_found s g → refused (Option MemberAt) ≡ read_at s g
        go = unfold member_found read_at in (elim [ parsed m l ↦ λ u. clash cc | malformed ↦ λ u. refl ])

    module _ (left : left_at s (member_end r) ≡ rest_of (member_of (drop i s))) (m : MemberAt) (at : r ≡ Some m) (t : Option ℕ) (ts : left_at s t ≡ parted_rest (parted_by (drop m.next s))) where
      -- the answer, by what parts the member from the next
      parted-as : (R : Result (Option MemberAt) NotADictionary) → ((x : Member) → m ≡ member_at s x m.next → R ≡ parted_at s x (parted_by (drop m.next s))) → R ≡ next_at s c
      parted-as R k = go (member_of (drop i s)) (sym at ∙ is) (rw at at left) ∙ at-member h
        where
          go : (g : Parsed Member) → Some m ≡ member_found s g → left_at s (Some m.next) ≡ rest_of g → R ≡ read_at s g
          go = unfold member_found read_at in (elim [
            | parsed x l ↦ λ u v.
                let d : drop m.next s ≡ l = left-parsed s l m.next x v in
                let a : m ≡ member_at s x (length s - length l) = cc in
                let b : m.next ≡ length s - length l = ap (λ (z : MemberAt). z.next) a ∙ at_next s x (length s - length l) in
                rw (← d) (k x (a ∙ ap (member_at s x) (sym b)))
            | malformed ↦ λ u v. clash cc
          ])

      member-next : (x : Member) (n o : ℕ) → m ≡ member_at s x m.next → n ≡ o → record { key = m.key; value = m.value; next = n } ≡ member_at s x o
      unfolding member_at
      member-next x n o a b = rw (a, b)

      pub next-fails : t ≡ None → refused (Option MemberAt) ≡ next_at s c
      next-fails f = parted-as (refused (Option MemberAt)) (λ x a. go x (parted_by (drop m.next s)) (rw f at ts))
        where
          go : (x : Member) (st : Step (Unit {0})) → left_at s None ≡ parted_rest st → refused (Option MemberAt) ≡ parted_at s x st
          go = unfold left_at parted_rest parted_at in (λ x. elim [ more u l ↦ λ w. clash cc | done u l ↦ λ w. clash cc | fail ↦ λ w. refl ])

      pub next-parted : (n : ℕ) → high t ≤ length s → t ≡ Some n → Ok (Some (record { key = m.key; value = m.value; next = n })) ≡ next_at s c
      next-parted n h f = parted-as (Ok (Some (record { key = m.key; value = m.value; next = n }))) (λ x a. go x a (parted_by (drop m.next s)) (rw f at ts))
        where
          placed : (x : Member) → m ≡ member_at s x m.next → (l : List ℕ) → drop n s ≡ l → record { key = m.key; value = m.value; next = n } ≡ member_at s x (length s - length l)
          placed x a l d = member-next x n (length s - length l) a (place-left s l n (omega (arith, ap high f)) d)

          go : (x : Member) → m ≡ member_at s x m.next → (st : Step (Unit {0})) → left_at s (Some n) ≡ parted_rest st → Ok (Some (record { key = m.key; value = m.value; next = n })) ≡ parted_at s x st
          go = unfold left_at parted_rest parted_at in (λ x a. elim [ more u l ↦ λ w. let d : drop n s ≡ l = cc in ap (λ (z : MemberAt). Ok (Some z)) (placed x a l d) | done u l ↦ λ w. let d : drop n s ≡ l = cc in ap (λ (z : MemberAt). Ok (Some z)) (placed x a l d) | fail ↦ λ w. clash cc ])

pub ruleset nexts = (next-end, next-unread, next-fails, next-parted)

-- the place past a member, and the next cursor, for `omega`
pub member-low : (r : Option MemberAt) (m : MemberAt) → r ≡ Some m → low (member_end r) ≡ m.next
member-low r m e = rw e

pub member-high : (r : Option MemberAt) (m : MemberAt) → r ≡ Some m → high (member_end r) ≡ m.next
member-high r m e = rw e

pub next-member-low : (r : Result (Option MemberAt) NotADictionary) (m : MemberAt) → r ≡ Ok (Some m) → low_member r ≡ m.next
next-member-low r m e = rw e

pub next-member-high : (r : Result (Option MemberAt) NotADictionary) (m : MemberAt) → r ≡ Ok (Some m) → high_member r ≡ m.next
next-member-high r m e = rw e
