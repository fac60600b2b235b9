-- What was read is what stood there: the text of an item is the part of the text that its range says. Assumes nothing.
use Rattle.std.specs.Prelude.{Some, None}
use mathlib.Core.Path.{◌≡◌, refl, ap, ◌∙◌, sym}
use Prim.Native.Nat.{ℕ, zero, suc, ◌+◌, ◌-◌, ◌≤◌, ◌<◌, min}
use mathlib.Core.List.{List, [], ◌∷◌, ◌++◌, append_assoc}
use mathlib.Core.Bool.{Bool, true, false}
use Rattle.std.specs.Prelude.{Option}
use native.Mathlib.Omega.{arith}
use lib.ListN.{length, drop, length-append, length-drop}
use lib.Seq.{take_at, drop-drop}
use lib.Dec.{eqb}
use borrow.Author.Tests.{eqb-true, eq-eqb, ne_eqb}
use Rattle.ascii.proofs.Clash.{clash}
use Rattle.ascii.specs.Bytes.{pick, is_key_start, is_key_byte, is_token_start, is_token_byte, is_text}
use Rattle.ascii.specs.Texts.{part_of}
use Rattle.ascii.specs.Reading.{Parsed, Step, head_of, head_is, next, run_of, past, after, mapped, adding, on_step, turns}
use Rattle.ascii.specs.Reading.Parsed.{parsed, malformed}
use Rattle.ascii.specs.Reading.Step.{more, done, fail}
use Rattle.ascii.specs.Places.{rest_of, left_at, low, high}
use Rattle.ascii.proofs.Reading.{run-cut}
use Rattle.ascii.proofs.Texts.{part-in}
use Rattle.items.specs.Items.{Item, Parameter, key_of, token_of, is_escaped, is_number_start, string_turn, string_of, number_of, bytes_of, boolean_of, bare_of, params_of, item_of}
use Rattle.items.specs.Items.Item.{token, string, other}
use Rattle.items.specs.Found.{item_range, item_found, item_by, item_in, end_of}
use Rattle.items.specs.declared.ItemKind.{ItemKind}
use Rattle.items.specs.declared.ItemKind.TheVariants as kind
use Rattle.items.specs.declared.ItemFound.{ItemFound}

-- what a reading took from the text
abbrev pub Took : {A : Type 0} → (A → List ℕ) → List ℕ → Parsed A → Type 0
Took f l (parsed a m) = l ≡ f a ++ m
Took f l malformed = Unit {0}

run-took : (b : Bool) (p : ℕ → Bool) (l : List ℕ) → Took (λ k. k) l (pick b (parsed (run_of p l) (past p l)) malformed)
unfolding pick
run-took true p l = run-cut p l
run-took false p l = tt

-- a key stood at the front
pub key-took : (l : List ℕ) → Took (λ k. k) l (key_of l)
unfolding key_of
key-took l = run-took (head_is is_key_start l) is_key_byte l

token-took : (l : List ℕ) → Took (λ k. k) l (token_of l)
unfolding token_of
token-took l = run-took (head_is is_token_start l) is_token_byte l

-- a turn of a string takes what it adds, and at the end a quote
abbrev TurnTook : List ℕ → Step ℕ → Type 0
TurnTook l (more a m) = l ≡ a ++ m
TurnTook l (done a m) = l ≡ a ++ (34 ∷ m)
TurnTook l fail = Unit {0}

turn-took : (l : List ℕ) → TurnTook l (string_turn l)
unfolding string_turn pick next head_of head_is
turn-took [] = tt
turn-took (x ∷ []) = go (eqb x 92) (eqb x 34) (is_text x) refl
  where
    go : (a b c : Bool) → eqb x 34 ≡ b → TurnTook (x ∷ []) (pick a fail (pick b (done [] []) (pick c (more (x ∷ []) []) fail)))
    go true b c e = tt
    go false true c e = rw (eqb-true x 34 e)
    go false false true e = refl
    go false false false e = tt
turn-took (x ∷ y ∷ r) = go (eqb x 92) (is_escaped y) (eqb x 34) (is_text x) refl
  where
    go : (a q b c : Bool) → eqb x 34 ≡ b → TurnTook (x ∷ y ∷ r) (pick a (pick q (more (x ∷ y ∷ []) r) fail) (pick b (done [] (y ∷ r)) (pick c (more (x ∷ []) (y ∷ r)) fail)))
    go true true b c e = refl
    go true false b c e = tt
    go false q true c e = rw (eqb-true x 34 e)
    go false q false true e = refl
    go false q false false e = tt

turns-took : (n : ℕ) (l : List ℕ) → Took (λ t. t ++ (34 ∷ [])) l (turns string_turn n l)
unfolding turns
turns-took zero l = tt
turns-took (suc n) l = go (string_turn l) (turn-took l) (λ m. turns-took n m)
  where
    add : (a m : List ℕ) (g : Parsed (List ℕ)) → Took (λ t. t ++ (34 ∷ [])) m g → Took (λ t. t ++ (34 ∷ [])) (a ++ m) (adding a g)
    add = unfold adding in (λ a m. elim [ parsed t k ↦ λ e. rw e (simp append_assoc) | malformed ↦ λ e. tt ])

    go : (st : Step ℕ) → TurnTook l st → ((m : List ℕ) → Took (λ t. t ++ (34 ∷ [])) m (turns string_turn n m)) → Took (λ t. t ++ (34 ∷ [])) l (on_step st (λ m. turns string_turn n m))
    go = unfold on_step in (elim [ more a m ↦ λ e h. rw e (add a m (turns string_turn n m) (h m)) | done a m ↦ λ e h. e ∙ sym (append_assoc a (34 ∷ []) m) | fail ↦ λ e h. tt ])

-- a string stood at the front, with its quotes
abbrev quoted : List ℕ → List ℕ
quoted t = 34 ∷ (t ++ (34 ∷ []))

string-took : (l : List ℕ) → Took quoted l (string_of l)
unfolding string_of pick next head_of
string-took [] = tt
string-took (x ∷ xs) = go (eqb x 34) refl (turns string_turn (suc (length xs)) xs) (turns-took (suc (length xs)) xs)
  where
    go : (b : Bool) → eqb x 34 ≡ b → (g : Parsed (List ℕ)) → Took (λ t. t ++ (34 ∷ [])) xs g → Took quoted (x ∷ xs) (pick b g malformed)
    go = elim [ true ↦ λ e. elim [ parsed t m ↦ λ h. rw (eqb-true x 34 e, h) | malformed ↦ λ h. tt ] | false ↦ λ e g h. tt ]

-- the kind that the first byte says
unfoldable pub kind_by : ℕ → ItemKind
kind_by b = pick (eqb b 34) kind.String (pick (is_token_start b) kind.Token kind.Other)

-- an item of a kind stood at the front
abbrev pub ItemTook : ItemKind → List ℕ → Parsed Item → Type 0
ItemTook k l (parsed (token t) m) = (k ≡ kind.Token) × (l ≡ t ++ m)
ItemTook k l (parsed (string t) m) = (k ≡ kind.String) × (l ≡ quoted t ++ m)
ItemTook k l (parsed other m) = k ≡ kind.Other
ItemTook k l malformed = Unit {0}

as-string : (l : List ℕ) (g : Parsed (List ℕ)) → Took quoted l g → ItemTook kind.String l (mapped string g)
unfolding mapped
as-string l (parsed t m) e = (refl, e)
as-string l malformed e = tt

as-token : (l : List ℕ) (g : Parsed (List ℕ)) → Took (λ t. t) l g → ItemTook kind.Token l (mapped token g)
unfolding mapped
as-token l (parsed t m) e = (refl, e)
as-token l malformed e = tt

as-other : (l : List ℕ) (g : Parsed (Unit {0})) → ItemTook kind.Other l (mapped (λ u. other) g)
unfolding mapped
as-other l (parsed t m) = refl
as-other l malformed = tt

pub bare-took : (l : List ℕ) → ItemTook (kind_by (head_of l)) l (bare_of l)
unfolding bare_of pick kind_by head_is
bare-took l = go (eqb (head_of l) 34) (is_token_start (head_of l)) (is_number_start (head_of l)) (eqb (head_of l) 58) (eqb (head_of l) 63)
  where
    go : (a b c d e : Bool) → ItemTook (pick a kind.String (pick b kind.Token kind.Other)) l (pick a (mapped string (string_of l)) (pick b (mapped token (token_of l)) (pick c (mapped (λ u. other) (number_of l)) (pick d (mapped (λ u. other) (bytes_of l)) (pick e (mapped (λ u. other) (boolean_of l)) malformed)))))
    go true b c d e = as-string l (string_of l) (string-took l)
    go false true c d e = as-token l (token_of l) (token-took l)
    go false false true d e = as-other l (number_of l)
    go false false false true e = as-other l (bytes_of l)
    go false false false false true = as-other l (boolean_of l)
    go false false false false false = tt

-- the kind, by the tests that the code makes of the first byte
module _ (a a' : ℕ) (e : a' ≡ a) where
  pub kind-string : a' ≡ 34 → kind.String ≡ kind_by a
  unfolding kind_by pick
  kind-string f = rw (eq-eqb a 34 (sym e ∙ f))

  pub kind-token : (a' ≡ 34 → ⊥) → (b : Bool) → b ≡ is_token_start a' → b ≡ true → kind.Token ≡ kind_by a
  unfolding kind_by pick
  kind-token f b u t = let v : is_token_start a ≡ true = rw e at (sym u ∙ t) in rw (ne_eqb a 34 (λ h. f (e ∙ h)), v)

  pub kind-other : (a' ≡ 34 → ⊥) → (b : Bool) → b ≡ is_token_start a' → b ≡ false → kind.Other ≡ kind_by a
  unfolding kind_by pick
  kind-other f b u t = let v : is_token_start a ≡ false = rw e at (sym u ∙ t) in rw (ne_eqb a 34 (λ h. f (e ∙ h)), v)

-- the place past what was read, by what is left
pub place-left : (s m : List ℕ) (q : ℕ) → q ≤ length s → drop q s ≡ m → q ≡ length s - length m
place-left s m q h e = omega (arith, sym (length-drop q s) ∙ ap length e)

-- an answer's place, and what is left there
pub left-at : (s : List ℕ) (r : Option ℕ) (q : ℕ) (w : Option (List ℕ)) → r ≡ Some q → left_at s r ≡ w → left_at s (Some q) ≡ w
left-at s r q w e h = rw e at h

pub left-none : (s : List ℕ) (r : Option ℕ) (w : Option (List ℕ)) → r ≡ None → left_at s r ≡ w → left_at s None ≡ w
left-none s r w e h = rw e at h

-- and what is left by a reading, taken apart
pub left-parsed : {A : Type 0} (s m : List ℕ) (q : ℕ) (x : A) → left_at s (Some q) ≡ rest_of (parsed x m) → drop q s ≡ m
unfolding rest_of left_at
left-parsed s m q x v = cc

pub left_not : (A : Type 0) (s : List ℕ) (q : ℕ) → left_at s (Some q) ≡ rest_of {A = A} malformed → ⊥
unfolding rest_of left_at
left_not A s q v = clash cc

pub none-parsed : {A : Type 0} (s m : List ℕ) (x : A) → left_at s None ≡ rest_of (parsed x m) → ⊥
unfolding rest_of left_at
none-parsed s m x v = clash cc

-- an item that the code has found, by its kind and its places
module _ (s : List ℕ) (i q : ℕ) (r : Option ℕ) (low-r : i < low r) (high-r : high r ≤ length s) (is : left_at s r ≡ rest_of (bare_of (drop i s))) (at : r ≡ Some q) where
  within_text : q ≤ length s
  within_text = omega (arith, ap high at)

  before : i < q
  before = omega (arith, ap low at)

  read-at : left_at s (Some q) ≡ rest_of (bare_of (drop i s))
  read-at = left-at s r q _ at is

  pub found-string : kind.String ≡ kind_by (head_of (drop i s)) → Some (record { range = record { kind = kind.String; text = record { from = i + 1; to = q - 1 } }; next = q }) ≡ item_found s i (bare_of (drop i s))
  unfolding item_found item_range
  found-string e = go (bare_of (drop i s)) read-at (rw (← e) at (bare-took (drop i s)))
    where
      go : (g : Parsed Item) → left_at s (Some q) ≡ rest_of g → ItemTook kind.String (drop i s) g → Some (record { range = record { kind = kind.String; text = record { from = i + 1; to = q - 1 } }; next = q }) ≡ item_found s i g
      go (parsed (string t) m) v c =
          let d : drop q s ≡ m = left-parsed s m q (string t) v in
          let n : q ≡ length s - length m = place-left s m q within_text d in
          let w : q - 1 ≡ i + 1 + length t = omega (arith, within_text, before, sym (length-drop i s) ∙ ap length c.1, length-append (t ++ (34 ∷ [])) m, length-append t (34 ∷ []), sym (length-drop q s) ∙ ap length d) in
          λ j. Some (record { range = record { kind = kind.String; text = record { from = i + 1; to = w j } }; next = n j })
      go (parsed (token t) m) v c = clash cc
      go (parsed other m) v c = clash cc
      go malformed v c = absurd (left_not Item s q v)

  pub found-token : kind.Token ≡ kind_by (head_of (drop i s)) → Some (record { range = record { kind = kind.Token; text = record { from = i; to = q } }; next = q }) ≡ item_found s i (bare_of (drop i s))
  unfolding item_found item_range
  found-token e = go (bare_of (drop i s)) read-at (rw (← e) at (bare-took (drop i s)))
    where
      go : (g : Parsed Item) → left_at s (Some q) ≡ rest_of g → ItemTook kind.Token (drop i s) g → Some (record { range = record { kind = kind.Token; text = record { from = i; to = q } }; next = q }) ≡ item_found s i g
      go (parsed (token t) m) v c =
          let d : drop q s ≡ m = left-parsed s m q (token t) v in
          let n : q ≡ length s - length m = place-left s m q within_text d in
          let w : q ≡ i + length t = omega (arith, within_text, before, sym (length-drop i s) ∙ ap length c.1, length-append t m, sym (length-drop q s) ∙ ap length d) in
          λ j. Some (record { range = record { kind = kind.Token; text = record { from = i; to = w j } }; next = n j })
      go (parsed (string t) m) v c = clash cc
      go (parsed other m) v c = clash cc
      go malformed v c = absurd (left_not Item s q v)

  pub found-other : kind.Other ≡ kind_by (head_of (drop i s)) → Some (record { range = record { kind = kind.Other; text = record { from = i; to = i } }; next = q }) ≡ item_found s i (bare_of (drop i s))
  unfolding item_found item_range
  found-other e = go (bare_of (drop i s)) read-at (rw (← e) at (bare-took (drop i s)))
    where
      go : (g : Parsed Item) → left_at s (Some q) ≡ rest_of g → ItemTook kind.Other (drop i s) g → Some (record { range = record { kind = kind.Other; text = record { from = i; to = i } }; next = q }) ≡ item_found s i g
      go (parsed other m) v c =
          let n : q ≡ length s - length m = place-left s m q within_text (left-parsed s m q other v) in
          λ j. Some (record { range = record { kind = kind.Other; text = record { from = i; to = i } }; next = n j })
      go (parsed (string t) m) v c = clash cc
      go (parsed (token t) m) v c = clash cc
      go malformed v c = absurd (left_not Item s q v)

pub found_none : (s : List ℕ) (i : ℕ) (g : Parsed Item) (r : Option ℕ) → left_at s r ≡ rest_of g → r ≡ None → None ≡ item_found s i g
unfolding item_found
found_none s i (parsed x m) r is at = absurd (none-parsed s m x (left-none s r _ at is))
found_none s i malformed r is at = refl

pub ruleset founds = (found-string, found-token, found-other, found_none, kind-string, kind-token, kind-other)

pub ruleset lefts = (left-at, left-none)

-- an item is a bare item and its parameters
module _ (s : List ℕ) (i : ℕ) (g : Parsed Item) (r : Option ItemFound) (f : ItemFound) (is : r ≡ item_found s i g) (left : left_at s (end_of r) ≡ rest_of g) (at : r ≡ Some f) where
  pub found-item : (p : Option ℕ) (n : ℕ) → left_at s p ≡ rest_of (params_of (drop f.next s)) → high p ≤ length s → p ≡ Some n → Some (record { range = f.range; next = n }) ≡ item_found s i (after g (λ x m. mapped (λ ps. x) (params_of m)))
  found-item p n l h e = go g (sym at ∙ is) (rw at at left)
    where
      params_at : (x : Item) (h : Parsed (List Parameter)) → left_at s (Some n) ≡ rest_of h → Some (record { range = item_range i x; next = n }) ≡ item_found s i (mapped (λ ps. x) h)
      params_at = unfold mapped item_found in (λ x. elim [ parsed ps m ↦ λ v. let w : n ≡ length s - length m = place-left s m n (omega (arith, ap high e)) (left-parsed s m n ps v) in (λ j. Some (record { range = item_range i x; next = w j })) | malformed ↦ λ v. absurd (left_not (List Parameter) s n v) ])

      go : (k : Parsed Item) → Some f ≡ item_found s i k → left_at s (Some f.next) ≡ rest_of k → Some (record { range = f.range; next = n }) ≡ item_found s i (after k (λ x m. mapped (λ ps. x) (params_of m)))
      go = unfold item_found after in (elim [
        | parsed x m ↦ λ u v.
            let d : drop f.next s ≡ m = left-parsed s m f.next x v in
            let w : f.range ≡ item_range i x = cc in
            rw w (params_at x (params_of m) (rw d at (left-at s p n _ e l)))
        | malformed ↦ λ u v. absurd (left_not Item s f.next v)
      ])

  pub found-unread : (p : Option ℕ) → left_at s p ≡ rest_of (params_of (drop f.next s)) → p ≡ None → None ≡ item_found s i (after g (λ x m. mapped (λ ps. x) (params_of m)))
  found-unread p l e = go g (rw at at left)
    where
      params_none : (x : Item) (h : Parsed (List Parameter)) → left_at s None ≡ rest_of h → None ≡ item_found s i (mapped (λ ps. x) h)
      params_none = unfold mapped item_found in (λ x. elim [ parsed ps m ↦ λ v. absurd (none-parsed s m ps v) | malformed ↦ λ v. refl ])

      go : (k : Parsed Item) → left_at s (Some f.next) ≡ rest_of k → None ≡ item_found s i (after k (λ x m. mapped (λ ps. x) (params_of m)))
      go = unfold after in (elim [
        | parsed x m ↦ λ v.
            let d : drop f.next s ≡ m = left-parsed s m f.next x v in
            params_none x (params_of m) (rw d at (left-none s p _ e l))
        | malformed ↦ λ v. absurd (left_not Item s f.next v)
      ])

pub found-bad : (s : List ℕ) (i : ℕ) (g : Parsed Item) (r : Option ItemFound) → left_at s (end_of r) ≡ rest_of g → r ≡ None → None ≡ item_found s i (after g (λ x m. mapped (λ ps. x) (params_of m)))
unfolding item_found after
found-bad s i (parsed x m) r l at = absurd (none-parsed s m x (rw at at l))
found-bad s i malformed r l at = refl

pub ruleset wholes = (found-item, found-unread, found-bad)

-- the place past an item, for `search` and for `omega`
pub end-found : (r : Option ItemFound) (f : ItemFound) → r ≡ Some f → end_of r ≡ Some f.next
end-found r f e = ap end_of e

pub end_none : (r : Option ItemFound) → r ≡ None → end_of r ≡ None
end_none r e = ap end_of e

pub found-low : (r : Option ItemFound) (f : ItemFound) → r ≡ Some f → low (end_of r) ≡ f.next
found-low r f e = rw e

pub found-high : (r : Option ItemFound) (f : ItemFound) → r ≡ Some f → high (end_of r) ≡ f.next
found-high r f e = rw e

-- what is read from the place past an item on ends past the item's start
pub past-item : (s : List ℕ) (i n : ℕ) (r : Option ItemFound) (f : ItemFound) (p : Option ℕ) → i < low (end_of r) → high (end_of r) ≤ length s → r ≡ Some f → min f.next (length s) ≤ low p → p ≡ Some n → i < n
past-item s i n r f p a b e c d = omega (arith, found-low r f e, found-high r f e, ap low d)

-- the text that an item's range says is the item's
pub part-took : (s t m : List ℕ) (i : ℕ) → i ≤ length s → drop i s ≡ t ++ m → part_of s i (i + length t) ≡ t
part-took s t m i h e =
    let n : length t + length m ≡ length s - i = sym (length-append t m) ∙ (sym (ap length e) ∙ length-drop i s) in
    sym (part-in s i (i + length t) (omega arith) (omega arith)) ∙ (rw e (take_at t m (i + length t - i) (omega arith)))

pub bare-range : (s : List ℕ) (i : ℕ) (x : Item) (m : List ℕ) → i ≤ length s → bare_of (drop i s) ≡ parsed x m → item_in s (item_range i x) ≡ x
bare-range s i x m h e = go x (rw e at (bare-took (drop i s)))
  where
    go : (x : Item) → ItemTook (kind_by (head_of (drop i s))) (drop i s) (parsed x m) → item_in s (item_range i x) ≡ x
    go = unfold item_in item_range item_by in (elim [
      | token t ↦ λ c. ap token (part-took s t m i h c.1)
      | string t ↦ λ c.
          let d : drop (i + 1) s ≡ t ++ (34 ∷ m) = sym (drop-drop 1 i s) ∙ (ap (drop 1) c.1 ∙ append_assoc t (34 ∷ []) m) in
          let n : i + 1 ≤ length s = omega (arith, sym (length-drop i s) ∙ ap length c.1, length-append (t ++ (34 ∷ [])) m) in
          ap string (part-took s t (34 ∷ m) (i + 1) n d)
      | other ↦ λ c. refl
    ])

-- the same of an item with its parameters
pub item-range : (s : List ℕ) (i : ℕ) (x : Item) (m : List ℕ) → i ≤ length s → item_of (drop i s) ≡ parsed x m → item_in s (item_range i x) ≡ x
unfolding item_of
item-range s i x m h e = go (bare_of (drop i s)) refl e
  where
    named : (y : Item) (g : Parsed (List Parameter)) → mapped (λ p. y) g ≡ parsed x m → y ≡ x
    named = unfold mapped in (λ y. elim [ parsed p n ↦ λ u. cc | malformed ↦ λ u. clash cc ])

    go : (g : Parsed Item) → bare_of (drop i s) ≡ g → after g (λ y n. mapped (λ p. y) (params_of n)) ≡ parsed x m → item_in s (item_range i x) ≡ x
    go = unfold after in (elim [ parsed y n ↦ λ b u. let v : y ≡ x = named y (params_of n) u in bare-range s i x n h (b ∙ ap (λ (z : Item). parsed z n) v) | malformed ↦ λ b u. clash cc ])

-- an item that is neither token nor string has no text
pub other-range : (s : List ℕ) (i : ℕ) → item_in s (item_range i other) ≡ other
unfolding item_in item_range item_by
other-range s i = refl

pub other_at : (i : ℕ) → item_range i other ≡ record { kind = kind.Other; text = record { from = i; to = i } }
unfolding item_range
other_at i = refl

-- an answer's range and place, by the reading
pub found-is : (s : List ℕ) (i : ℕ) (f : ItemFound) (x : Item) (m : List ℕ) → Some f ≡ item_found s i (parsed x m) → f ≡ record { range = item_range i x; next = length s - length m }
unfolding item_found
found-is s i f x m e = cc
