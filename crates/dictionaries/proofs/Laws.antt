-- What the crates above use of dictionaries, here and in its parts: InnerLists (`items-item`, `items-end`, the items of a list by its cursor),
-- ReadBack (`written_back`, what is written is read back), Keys (`no-empty-key`), Written (the texts that are written, by their cases), Bytes (how many bytes the items
-- of a list, and those of a member, take), MemberBytes (those of all members). Assumes nothing.
use mathlib.Core.Path.{◌≡◌, refl, ap, ◌∙◌, sym}
use Prim.Native.Nat.{ℕ}
use mathlib.Core.List.{List, [], ◌∷◌, ◌++◌}
use mathlib.Core.Bool.{Bool, true, false}
use Rattle.std.specs.Prelude.{Option, Some, None, Result, Ok, Err}
use lib.ListN.{drop}
use Rattle.ascii.specs.Bytes.{pick}
use Rattle.ascii.specs.Texts.{same_bytes}
use Rattle.ascii.specs.Reading.{Parsed, is_empty, skip, past}
use Rattle.ascii.specs.Reading.Parsed.{parsed, malformed}
use Rattle.ascii.specs.Places.{rest_of}
use Rattle.ascii.specs.declared.TextRange.{TextRange}
use Rattle.ascii.proofs.Clash.{clash}
use Rattle.items.specs.Items.{Item, Parameter, params_of}
use Rattle.items.specs.Found.{item_in}
use Rattle.items.specs.declared.ItemFound.{ItemFound}
use Rattle.dictionaries.specs.Dictionaries.{plains, data_of, dictionary, members, Plain, plainly, read_all, Value}
use Rattle.dictionaries.specs.Dictionaries.Value.{one, many}
use Rattle.dictionaries.specs.Lookup.{into, later, last_value_in, last_parameters_in, last_found, cursor_at, items_from, refused, range_in, value_in, parameters_in, found_in, found_parameters_in, is_some}
use Rattle.dictionaries.specs.Members.{members_from, with_first, member_in, next_in, next_at, fold_members}
use Rattle.dictionaries.specs.OneItemMore.{OneItemMore}
use Rattle.items.specs.declared.ItemRange.{ItemRange}
use Rattle.dictionaries.specs.declared.ValueRange.TheVariants as range
use Rattle.dictionaries.specs.declared.MemberValue.{MemberValue}
use Rattle.dictionaries.specs.declared.MemberAt.{MemberAt}
use Rattle.dictionaries.specs.declared.NotADictionary.{NotADictionary}
pub use Rattle.dictionaries.proofs.InnerLists.{items-item, items-end, next_low, next-high}
pub use Rattle.dictionaries.proofs.Members.{next-member-low, next-member-high}
use Rattle.dictionaries.proofs.Places.{found-last, found-parameters, found-ends}
use Rattle.dictionaries.proofs.NextMembers.{next-said}
pub use Rattle.dictionaries.proofs.Lookup.{fold-first, fold-none, fold-malformed}

-- the empty text is a dictionary with no members
pub empty-members : members [] ≡ Some []
unfolding read_all skip past is_empty pick data_of plainly plains
empty-members = refl

-- the last value of a key among no members, and in a text that is not a dictionary
pub last-of-empty : (key : List ℕ) → last_value_in key (Some []) ≡ Some None
unfolding last_value_in into
last-of-empty key = refl

pub last-of-none : (key : List ℕ) → last_value_in key None ≡ None
unfolding last_value_in
last-of-none key = refl

-- the last value of a key, member by member
pub last-fold : (key : List ℕ) (ms : List Plain) → last_value_in key (Some ms) ≡ Some (into (later key) None ms)
unfolding last_value_in
last-fold key ms = refl

-- and any fold
pub into-none : {A B : Type 0} (k : B → A → B) (b : B) → into k b [] ≡ b
unfolding into
into-none k b = refl

pub into-first : {A B : Type 0} (k : B → A → B) (b : B) (x : A) (xs : List A) → into k b (x ∷ xs) ≡ into k (k b x) xs
unfolding into
into-first k b x xs = refl

module _ (key : List ℕ) (v : Option Value) where
  pub later_same : (m : Plain) → same_bytes m.key key ≡ true → later key v m ≡ Some m.value
  unfolding later pick
  later_same m e = rw e

  pub later-other : (m : Plain) → same_bytes m.key key ≡ false → later key v m ≡ v
  unfolding later pick
  later-other m e = rw e

  pub fold-nil : into (later key) v [] ≡ v
  fold-nil = into-none (later key) v

  pub fold_same : (m : Plain) (ms : List Plain) → same_bytes m.key key ≡ true → into (later key) v (m ∷ ms) ≡ into (later key) (Some m.value) ms
  fold_same m ms e = into-first (later key) v m ms ∙ ap (λ (z : Option Value). into (later key) z ms) (later_same m e)

  pub fold-other : (m : Plain) (ms : List Plain) → same_bytes m.key key ≡ false → into (later key) v (m ∷ ms) ≡ into (later key) v ms
  fold-other m ms e = into-first (later key) v m ms ∙ ap (λ (z : Option Value). into (later key) z ms) (later-other m e)

-- whether there is something
pub some-is : {A : Type 0} (a : A) → is_some (Some a) ≡ true
unfolding is_some
some-is a = refl

pub none_is : (A : Type 0) → is_some {A = A} None ≡ false
unfolding is_some
none_is A = refl

-- what a value with its places says, by its cases
module _ (s : List ℕ) (v : MemberValue) where
  pub value-item : (x : ItemRange) → v.range ≡ range.Item x → value_in s v ≡ one (item_in s x)
  unfolding range_in
  value-item x e = rw e

  pub value-list : (first : ℕ) → v.range ≡ range.List first → value_in s v ≡ many (items_from s first)
  unfolding range_in
  value-list first e = rw e

-- the last member of a key: what `member` answers is the data's last value of that key
module _ (s key : List ℕ) (r : Result (Option MemberValue) NotADictionary) (is : r ≡ last_found s key) where
  pub last-member : found_in s r ≡ last_value_in key (members s)
  last-member = ap (found_in s) is ∙ found-last s key

  -- the same by its cases
  pub last-malformed : (u : NotADictionary) → r ≡ Err u → last_value_in key (members s) ≡ None
  unfolding found_in
  last-malformed u e = rw e at (sym last-member)

  pub last-absent : r ≡ Ok None → last_value_in key (members s) ≡ Some None
  unfolding found_in
  last-absent e = rw e at (sym last-member)

  module _ (v : MemberValue) (e : r ≡ Ok (Some v)) where
    pub last-item : (x : ItemRange) → v.range ≡ range.Item x → last_value_in key (members s) ≡ Some (Some (one (item_in s x)))
    unfolding found_in range_in
    last-item x w = rw w at (rw e at (sym last-member))

    pub last-list : (first : ℕ) → v.range ≡ range.List first → last_value_in key (members s) ≡ Some (Some (many (items_from s first)))
    unfolding found_in range_in
    last-list first w = rw w at (rw e at (sym last-member))

-- the parameters of the last member of a key, and that they are read from the start of their range up to its end
pub record LastParameters (s key : List ℕ) (p : TextRange) : Type 0 where
  pub parameters : List Parameter
  pub are : last_parameters_in key (dictionary s) ≡ Some (Some parameters)
  pub read : params_of (drop p.from s) ≡ parsed parameters (drop p.to s)

module _ (s key : List ℕ) (p : TextRange) (are : Some (parameters_in s p) ≡ last_parameters_in key (dictionary s)) (ends : rest_of (params_of (drop p.from s)) ≡ Some (drop p.to s)) where
  parameters_read : LastParameters s key p
  unfolding parameters_in
  parameters_read = go (params_of (drop p.from s)) refl are ends
    where
      go : (g : Parsed (List Parameter)) → params_of (drop p.from s) ≡ g → Some (data_of g) ≡ last_parameters_in key (dictionary s) → rest_of g ≡ Some (drop p.to s) → LastParameters s key p
      go = unfold data_of rest_of in (elim [ parsed ps l ↦ λ e a r. (let d : l ≡ drop p.to s = cc in record { parameters = ps; are = sym a; read = e ∙ ap (parsed ps) d }) | malformed ↦ λ e a r. clash cc ])

pub last-parameters : (s key : List ℕ) (r : Result (Option MemberValue) NotADictionary) → r ≡ last_found s key → (v : MemberValue) → r ≡ Ok (Some v) → LastParameters s key v.params
unfolding found_parameters_in
last-parameters s key r is v e = parameters_read s key v.params (rw (sym is ∙ e) at (found-parameters s key)) (rw (sym is ∙ e) at (found-ends s key))

-- the members of a text, by the cursor: what `next_member` answers is the first member from there on, and the next cursor has the others
pub from_start : (s : List ℕ) → members_from s 0 ≡ members s
from_start s = refl

module _ (s : List ℕ) (c : ℕ) (r : Result (Option MemberAt) NotADictionary) (is : r ≡ next_at s c) where
  pub from_member : (f : MemberAt) → r ≡ Ok (Some f) → members_from s c ≡ with_first (member_in s f) (members_from s f.next)
  unfolding next_in
  from_member f e = sym (next-said s c (Ok (Some f)) (sym e ∙ is))

  -- at the end none is left
  pub from_end : r ≡ Ok None → members_from s c ≡ Some []
  unfolding next_in
  from_end e = sym (next-said s c (Ok None) (sym e ∙ is))

  pub from-malformed : r ≡ refused (Option MemberAt) → members_from s c ≡ None
  unfolding next_in
  from-malformed e = sym (next-said s c (refused (Option MemberAt)) (sym e ∙ is))

  -- a fold over the members, cursor by cursor
  module _ {B : Type 0} (k : B → Plain → B) (b : B) (R : Option B) (so_far : fold_members k b (members_from s c) ≡ R) where
    pub fold-member : (f : MemberAt) (b' : B) → r ≡ Ok (Some f) → b' ≡ k b (member_in s f) → fold_members k b' (members_from s f.next) ≡ R
    fold-member f b' e h = rw h (sym (fold-first k b (member_in s f) (members_from s f.next)) ∙ (rw (from_member f e) at so_far))

    pub fold-members-end : r ≡ Ok None → Some b ≡ R
    fold-members-end e = sym (fold-none k b) ∙ (rw (from_end e) at so_far)

    pub fold-members-malformed : r ≡ refused (Option MemberAt) → None ≡ R
    fold-members-malformed e = sym (fold-malformed k b) ∙ (rw (from-malformed e) at so_far)

-- a fold over the members of a dictionary
pub fold-members : {B : Type 0} (k : B → Plain → B) (b : B) (ms : List Plain) → fold_members k b (Some ms) ≡ Some (into k b ms)
unfolding fold_members
fold-members k b ms = refl

-- the items of a list in order, by the cursor: `items-item`, `items-end` of InnerLists
module _ (s : List ℕ) (c : ℕ) (r : Option ItemFound) (is : r ≡ cursor_at s c) where
  -- a fold over the items, cursor by cursor
  module _ {B : Type 0} (k : B → Item → B) (b R : B) (so_far : into k b (items_from s c) ≡ R) where
    pub fold-item : (f : ItemFound) (b' : B) → r ≡ Some f → b' ≡ k b (item_in s f.range) → into k b' (items_from s f.next) ≡ R
    unfolding into
    fold-item f b' e h = rw h (rw (items-item s c r is f e) at so_far)

    pub fold_end : r ≡ None → b ≡ R
    unfolding into
    fold_end e = rw (items-end s c r is e) at so_far

-- a value, and the same value or one with an item more
pub data Grown : Option Value → Option Value → Type 0 where
  same : {v : Option Value} → Grown v v
  grown : (front back : List Item) (x : Item) → Grown (Some (many (front ++ back))) (Some (many (front ++ (x ∷ back))))

grown-fold : (key : List ℕ) (ms : List Plain) (v w : Option Value) → Grown v w → Grown (into (later key) v ms) (into (later key) w ms)
unfolding into
grown-fold key [] v w g = g
grown-fold key (m ∷ ms) v w g = grown-fold key ms (later key v m) (later key w m) (unfold later in (go (same_bytes m.key key)))
  where
    go : (t : Bool) → Grown (pick t (Some m.value) v) (pick t (Some m.value) w)
    go = unfold pick in (elim [ true ↦ same | false ↦ g ])

into-append : {A B : Type 0} (k : B → A → B) (b : B) (xs ys : List A) → into k b (xs ++ ys) ≡ into k (into k b xs) ys
unfolding into
into-append k b [] ys = refl
into-append k b (x ∷ xs) ys = into-append k (k b x) xs ys

grown-in : (key : List ℕ) (before behind : List Plain) (k : List ℕ) (front back : List Item) (x : Item) → Grown (into (later key) None (before ++ (record { key = k; value = many (front ++ back) } ∷ behind))) (into (later key) None (before ++ (record { key = k; value = many (front ++ (x ∷ back)) } ∷ behind)))
grown-in key before behind k front back x =
    let small : Plain = record { key = k; value = many (front ++ back) } in
    let large : Plain = record { key = k; value = many (front ++ (x ∷ back)) } in
    rw
    (into-append (later key) None before (small ∷ behind), into-append (later key) None before (large ∷ behind))
    (unfold into later in (grown-fold key behind _ _ (go (into (later key) None before) (same_bytes k key))))
  where
    go : (v : Option Value) (b : Bool) → Grown (pick b (Some (many (front ++ back))) v) (pick b (Some (many (front ++ (x ∷ back)))) v)
    go = unfold pick in (λ v. elim [ true ↦ grown front back x | false ↦ same ])

-- the last value of a key in two headers
pub record LastGrown (s t key : List ℕ) : Type 0 where
  pub first : Option Value
  pub second : Option Value
  pub is_first : last_value_in key (members s) ≡ Some first
  pub is_second : last_value_in key (members t) ≡ Some second
  pub grows : Grown first second

-- with one item more in a header, the last value of each key is the same, or a list with one item more
pub last-grown : (s t : List ℕ) → OneItemMore s t → (key : List ℕ) → LastGrown s t key
unfolding last_value_in
last-grown s t o key =
    record {
      first = into (later key) None (o.before ++ (record { key = o.key; value = many (o.front ++ o.back) } ∷ o.behind));
      second = into (later key) None (o.before ++ (record { key = o.key; value = many (o.front ++ (o.item ∷ o.back)) } ∷ o.behind));
      is_first = ap (last_value_in key) o.first;
      is_second = ap (last_value_in key) o.second;
      grows = grown-in key o.before o.behind o.key o.front o.back o.item;
    }
