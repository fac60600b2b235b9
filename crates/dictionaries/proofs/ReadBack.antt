-- Members that are written are read back. Assumes nothing.
use mathlib.Core.Path.{◌≡◌, refl}
use Prim.Native.Nat.{ℕ, zero, suc, ◌≤◌, ◌<◌}
use mathlib.Core.List.{List, [], ◌∷◌, ◌++◌, map, append_assoc}
use mathlib.Core.Bool.{true, false, ◌||◌}
use Rattle.std.specs.Prelude.{Some}
use native.Mathlib.Omega.{arith}
use lib.ListN.{length, length-append, length-map}
use lib.Dec.{eqb}
use Rattle.ascii.specs.Bytes.{pick, is_key_start, is_token_start, is_token_byte, is_space, is_blank}
use Rattle.ascii.specs.Literals.{text}
use Rattle.ascii.specs.Texts.{every}
use Rattle.ascii.specs.Reading.{head_of, head_is, is_empty, next, skip, past, after, mapped, going, adding, on_step, turns}
use Rattle.ascii.specs.Reading.Parsed.{parsed}
use Rattle.ascii.specs.Reading.Step.{more, done}
use Rattle.ascii.proofs.Texts.{every-past}
use Rattle.items.specs.Items.{Item, bare_of, item_of}
use Rattle.items.specs.Items.Item.{token, string, other}
use Rattle.items.proofs.ReadBack.{differs, starts-on, key_back, params_none, token_back, string-back, bare-item}
use Rattle.dictionaries.specs.Dictionaries.{Value, Placed, Member, Plain, inner_turn, inner_of, closed_of, list_of, lone_of, value_of, assigned_of, member_of, parted_of, dict_turn, read_all, data_of, dictionary, plains, plainly, members}
use Rattle.dictionaries.specs.Dictionaries.Value.{one, many}
use Rattle.dictionaries.specs.Written.{each_after, joined_by, item_text, value_text, member_text, written, GoodItem, All, GoodValue, GoodMember, AllGood}
use Rattle.dictionaries.specs.Written.All.{and}

-- what follows an item: a byte that no item goes on with
record Ends (ys : List ℕ) : Type 0 where
  token : is_token_byte (head_of ys) ≡ false
  params : eqb (head_of ys) 59 ≡ false

-- an item is read back, wherever it stands before such a byte
bare-back : (x : Item) (ys : List ℕ) → GoodItem x → Ends ys → bare_of (item_text x ++ ys) ≡ parsed x ys
unfolding item_text
bare-back (token t) ys g e = token_back t ys g.starts g.bytes e.token
bare-back (string t) ys g e = simp append_assoc (string-back t ys g)
bare-back other ys g e = absurd g

item_back : (x : Item) (ys : List ℕ) → GoodItem x → Ends ys → item_of (item_text x ++ ys) ≡ parsed x ys
item_back x ys g e = bare-item (item_text x ++ ys) x ys (bare-back x ys g e) e.params

-- the first byte of an item starts a token, or is a quote
item-head : (x : Item) (ys : List ℕ) → GoodItem x → (c : ℕ) → is_token_start c ≡ false → eqb 34 c ≡ false → eqb (head_of (item_text x ++ ys)) c ≡ false
unfolding item_text head_of head_is
item-head (token t) ys g c h q = simp (starts-on is_token_start t ys g.starts refl) (differs is_token_start (head_of t) c g.starts h)
item-head (string t) ys g c h q = q
item-head other ys g c h q = absurd g

-- an inner list: what follows an item of it, a space or its end
record Parts (ys : List ℕ) : Type 0 where
  ends : Ends ys
  parts : eqb (head_of ys) 32 || eqb (head_of ys) 41 ≡ true

inner-turn : (x : Item) (ys : List ℕ) → GoodItem x → Parts ys → inner_turn (item_text x ++ ys) ≡ more (x ∷ []) ys
unfolding inner_turn skip going pick
inner-turn x ys g e =
    simp
    (every-past is_space [] (item_text x ++ ys) (unfold every in refl) (item-head x ys g 32 refl refl), item-head x ys g 41 refl refl, item_back x ys g e.ends, e.parts)

-- a space before it changes nothing
inner-space : (l : List ℕ) → inner_turn (32 ∷ l) ≡ inner_turn l
unfolding inner_turn skip past pick
inner-space l = refl

-- its end
inner-end : (ys : List ℕ) → inner_turn (41 ∷ ys) ≡ done [] ys
unfolding inner_turn skip past pick next head_of
inner-end ys = refl

-- the items past the first of a list, and its end
abbrev following_items : List Item → List ℕ → List ℕ
following_items xs ys = each_after (text " ") (map item_text xs) ++ (41 ∷ ys)

items-part : (xs : List Item) (ys : List ℕ) → Parts (following_items xs ys)
unfolding each_after head_of
items-part [] ys = record { ends = record { token = refl; params = refl }; parts = refl }
items-part (x ∷ xs) ys = record { ends = record { token = refl; params = refl }; parts = refl }

-- the turns from the first item's end on
list-turns : (xs : List Item) (ys : List ℕ) (n : ℕ) → All GoodItem xs → length xs < n → turns inner_turn n (following_items xs ys) ≡ parsed xs ys
unfolding each_after turns on_step adding
list-turns xs ys zero a h = absurd (omega arith)
list-turns [] ys (suc n) a h = simp inner-end
list-turns (x ∷ xs) ys (suc n) (and g a) h =
    simp (append_assoc, inner-space, inner-turn x (following_items xs ys) g (items-part xs ys), list-turns xs ys n a (omega arith))

-- there are no more texts than bytes, and so enough turns
each_long : (c : ℕ) (cs : List ℕ) (ts : List (List ℕ)) → length ts ≤ length (each_after (c ∷ cs) ts)
unfolding each_after
each_long c cs [] = omega arith
each_long c cs (t ∷ ts) = simp length-append (omega (arith, each_long c cs ts))

-- an inner list is read back, from its first item on
inner_back : (xs : List Item) (ys : List ℕ) → All GoodItem xs → inner_of (joined_by (text " ") (map item_text xs) ++ (41 ∷ ys)) ≡ parsed xs ys
unfolding inner_of joined_by turns on_step adding
inner_back [] ys a = simp inner-end
inner_back (x ∷ xs) ys (and g a) =
    let l : List ℕ = following_items xs ys in
    simp (append_assoc, inner-turn x l g (items-part xs ys), list-turns xs ys (length (item_text x ++ l)) a (simp length-append (omega (arith, length-map xs item_text, each_long 32 [] (map item_text xs)))))

-- where a value stands that is written before a text
unfoldable placed_before : Value → List ℕ → Placed
placed_before (one x) ys =
    record { value = one x; parameters = []; start = length (item_text x ++ ys); params_from = length ys; params_to = length ys }
placed_before (many xs) ys =
    record {
      value = many xs;
      parameters = ([]);
      start = length (joined_by (text " ") (map item_text xs) ++ (41 ∷ ys));
      params_from = length ys;
      params_to = length ys;
    }

-- a value is read back
value-back : (v : Value) (ys : List ℕ) → GoodValue v → Ends ys → value_of (value_text v ++ ys) ≡ parsed (placed_before v ys) ys
unfolding value_text placed_before value_of lone_of list_of closed_of pick next after head_of
value-back (one x) ys g e = simp (item-head x ys g 40 refl refl, bare-back x ys g e, params_none ys e.params)
value-back (many xs) ys g e = simp (append_assoc, inner_back xs ys g, params_none ys e.params)

-- where a member stands
unfoldable member_before : Plain → List ℕ → Member
member_before m ys = record { key = m.key; from = length (member_text m ++ ys); placed = placed_before m.value ys }

-- a member is read back
member_back : (m : Plain) (ys : List ℕ) → GoodMember m → Ends ys → member_of (member_text m ++ ys) ≡ parsed (member_before m ys) ys
unfolding member_text member_before member_of assigned_of pick next after mapped head_of
member_back m ys g e = simp (append_assoc, key_back m.key (61 ∷ (value_text m.value ++ ys)) g.key.starts g.key.bytes refl, value-back m.value ys g.value e)

-- the first byte of a member starts a key
member-head : (m : Plain) (ys : List ℕ) → GoodMember m → (c : ℕ) → is_key_start c ≡ false → eqb (head_of (member_text m ++ ys)) c ≡ false
unfolding member_text head_is
member-head m ys g c h =
    simp (append_assoc, starts-on is_key_start m.key (61 ∷ (value_text m.value ++ ys)) g.key.starts refl) (differs is_key_start (head_of m.key) c g.key.starts h)

member-no-blank : (m : Plain) (ys : List ℕ) → GoodMember m → is_blank (head_of (member_text m ++ ys)) ≡ false
member-no-blank m ys g = simp (member-head m ys g 32 refl, member-head m ys g 9 refl)

-- a text with a first byte is not empty
full : (l : List ℕ) → eqb (head_of l) 0 ≡ false → is_empty l ≡ false
unfolding head_of is_empty
full [] e = e
full (x ∷ xs) e = refl

-- the last member, and one that another follows
dict-last : (m : Plain) → GoodMember m → dict_turn (member_text m ++ []) ≡ done (member_before m [] ∷ []) []
unfolding dict_turn parted_of going skip past pick is_empty head_of
dict-last m g = simp (member_back m [] g (record { token = refl; params = refl }))

dict-more : (m k : Plain) (ys : List ℕ) → GoodMember m → GoodMember k → dict_turn (member_text m ++ (44 ∷ 32 ∷ (member_text k ++ ys))) ≡ more (member_before m (44 ∷ 32 ∷ (member_text k ++ ys)) ∷ []) (member_text k ++ ys)
unfolding dict_turn parted_of going skip next past pick is_empty head_of
dict-more m k ys g h =
    let l : List ℕ = member_text k ++ ys in
    simp (member_back m (44 ∷ 32 ∷ l) g (record { token = refl; params = refl }), every-past is_blank [] l (unfold every in refl) (member-no-blank k ys h), full l (member-head k ys h 0 refl))

-- the members past the first
abbrev following_members : List Plain → List ℕ
following_members ms = each_after (text ", ") (map member_text ms)

-- where the members stand that are written
unfoldable placed_all : List Plain → List Member
placed_all [] = []
placed_all (m ∷ ms) = member_before m (following_members ms) ∷ placed_all ms

-- the turns from a member on
dict-turns : (m : Plain) (ms : List Plain) (n : ℕ) → GoodMember m → AllGood ms → length ms < n → turns dict_turn n (member_text m ++ following_members ms) ≡ parsed (placed_all (m ∷ ms)) []
unfolding each_after placed_all turns on_step adding
dict-turns m ms zero g a h = absurd (omega arith)
dict-turns m [] (suc n) g a h = simp (dict-last m g)
dict-turns m (k ∷ ms) (suc n) g (and h a) u = simp (dict-more m k (following_members ms) g h, dict-turns k ms n h a (omega arith))

-- what is written is a dictionary, with its members at these places
written-placed : (ms : List Plain) → AllGood ms → dictionary (written ms) ≡ Some (placed_all ms)
unfolding written joined_by placed_all read_all data_of skip past pick is_empty
written-placed [] a = refl
written-placed (m ∷ ms) (and g a) =
    let ys : List ℕ = following_members ms in
    simp
    (every-past is_space [] (member_text m ++ ys) (unfold every in refl) (member-head m ys g 32 refl), full (member_text m ++ ys) (member-head m ys g 0 refl), dict-turns m ms (suc (length (member_text m ++ ys))) g a (simp length-append (omega (arith, length-map ms member_text, each_long 44 (32 ∷ []) (map member_text ms)))))

-- without its places, a member is the one that was written
placed-value : (v : Value) (ys : List ℕ) → (placed_before v ys).value ≡ v
unfolding placed_before
placed-value (one x) ys = refl
placed-value (many xs) ys = refl

placed-plain : (ms : List Plain) → plains (placed_all ms) ≡ ms
unfolding placed_all member_before plains
placed-plain [] = refl
placed-plain (m ∷ ms) = simp (placed-value m.value (following_members ms), placed-plain ms)

-- members that are written are read back
pub written_back : (ms : List Plain) → AllGood ms → members (written ms) ≡ Some ms
unfolding plainly
written_back ms a = rw (written-placed ms a, placed-plain ms)
