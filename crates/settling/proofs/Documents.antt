-- The bytes that a header is settled into say what it declares. Assumes nothing.
use mathlib.Core.Path.{◌≡◌, refl, ap, ◌∙◌, sym}
use Prim.Native.Nat.{ℕ, ◌+◌, ◌*◌, ◌/◌, ◌%◌, ◌-◌, ◌≤◌, ◌<◌}
use mathlib.Core.List.{List, [], ◌∷◌, ◌++◌, map, append_assoc}
use mathlib.Core.Bool.{Bool, true, false}
use Rattle.std.specs.Prelude.{Option, Some, None}
use native.Mathlib.Omega.{arith}
use lib.ListN.{length, get_or, take, drop, length-append, length-drop, length-replicate, get_or-replicate, get_or-append}
use lib.Seq.{drop_at, get_or-take, get_or-drop, get_or-append-add, length-take-le}
use lib.Dec.{ltb, eqb}
use borrow.Author.Tests.{eqb-true, eqb-false, ltb-true, ltb-false}
use Rattle.ascii.specs.Texts.{same_bytes}
use Rattle.ascii.proofs.Texts.{same-bytes, bytes_same}
use Rattle.features.specs.Features.{name_of, feature_of, feature_count}
use Rattle.features.proofs.Laws.{other_name, found_name, found_below, unknown}
use Rattle.items.specs.Items.{Item}
use Rattle.dictionaries.specs.Dictionaries.{Value, Plain, members}
use Rattle.dictionaries.specs.Dictionaries.Value.{one, many}
use Rattle.dictionaries.specs.Lookup.{into, later, last_value_in}
use Rattle.dictionaries.proofs.Laws.{into-none, into-first, later_same, later-other, last-fold, last-of-none}
use Rattle.allowlists.specs.Allowlists.{Allowlist, Meaning, has_star, has_self, has_src, sources_of, allowlist_of}
use Rattle.allowlists.proofs.Laws.{star-all, no-star}
use Rattle.declarations.specs.Declarations.{item_meaning, items_list, lone_declares, value_declares, last_declares, declares}
use Rattle.declarations.proofs.Laws.{declares-last, declares-past, last-value, last_none, last-malformed, value-one, value-many, Lone, lone-cases}
use Rattle.declarations.proofs.Laws.Lone.{ignored, counted}
use Rattle.declarations.proofs.Written.{no_src}
use Rattle.settled.specs.Settled.{entry_bytes, head_bytes, word, Entry, entry_in, marked, entry_declares, declared_in}
use Rattle.settled.proofs.Laws.{declared-by, declared-past, entry-marked, marked-none, marked_all, marked-list, marked-self}
use Rattle.settling.specs.Writing.{expressions_bytes, value_sources, mark_of, entry_text, with_entry, SettledDocument, with_value, with_member, empty_document, document_of, settled_bytes}
use Rattle.settling.proofs.Writes.{list_back}

-- entries with the same bytes
entry-same : (l m : List ℕ) (i : ℕ) → ((j : ℕ) → j < entry_bytes → get_or m (i + j) 0 ≡ get_or l (i + j) 0) → entry_in m i ≡ entry_in l i
entry-same l m i h =
    let z0 : i + 0 ≡ i = omega arith in
    let z2 : i + 2 ≡ i + 1 + 1 = omega arith in
    let z4 : i + 4 ≡ i + 3 + 1 = omega arith in
    let a : get_or m i 0 ≡ get_or l i 0 = rw z0 at (h 0 (omega arith)) in
    let b : get_or m (i + 1) 0 ≡ get_or l (i + 1) 0 = h 1 (omega arith) in
    let c : get_or m (i + 1 + 1) 0 ≡ get_or l (i + 1 + 1) 0 = rw z2 at (h 2 (omega arith)) in
    let d : get_or m (i + 3) 0 ≡ get_or l (i + 3) 0 = h 3 (omega arith) in
    let e : get_or m (i + 3 + 1) 0 ≡ get_or l (i + 3 + 1) 0 = rw z4 at (h 4 (omega arith)) in
    rw (a, b, c, d, e) refl

word_back : (n : ℕ) → word (n % 256) (n / 256) ≡ n
word_back n = omega arith

-- a head with another entry: its bytes, and those of the other entries
module _ (head : List ℕ) (n mark start count : ℕ) (h : n < feature_count) (g : length head ≡ head_bytes) where
  abbrev t : List ℕ
  t = entry_text mark start count

  front : length (take (entry_bytes * n) head) ≡ entry_bytes * n
  front = length-take-le (entry_bytes * n) head (omega arith)

  pub entry-long : length (with_entry head n t) ≡ head_bytes
  unfolding with_entry
  entry-long = omega (arith, length-append (take (entry_bytes * n) head) (t ++ drop (entry_bytes * n + entry_bytes) head), front, length-append t (drop (entry_bytes * n + entry_bytes) head), length-drop (entry_bytes * n + entry_bytes) head)

  entry-in : (j : ℕ) → j < entry_bytes → get_or (with_entry head n t) (entry_bytes * n + j) 0 ≡ get_or t j 0
  unfolding with_entry
  entry-in j f =
      ap (λ (k : ℕ). get_or (take (entry_bytes * n) head ++ (t ++ drop (entry_bytes * n + entry_bytes) head)) (k + j) 0) (sym front)
      ∙ (get_or-append-add (take (entry_bytes * n) head) (t ++ drop (entry_bytes * n + entry_bytes) head) j 0 ∙ get_or-append t (drop (entry_bytes * n + entry_bytes) head) 0 j (omega arith))

  entry-below : (i : ℕ) → i < entry_bytes * n → get_or (with_entry head n t) i 0 ≡ get_or head i 0
  unfolding with_entry
  entry-below i f = get_or-append (take (entry_bytes * n) head) (t ++ drop (entry_bytes * n + entry_bytes) head) 0 i (omega (arith, front)) ∙ get_or-take (entry_bytes * n) head i 0 f

  entry_past : (i : ℕ) → get_or (with_entry head n t) (entry_bytes * n + (entry_bytes + i)) 0 ≡ get_or head (entry_bytes * n + entry_bytes + i) 0
  unfolding with_entry
  entry_past i =
      ap (λ (k : ℕ). get_or (take (entry_bytes * n) head ++ (t ++ drop (entry_bytes * n + entry_bytes) head)) (k + (entry_bytes + i)) 0) (sym front)
      ∙ (get_or-append-add (take (entry_bytes * n) head) (t ++ drop (entry_bytes * n + entry_bytes) head) (entry_bytes + i) 0 ∙ (get_or-append-add t (drop (entry_bytes * n + entry_bytes) head) i 0 ∙ get_or-drop (entry_bytes * n + entry_bytes) head i 0))

  pub entry_here : entry_in (with_entry head n t) (entry_bytes * n) ≡ record { mark = mark; start = start; count = count }
  entry_here =
      let i = entry_bytes * n in
      let m = with_entry head n t in
      let z0 : i + 0 ≡ i = omega arith in
      let z2 : i + 2 ≡ i + 1 + 1 = omega arith in
      let z4 : i + 4 ≡ i + 3 + 1 = omega arith in
      let a : get_or m i 0 ≡ mark = rw z0 at (entry-in 0 (omega arith)) in
      let b : get_or m (i + 1) 0 ≡ start % 256 = entry-in 1 (omega arith) in
      let c : get_or m (i + 1 + 1) 0 ≡ start / 256 = rw z2 at (entry-in 2 (omega arith)) in
      let d : get_or m (i + 3) 0 ≡ count % 256 = entry-in 3 (omega arith) in
      let e : get_or m (i + 3 + 1) 0 ≡ count / 256 = rw z4 at (entry-in 4 (omega arith)) in
      rw (a, b, c, d, e, word_back start, word_back count) refl

  pub entry_other : (k : ℕ) → (k ≡ n → ⊥) → entry_in (with_entry head n t) (entry_bytes * k) ≡ entry_in head (entry_bytes * k)
  entry_other k d = entry-same head (with_entry head n t) (entry_bytes * k) (λ j f. go j f (ltb k n) refl)
    where
      go : (j : ℕ) → j < entry_bytes → (b : Bool) → ltb k n ≡ b → get_or (with_entry head n t) (entry_bytes * k + j) 0 ≡ get_or head (entry_bytes * k + j) 0
      go j f true u = let v : k < n = ltb-true k n u in entry-below (entry_bytes * k + j) (omega arith)
      go j f false u =
          let v : n ≤ k = ltb-false k n u in
          let x : k ≡ n → ⊥ = d in
          let y : n < k = omega (arith, x) in
          let i = entry_bytes * k + j - (entry_bytes * n + entry_bytes) in
          let z : entry_bytes * n + (entry_bytes + i) ≡ entry_bytes * k + j = omega arith in
          let w : entry_bytes * n + entry_bytes + i ≡ entry_bytes * k + j = omega arith in
          rw w at (rw z at (entry_past i))

-- the mark and the expressions of a value say what it declares
items-marked : (xs : List Item) → marked (mark_of (Some (items_list xs))) (sources_of (map item_meaning xs)) ≡ Some (items_list xs)
items-marked xs = go (map item_meaning xs) (no_src xs)
  where
    go : (ms : List Meaning) → has_src ms ≡ false → marked (mark_of (Some (allowlist_of ms))) (sources_of ms) ≡ Some (allowlist_of ms)
    go ms s = by (has_star ms) refl (has_self ms) refl
      where
        by : (a : Bool) → has_star ms ≡ a → (b : Bool) → has_self ms ≡ b → marked (mark_of (Some (allowlist_of ms))) (sources_of ms) ≡ Some (allowlist_of ms)
        by true e b f = unfold mark_of in (rw (star-all ms e) (marked_all (sources_of ms)))
        by false e true f = unfold mark_of in (rw (no-star ms e, f, s) (marked-self (sources_of ms)))
        by false e false f = unfold mark_of in (rw (no-star ms e, f, s) (marked-list (sources_of ms)))

value-marked : (v : Value) → marked (mark_of (value_declares v)) (value_sources v) ≡ value_declares v
value-marked (one x) = rw (value-one x) (go (lone_declares (item_meaning x)) (lone-cases (item_meaning x)))
  where
    go : (o : Option Allowlist) → Lone (item_meaning x) o → marked (mark_of o) (sources_of (item_meaning x ∷ [])) ≡ o
    go None (ignored k) = unfold mark_of in (marked-none (sources_of (item_meaning x ∷ [])))
    go (Some l) counted = items-marked (x ∷ [])
value-marked (many xs) = rw (value-many xs) (items-marked xs)

-- a document shows a value for a feature, if there is one, whatever follows it
record Shows (x : SettledDocument) (n : ℕ) (v : Option Value) : Type 0 where
  long : length x.head ≡ head_bytes
  says : (y : List ℕ) → entry_declares (entry_in x.head (entry_bytes * n)) (x.body ++ y) ≡ last_declares (Some v)

zero-shows : (x : SettledDocument) (n : ℕ) → length x.head ≡ head_bytes → get_or x.head (entry_bytes * n) 0 ≡ 0 → Shows x n None
zero-shows x n h z =
    record {
      long = h;
      says = λ y. entry-marked (entry_in x.head (entry_bytes * n)) (x.body ++ y) ∙ (rw z (marked-none _ ∙ sym last_none));
    }

empty-shows : (n : ℕ) → n < feature_count → Shows empty_document n None
empty-shows n h = zero-shows empty_document n (length-replicate {A = ℕ} head_bytes 0) (get_or-replicate {A = ℕ} head_bytes (entry_bytes * n) 0 0 (omega arith))

module _ (x : SettledDocument) (n : ℕ) (v : Option Value) (h : n < feature_count) (s : Shows x n v) (m : Plain) where
  entry : List ℕ
  entry = entry_text (mark_of (value_declares m.value)) (length x.body) (length (value_sources m.value))

  here : feature_of m.key ≡ Some n → Shows (with_value x (Some n) m.value) n (later (name_of n) v m)
  unfolding with_value
  here e =
      let k : m.key ≡ name_of n = found_name m.key n e in
      let t = expressions_bytes (value_sources m.value) in
      let hit : same_bytes m.key (name_of n) ≡ true = rw k (same-bytes (name_of n)) in
      record {
        long = entry-long x.head n (mark_of (value_declares m.value)) (length x.body) (length (value_sources m.value)) h s.long;
        says = λ y.
            rw (later_same (name_of n) v m hit, last-value m.value, append_assoc x.body t y)
            (ap (λ (z : Entry). entry_declares z (x.body ++ (t ++ y))) (entry_here x.head n (mark_of (value_declares m.value)) (length x.body) (length (value_sources m.value)) h s.long)
            ∙ (entry-marked (record { mark = mark_of (value_declares m.value); start = length x.body; count = length (value_sources m.value) }) (x.body ++ (t ++ y))
            ∙ (rw (drop_at x.body (t ++ y) (length x.body) refl, list_back (value_sources m.value) y) (value-marked m.value))));
      }

  there : (k : ℕ) → feature_of m.key ≡ Some k → (n ≡ k → ⊥) → Shows (with_value x (Some k) m.value) n (later (name_of n) v m)
  unfolding with_value
  there k e d =
      let b : k < feature_count = found_below m.key k e in
      let w : m.key ≡ name_of k = found_name m.key k e in
      let t = expressions_bytes (value_sources m.value) in
      let miss : same_bytes m.key (name_of n) ≡ false = rw w (other_name k n b h (λ z. d (sym z))) in
      record {
        long = entry-long x.head k (mark_of (value_declares m.value)) (length x.body) (length (value_sources m.value)) b s.long;
        says = λ y.
            rw (later-other (name_of n) v m miss, append_assoc x.body t y)
            (ap (λ (z : Entry). entry_declares z (x.body ++ (t ++ y))) (entry_other x.head k (mark_of (value_declares m.value)) (length x.body) (length (value_sources m.value)) b s.long n d) ∙ s.says (t ++ y));
      }

  unnamed : feature_of m.key ≡ None → Shows (with_value x None m.value) n (later (name_of n) v m)
  unfolding with_value
  unnamed e = rw (later-other (name_of n) v m (miss (same_bytes m.key (name_of n)) refl)) s
    where
      miss : (b : Bool) → same_bytes m.key (name_of n) ≡ b → b ≡ false
      miss true u = absurd (unknown m.key n e h (bytes_same m.key (name_of n) u))
      miss false u = refl

  member-shows : Shows (with_member x m) n (later (name_of n) v m)
  member-shows = go (feature_of m.key) refl
    where
      go : (o : Option ℕ) → feature_of m.key ≡ o → Shows (with_value x o m.value) n (later (name_of n) v m)
      go None e = unnamed e
      go (Some k) e = by (eqb n k) refl
        where
          by : (b : Bool) → eqb n k ≡ b → Shows (with_value x (Some k) m.value) n (later (name_of n) v m)
          by true u = let z : n ≡ k = eqb-true n k u in rw (← z) (here (e ∙ ap Some (sym z)))
          by false u = there k e (eqb-false n k u)

members-show : (n : ℕ) → n < feature_count → (ms : List Plain) (x : SettledDocument) (v : Option Value) → Shows x n v → Shows (into with_member x ms) n (into (later (name_of n)) v ms)
members-show n h [] x v s = rw (into-none with_member x, into-none (later (name_of n)) v) s
members-show n h (m ∷ ms) x v s =
    rw (into-first with_member x m ms, into-first (later (name_of n)) v m ms)
    (members-show n h ms (with_member x m) (later (name_of n) v m) (member-shows x n v h s m))

-- a header's document says what the header declares
record Says (x : SettledDocument) (s : List ℕ) (n : ℕ) : Type 0 where
  long : length x.head ≡ head_bytes
  says : (y : List ℕ) → entry_declares (entry_in x.head (entry_bytes * n)) (x.body ++ y) ≡ declares s n

document-says : (s : List ℕ) (n : ℕ) → n < feature_count → Says (document_of (members s)) s n
document-says s n h = go (members s) refl
  where
    shows : (x : SettledDocument) (v : Option Value) → last_value_in (name_of n) (members s) ≡ Some v → Shows x n v → Says x s n
    shows x v e w = record { long = w.long; says = λ y. w.says y ∙ (ap last_declares (sym e) ∙ sym (declares-last s n)) }

    go : (d : Option (List Plain)) → members s ≡ d → Says (document_of d) s n
    go (Some ms) e = unfold document_of in (shows (into with_member empty_document ms) (into (later (name_of n)) None ms) (ap (last_value_in (name_of n)) e ∙ last-fold (name_of n) ms) (members-show n h ms empty_document None (empty-shows n h)))
    go None e =
        let w = empty-shows n h in
        unfold document_of in (record { long = w.long; says = λ y. w.says y ∙ (last_none ∙ (sym last-malformed ∙ (ap last_declares (sym (ap (last_value_in (name_of n)) e ∙ last-of-none (name_of n))) ∙ sym (declares-last s n)))) })

pub document-long : (s : List ℕ) → length (document_of (members s)).head ≡ head_bytes
document-long s = (document-says s 0 (omega arith)).long

-- 01, "Policies are settled at load": for every number, whatever follows
pub settled_says : (s y : List ℕ) (n : ℕ) → declared_in (settled_bytes s ++ y) n ≡ declares s n
unfolding settled_bytes
settled_says s y n = go (ltb n feature_count) refl
  where
    x : SettledDocument
    x = document_of (members s)

    go : (b : Bool) → ltb n feature_count ≡ b → declared_in ((x.head ++ x.body) ++ y) n ≡ declares s n
    go true t =
        let h : n < feature_count = ltb-true n feature_count t in
        let w = document-says s n h in
        let e : entry_in (x.head ++ (x.body ++ y)) (entry_bytes * n) ≡ entry_in x.head (entry_bytes * n) = entry-same x.head (x.head ++ (x.body ++ y)) (entry_bytes * n) (λ j f. get_or-append x.head (x.body ++ y) 0 (entry_bytes * n + j) (omega (arith, w.long))) in
        rw (append_assoc x.head x.body y)
        (declared-by (x.head ++ (x.body ++ y)) n h ∙ (rw (e, drop_at x.head (x.body ++ y) head_bytes w.long) (w.says y)))
    go false t = let h : feature_count ≤ n = ltb-false n feature_count t in declared-past ((x.head ++ x.body) ++ y) n h ∙ sym (declares-past s n h)
