-- Settled bytes read, in the terms of the code. Assumes nothing.
use Rattle.std.specs.Prelude.{Option, None}
use mathlib.Core.Path.{◌≡◌, refl, ap, ◌∙◌, sym}
use Prim.Native.Nat.{ℕ, zero, suc, ◌+◌, ◌-◌, ◌*◌, ◌/◌, ◌%◌, ◌≤◌, ◌<◌, min}
use mathlib.Core.List.{List, [], ◌∷◌}
use mathlib.Core.Bool.{Bool, true, false, ◌&&◌, ◌||◌}
use Rattle.std.specs.Prelude.{Some}
use native.Mathlib.Omega.{arith}
use lib.ListN.{length, get_or, take, drop, length-drop, drop_of_length-le, get_or-eq_default}
use lib.Seq.{drop-cons, drop-drop, take_all}
use lib.Dec.{eqb, leb}
use borrow.Author.Tests.{eq-eqb, ne_eqb, le-ltb, lt-ltb, leb-true, leb-false}
use Rattle.ascii.specs.Bytes.{pick}
use Rattle.ascii.specs.Reading.{head_of}
use Rattle.ascii.specs.Texts.{part_of, part_in}
use Rattle.ascii.proofs.Reading.{head_in, head-out, place-drop}
use Rattle.ascii.proofs.Texts.{part-in}
use Rattle.features.specs.Features.{feature_count}
use Rattle.std.specs.List.{list_any}
use Rattle.origins.specs.Origins.{Origin, TupleOrigin}
use Rattle.origins.specs.Origins.Origin.{tuple}
use Rattle.origins.specs.Expressions.{SourceExpression}
use Rattle.origins.specs.Matching.{admits_tuple}
use Rattle.origins.specs.Answers.{tuple_by, origin_in}
use Rattle.origins.specs.declared.Scheme.{Scheme}
use Rattle.origins.specs.declared.HostKind.{HostKind}
use Rattle.origins.specs.declared.PortPart.{PortPart}
use Rattle.origins.specs.declared.ExpressionParts.{ExpressionParts}
use Rattle.origins.specs.declared.TupleRange.{TupleRange}
use Rattle.origins.specs.declared.OriginRange.{OriginRange}
use Rattle.origins.specs.declared.OriginRange.TheVariants as range
use Rattle.origins.proofs.Laws.{admits-tuple}
use Rattle.allowlists.specs.Allowlists.{any_admits, some_admits}
use Rattle.allowlists.specs.Allowlists.Allowlist.{all, listed}
use Rattle.allowlists.proofs.Laws.{any-nil, any-cons, some-admits, none-admits, all-admits, listed-admits, list-star, list-parts, sources_fresh, sources-opaque}
use Rattle.settled.specs.Settled.{entry_bytes, head_bytes, word, word_at, scheme_bits, host_bits, port_bits, parts_of, expressions_from, entry_in, marked, entry_declares, declared_in}
use Rattle.settled.specs.Answers.{rest_from, expression_at, list_in, list_by, list_at, IsList}
use Rattle.settled.specs.declared.ListRange.{ListRange}
use Rattle.settled.specs.declared.ListFound.{ListFound}
use Rattle.settled.specs.declared.ListFound.TheVariants as list
use Rattle.settled.proofs.Laws.{from-none}

pub parts_are : (k p : ℕ) (s : Scheme) (h : Option HostKind) (q : PortPart) → s ≡ scheme_bits (k % 2) → h ≡ host_bits (k / 2 % 4) → q ≡ port_bits (k / 8) p → record { scheme = s; host = h; port = q } ≡ parts_of k p
unfolding parts_of
parts_are k p s h q e f g = rw (e, f, g)

-- a byte at a place, 0 past the end
byte-at : (s : List ℕ) (i : ℕ) → head_of (drop i s) ≡ get_or s i 0
byte-at s i = go (leb (length s) i) refl
  where
    go : (b : Bool) → leb (length s) i ≡ b → head_of (drop i s) ≡ get_or s i 0
    go true t = head-out s i (leb-true (length s) i t) ∙ sym (get_or-eq_default s 0 (leb-true (length s) i t))
    go false t = head_in s i (leb-false (length s) i t)

pub word-is : (s : List ℕ) (i x y r : ℕ) → x ≡ head_of (drop i s) → y ≡ head_of (drop (i + 1) s) → r ≡ x + 256 * y → r ≡ word_at s i
word-is s i x y r e f g = rw (← (byte-at s i), ← (byte-at s (i + 1)), ← e, ← f) g

-- too few bytes for an expression
few : (i : ℕ) (l : List ℕ) → length l < 4 → expressions_from i l ≡ []
unfolding expressions_from
few zero l h = refl
few (suc i) [] h = refl
few (suc i) (a ∷ []) h = refl
few (suc i) (a ∷ b ∷ []) h = refl
few (suc i) (a ∷ b ∷ c ∷ []) h = refl
few (suc i) (a ∷ b ∷ c ∷ d ∷ l) h = absurd (omega arith)

-- four bytes at a place
four : (s : List ℕ) (p : ℕ) → p + 4 ≤ length s → drop p s ≡ get_or s p 0 ∷ get_or s (p + 1) 0 ∷ get_or s (p + 2) 0 ∷ get_or s (p + 3) 0 ∷ drop (p + 4) s
four s p h =
    let z0 : suc p ≡ p + 1 = omega arith in
    let z1 : suc (p + 1) ≡ p + 2 = omega arith in
    let z2 : suc (p + 2) ≡ p + 3 = omega arith in
    let z3 : suc (p + 3) ≡ p + 4 = omega arith in
    let h0 : p < length s = omega arith in
    let h1 : p + 1 < length s = omega arith in
    let h2 : p + 2 < length s = omega arith in
    let h3 : p + 3 < length s = omega arith in
    let d3 : drop (p + 3) s ≡ get_or s (p + 3) 0 ∷ drop (p + 4) s = rw z3 at (drop-cons s (p + 3) 0 h3) in
    let d2 : drop (p + 2) s ≡ get_or s (p + 2) 0 ∷ drop (p + 3) s = rw z2 at (drop-cons s (p + 2) 0 h2) in
    let d1 : drop (p + 1) s ≡ get_or s (p + 1) 0 ∷ drop (p + 2) s = rw z1 at (drop-cons s (p + 1) 0 h1) in
    let d0 : drop p s ≡ get_or s p 0 ∷ drop (p + 1) s = rw z0 at (drop-cons s p 0 h0) in
    d0 ∙ ap (λ (l : List ℕ). get_or s p 0 ∷ l) (d1 ∙ ap (λ (l : List ℕ). get_or s (p + 1) 0 ∷ l) (d2 ∙ ap (λ (l : List ℕ). get_or s (p + 2) 0 ∷ l) d3))

-- the end of a host, which may be cut
cut-take : (s : List ℕ) (q n e : ℕ) → e ≡ min (q + n) (length s) → q ≤ length s → take (e - q) (drop q s) ≡ take n (drop q s)
cut-take s q n e h g = go (leb (q + n) (length s)) refl
  where
    go : (b : Bool) → leb (q + n) (length s) ≡ b → take (e - q) (drop q s) ≡ take n (drop q s)
    go true t = let u : e - q ≡ n = omega (arith, leb-true (q + n) (length s) t) in rw u
    go false t =
        let u : length (drop q s) ≤ e - q = omega (arith, length-drop q s, leb-false (q + n) (length s) t) in
        let v : length (drop q s) ≤ n = omega (arith, length-drop q s, leb-false (q + n) (length s) t) in
        take_all (e - q) (drop q s) u ∙ sym (take_all n (drop q s) v)

cut-drop : (s : List ℕ) (q n e : ℕ) → e ≡ min (q + n) (length s) → drop e s ≡ drop n (drop q s)
cut-drop s q n e h = go (leb (q + n) (length s)) refl ∙ sym (drop-drop n q s)
  where
    go : (b : Bool) → leb (q + n) (length s) ≡ b → drop e s ≡ drop (q + n) s
    go true t = let u : e ≡ q + n = omega (arith, leb-true (q + n) (length s) t) in rw u
    go false t =
        let u : length s ≤ e = omega (arith, leb-false (q + n) (length s) t) in
        let v : length s ≤ q + n = omega (arith, leb-false (q + n) (length s) t) in
        drop_of_length-le s u ∙ sym (drop_of_length-le s v)

-- the expression at a place
module _ (s : List ℕ) (p : ℕ) where
  at-end : length s < p + 4 → None ≡ expression_at s p
  unfolding expression_at pick
  at-end h = rw (lt-ltb (length s) (p + 4) h)

  end-says : length s < p + 4 → (i : ℕ) → expressions_from (suc i) (drop p s) ≡ []
  end-says h i = few (suc i) (drop p s) (omega (arith, length-drop p s))

  pub at-past : length s < p → None ≡ expression_at s p
  at-past h = at-end (omega arith)

  pub past-says : length s < p → (i : ℕ) → expressions_from (suc i) (drop p s) ≡ []
  past-says h i = end-says (omega arith) i

  pub at-few : length s - p < 4 → None ≡ expression_at s p
  at-few h = at-end (omega arith)

  pub few-says : length s - p < 4 → (i : ℕ) → expressions_from (suc i) (drop p s) ≡ []
  few-says h i = end-says (omega arith) i

  module _ (fits : 4 ≤ length s - p) (n w to : ℕ) (parts : ExpressionParts) (u : n ≡ get_or s (p + 1) 0) (v : w ≡ word (get_or s (p + 2) 0) (get_or s (p + 3) 0)) (e : to ≡ min (p + 4 + n) (length s)) (q : parts ≡ parts_of (get_or s p 0) w) where
    h : p + 4 ≤ length s
    h = omega arith

    word-there : w ≡ word_at s (p + 2)
    word-there = let z : p + 2 + 1 ≡ p + 3 = omega arith in rw z v

    pub at_some : Some (record { parts = parts; host = record { from = p + 4; to = to } }) ≡ expression_at s p
    unfolding expression_at pick
    at_some = rw (le-ltb (length s) (p + 4) h, ← word-there, q, e, u)

    pub some-says : (i : ℕ) → expressions_from (suc i) (drop p s) ≡ rest_from i s (Some (record { parts = parts; host = record { from = p + 4; to = to } }))
    unfolding expressions_from
    some-says i =
        let g : to ≡ min (p + 4 + get_or s (p + 1) 0) (length s) = rw u at e in
        let c : part_of s (p + 4) to ≡ take (get_or s (p + 1) 0) (drop (p + 4) s) = sym (part-in s (p + 4) to (omega (arith, h)) (omega arith)) ∙ cut-take s (p + 4) (get_or s (p + 1) 0) to g h in
        rw (four s p h, c, cut-drop s (p + 4) (get_or s (p + 1) 0) to g, q, v)

-- no expression, where none is asked for or none is there
pub none-asked : (n : ℕ) (l : List ℕ) → n ≡ 0 → expressions_from n l ≡ []
none-asked n l e = rw e (from-none l)

pub none-there : (n : ℕ) (l : List ℕ) → (n ≡ 0 → ⊥) → ((i : ℕ) → expressions_from (suc i) l ≡ []) → expressions_from n l ≡ []
none-there n l z h = let e : n ≡ suc (n - 1) = omega arith in rw e (h (n - 1))

-- a list admits a tuple origin where one of its expressions does
pub any-listed : (es : List SourceExpression) (o : TupleOrigin) → any_admits es (tuple o) ≡ list_any (λ e. admits_tuple e o) es
any-listed [] o = any-nil (tuple o)
any-listed (e ∷ es) o = any-cons e es (tuple o) ∙ rw (admits-tuple e o, any-listed es o)

-- a list's expressions, by the origin that is asked about
module _ (es : List SourceExpression) (t : List ℕ) (o : OriginRange) where
  pub ask-tuple : (r : TupleRange) (h : List ℕ) (R : Bool) → o ≡ range.Tuple r → h ≡ part_in t r.host → R ≡ any_admits es (tuple (tuple_by r.parts h)) → R ≡ any_admits es (origin_in t o)
  ask-tuple r h R e m w = rw (e, ← m) w

  pub ask-opaque : (n : ℕ) → o ≡ range.Opaque n → false ≡ any_admits es (origin_in t o)
  ask-opaque n e = rw e (sym (sources-opaque es n))

  pub ask-fresh : o ≡ range.Fresh → false ≡ any_admits es (origin_in t o)
  ask-fresh e = rw e (sym (sources_fresh es))

-- a feature's list, by its mark
module _ (d : List ℕ) (n : ℕ) where
  pub list-none : feature_count ≤ n → IsList d n None
  unfolding declared_in list_at pick
  list-none h = record { says = rw (le-ltb n feature_count h); is = rw (le-ltb n feature_count h) }

  module _ (h : n < feature_count) (mark : ℕ) (m : mark ≡ head_of (drop (entry_bytes * n) d)) where
    marked-at : get_or d (entry_bytes * n) 0 ≡ mark
    marked-at = sym (byte-at d (entry_bytes * n)) ∙ sym m

    pub list-undeclared : mark ≡ 0 → IsList d n None
    unfolding declared_in entry_declares marked list_at list_by pick
    list-undeclared z = record { says = rw (lt-ltb n feature_count h, marked-at, eq-eqb mark 0 z); is = rw (lt-ltb n feature_count h, marked-at, eq-eqb mark 0 z) }

    module _ (z : mark ≡ 0 → ⊥) where
      pub list_all : mark ≡ 1 → IsList d n (Some list.All)
      unfolding declared_in entry_declares marked list_at list_by pick
      list_all u =
          record {
            says = rw (lt-ltb n feature_count h, marked-at, ne_eqb mark 0 z, eq-eqb mark 1 u) (ap Some (list-star (eqb mark 3) false (expressions_from (entry_in d (entry_bytes * n)).count (drop (entry_in d (entry_bytes * n)).start (drop head_bytes d)))));
            is = rw (lt-ltb n feature_count h, marked-at, ne_eqb mark 0 z, eq-eqb mark 1 u);
          }

      pub list-listed : (mark ≡ 1 → ⊥) → (a b : ℕ) → a ≡ word_at d (entry_bytes * n + 1) → b ≡ word_at d (entry_bytes * n + 3) → IsList d n (Some (list.Listed (record { own = eqb mark 3; at = head_bytes + a; count = b })))
      unfolding declared_in entry_declares marked list_at list_by pick
      list-listed u a b e f =
          record {
            says = rw (lt-ltb n feature_count h, marked-at, ne_eqb mark 0 z, ne_eqb mark 1 u, ← e, ← f, drop-drop a head_bytes d) (ap Some (list-parts (eqb mark 3) false (expressions_from b (drop (head_bytes + a) d))));
            is = rw (lt-ltb n feature_count h, marked-at, ne_eqb mark 0 z, ne_eqb mark 1 u, e, f);
          }

-- whether it admits an origin
module _ (d : List ℕ) (n : ℕ) (same : Bool) (o : Origin) (r : Option ListFound) (is : declared_in d n ≡ list_in d r) where
  pub admits-undeclared : r ≡ None → None ≡ some_admits (declared_in d n) same false o
  admits-undeclared k = rw (is, k, none-admits same false o)

  pub admits-all : (i : ListFound) → r ≡ Some i → i ≡ list.All → (Some true) ≡ some_admits (declared_in d n) same false o
  admits-all i k j = rw (is, k, j, some-admits all same false o, all-admits same false o)

  module _ (l : ListRange) (i : ListFound) (k : r ≡ Some i) (j : i ≡ list.Listed l) where
    parts : some_admits (declared_in d n) same false o ≡ Some (l.own && same || false || any_admits (expressions_from l.count (drop l.at d)) o)
    parts = rw (is, k, j, some-admits (listed l.own false (expressions_from l.count (drop l.at d))) same false o) (ap Some (listed-admits l.own false (expressions_from l.count (drop l.at d)) same false o))

    pub admits-own : l.own && same ≡ true → (Some true) ≡ some_admits (declared_in d n) same false o
    admits-own t = rw (parts, t)

    pub admits-listed : l.own && same ≡ false → (b : Bool) → b ≡ any_admits (expressions_from l.count (drop l.at d)) o → Some b ≡ some_admits (declared_in d n) same false o
    admits-listed t b e = rw (parts, t, ← e)

-- a document at a place of a run
pub at_place : (s : List ℕ) (at p n : ℕ) (same : Bool) (o : Origin) (r : Option Bool) → p ≡ min at (length s) → r ≡ some_admits (declared_in (take (length s - p) (drop p s)) n) same false o → r ≡ some_admits (declared_in (drop at s) n) same false o
at_place s at p n same o r e h =
    let a : take (length s - p) (drop p s) ≡ drop p s = take_all (length s - p) (drop p s) (omega (arith, length-drop p s)) in
    let b : drop p s ≡ drop at s = place-drop s at p e in
    rw (← b) (rw a at h)
