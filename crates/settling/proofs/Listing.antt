-- Items written one after the other, and the marks of lists. Assumes nothing.
use mathlib.Core.Path.{◌≡◌, refl, ap, ◌∙◌, sym}
use Prim.Native.Nat.{ℕ, ◌+◌, ◌≤◌}
use mathlib.Core.List.{List, [], ◌∷◌, ◌++◌, map, append_assoc, append-nil}
use mathlib.Core.Bool.{Bool, true, false, not, ◌&&◌, ◌||◌}
use Rattle.std.specs.Prelude.{Option, Some, None}
use native.Mathlib.Omega.{arith}
use lib.ListN.{length, length-append}
use lib.Dec.{eqb}
use Rattle.ascii.specs.Bytes.{pick}
use Rattle.ascii.specs.Texts.{part_in}
use Rattle.ascii.proofs.Bytes.{or-false, or-true}
use Rattle.ascii.proofs.Clash.{clash}
use Rattle.origins.specs.Expressions.{HostPart, SourceExpression}
use Rattle.origins.specs.Expressions.HostPart.{no_host, any_host, exact_host, subdomains_of}
use Rattle.origins.specs.NormalForms.{GoodExpression, GoodHost, GoodPort}
use Rattle.origins.specs.Answers.{expression_in}
use Rattle.origins.specs.declared.ExpressionRange.{ExpressionRange}
use Rattle.origins.specs.declared.PortPart.{PortPart}
use Rattle.origins.specs.declared.PortPart.TheVariants.{Default, Any, Number}
use Rattle.origins.proofs.Laws.{expression-good, host-most}
use Rattle.items.specs.Items.{Item}
use Rattle.items.specs.Found.{item_in}
use Rattle.items.specs.declared.ItemFound.{ItemFound}
use Rattle.items.specs.declared.ItemRange.{ItemRange}
use Rattle.dictionaries.specs.Lookup.{cursor_at, items_from, value_in}
use Rattle.dictionaries.specs.declared.MemberValue.{MemberValue}
use Rattle.dictionaries.specs.declared.ValueRange.TheVariants as range_of
use Rattle.dictionaries.proofs.Laws.{items-item, items-end, value-item, value-list}
use Rattle.allowlists.specs.Allowlists.{Allowlist, Meaning, is_star, is_self, with_source, has_star, has_self, sources_of, allowlist_of}
use Rattle.allowlists.specs.Allowlists.Meaning.{star, self, src, source, nothing}
use Rattle.allowlists.specs.Answers.{meaning_as, meaning_in}
use Rattle.allowlists.specs.declared.MeaningRange.{MeaningRange}
use Rattle.allowlists.specs.declared.MeaningRange.TheVariants as range
use Rattle.allowlists.proofs.Laws.{star-all, no-star, has-nil, has-cons, sources-nil, sources-cons, with-star, with-self, with_nothing, with-source, with_append}
use Rattle.allowlists.proofs.Meanings.{told-star, told-self, told-src, told-nothing}
use Rattle.declarations.specs.Declarations.{item_meaning, lone_declares}
use Rattle.declarations.proofs.Meanings.{item-in, source-item, item-no-src}
use Rattle.declarations.proofs.Laws.{value-one, value-many, lone-nothing, Lone, lone-cases}
use Rattle.declarations.proofs.Laws.Lone.{ignored, counted}
use Rattle.settling.specs.Writing.{host_text, port_value, expression_bytes, expressions_bytes, value_sources, mark_of}
use Rattle.settling.specs.Steps.{Packable, Wrote, ItemPut, ListPut, list_mark, lone_mark, ValuePut}
use Rattle.settling.specs.declared.Listed.{Listed}
use Rattle.settling.proofs.Writes.{wrote_none, wrote_on, wrote_as, bytes_on, bytes-many, one-bytes, no_bytes}

-- an expression that a text is fits the settled form
good-host : (x : HostPart) (p : PortPart) → GoodHost x p → length (host_text x) ≤ 255
good-host no_host p g = omega arith
good-host any_host p g = omega arith
good-host (exact_host h) p g = omega (arith, host-most h g)
good-host (subdomains_of h) p g = omega (arith, host-most h g)

good-port : (p : PortPart) → GoodPort p → port_value p ≤ 65535
good-port Default g = omega arith
good-port Any g = omega arith
good-port (Number n) g = g

good-packs : (e : SourceExpression) → GoodExpression e → Packable e
good-packs e g = record { host = good-host e.host e.port g.host; port = good-port e.port g.port }

-- a meaning that adds no expression
put-nothing : (x : Meaning) (l : List ℕ) (n : Listed) (a b : Bool) → with_source x [] ≡ [] → a ≡ n.all || is_star x → b ≡ n.own || is_self x → ItemPut x l n l (record { written = n.written; all = a; own = b })
put-nothing x l n a b e f g = record { wrote = rw (e, no_bytes) (wrote_none l n.written.to); count = omega (arith, ap length e); all = f; own = g }

-- an item, by its meaning
module _ (s : List ℕ) (p : ItemRange) (r : Option MeaningRange) (h : r ≡ meaning_as (item_meaning (item_in s p))) where
  pub item-all : (l : List ℕ) (n : Listed) → r ≡ Some range.All → ItemPut (item_meaning (item_in s p)) l n l (record { written = n.written; all = true; own = n.own })
  item-all l n k = rw (told-star (item_meaning (item_in s p)) r h k) (put-nothing star l n true n.own (with-star []) (sym (or-true n.all)) (sym (or-false n.own)))

  pub item-self : (l : List ℕ) (n : Listed) → r ≡ Some range.SelfOrigin → ItemPut (item_meaning (item_in s p)) l n l (record { written = n.written; all = n.all; own = true })
  item-self l n k = rw (told-self (item_meaning (item_in s p)) r h k) (put-nothing self l n n.all true (with-self []) (sym (or-false n.all)) (sym (or-true n.own)))

  pub item-src : (l : List ℕ) (n : Listed) → r ≡ Some range.SrcOrigin → ItemPut (item_meaning (item_in s p)) l n l n
  item-src l n k = absurd (item-no-src (item_in s p) (told-src (item_meaning (item_in s p)) r h k))

  pub item-nothing : (l : List ℕ) (n : Listed) → r ≡ None → ItemPut (item_meaning (item_in s p)) l n l n
  item-nothing l n k = rw (told-nothing (item_meaning (item_in s p)) r h k) (put-nothing nothing l n n.all n.own (with_nothing []) (sym (or-false n.all)) (sym (or-false n.own)))

  module _ (e : ExpressionRange) (x : List ℕ) (m : x ≡ part_in s p.text) (k : r ≡ Some (range.Source e)) where
    means : item_meaning (item_in s p) ≡ source (expression_in x e)
    means = sym (item-in s p x r m h) ∙ ap (meaning_in x) k

    one-source : with_source (item_meaning (item_in s p)) [] ≡ expression_in x e ∷ []
    one-source = ap (λ (z : Meaning). with_source z []) means ∙ with-source (expression_in x e) []

    source-bytes : expressions_bytes (with_source (item_meaning (item_in s p)) []) ≡ expression_bytes (expression_in x e)
    source-bytes = ap expressions_bytes one-source ∙ one-bytes (expression_in x e)

    pub item_room : (l : List ℕ) (a : ℕ) → a + length (expressions_bytes (with_source (item_meaning (item_in s p)) [])) ≤ length l → a + length (expression_bytes (expression_in x e)) ≤ length l
    item_room l a g = omega (arith, ap length source-bytes)

    pub item-packs : Packable (expression_in x e)
    item-packs = let f = source-item (item_in s p) (expression_in x e) means in good-packs (expression_in x e) (expression-good f.0 (expression_in x e) f.2)

    pub item-source : (l l' : List ℕ) (n : Listed) (to : ℕ) → Wrote l n.written.to (expression_bytes (expression_in x e)) l' to → ItemPut (item_meaning (item_in s p)) l n l' (record { written = record { to = to; count = n.written.count + 1 }; all = n.all; own = n.own })
    item-source l l' n to w =
        record {
          wrote = wrote_as l l' n.written.to to (expression_bytes (expression_in x e)) (expressions_bytes (with_source (item_meaning (item_in s p)) [])) (sym source-bytes) w;
          count = omega (arith, ap length one-source);
          all = rw means (sym (or-false n.all));
          own = rw means (sym (or-false n.own));
        }

-- the meanings of the items from a cursor on
abbrev pub meanings_from : List ℕ → ℕ → List Meaning
meanings_from s c = map item_meaning (items_from s c)

-- items so far: the expressions that were passed, and those that are left
pub record Listing (s : List ℕ) (first c : ℕ) (l : List ℕ) (at : ℕ) (m : List ℕ) (n : Listed) : Type 0 where
  pub passed : List SourceExpression
  pub wrote : Wrote l at (expressions_bytes passed) m n.written.to
  pub count : n.written.count ≡ length passed
  pub left : passed ++ sources_of (meanings_from s c) ≡ sources_of (meanings_from s first)
  pub all : n.all || has_star (meanings_from s c) ≡ has_star (meanings_from s first)
  pub own : n.own || has_self (meanings_from s c) ≡ has_self (meanings_from s first)

pub listing_start : (s : List ℕ) (first : ℕ) (l : List ℕ) (at : ℕ) → Listing s first first l at l (record { written = record { to = at; count = 0 }; all = false; own = false })
listing_start s first l at = record { passed = []; wrote = rw no_bytes (wrote_none l at); count = refl; left = refl; all = refl; own = refl }

or_right : (a b c : Bool) → (a || b) || c ≡ a || (b || c)
or_right true b c = refl
or_right false b c = refl

pub listing-count : (s : List ℕ) (first c : ℕ) (l : List ℕ) (at : ℕ) (m : List ℕ) (n : Listed) → Listing s first c l at m n → n.written.count ≤ n.written.to
listing-count s first c l at m n g = omega (arith, g.wrote.end, g.count, bytes-many g.passed)

module _ (s : List ℕ) (first c : ℕ) (l : List ℕ) (at : ℕ) (m : List ℕ) (n : Listed) (g : Listing s first c l at m n) (r : Option ItemFound) (is : r ≡ cursor_at s c) where
  module _ (f : ItemFound) (e : r ≡ Some f) where
    next-meaning : meanings_from s c ≡ item_meaning (item_in s f.range) ∷ meanings_from s f.next
    next-meaning = ap (map item_meaning) (items-item s c r is f e)

    next-source : sources_of (meanings_from s c) ≡ with_source (item_meaning (item_in s f.range)) [] ++ sources_of (meanings_from s f.next)
    next-source = ap sources_of next-meaning ∙ (sources-cons (item_meaning (item_in s f.range)) (meanings_from s f.next) ∙ with_append (item_meaning (item_in s f.range)) (sources_of (meanings_from s f.next)))

    next-all : (g.passed ++ with_source (item_meaning (item_in s f.range)) []) ++ sources_of (meanings_from s f.next) ≡ sources_of (meanings_from s first)
    next-all = append_assoc g.passed (with_source (item_meaning (item_in s f.range)) []) (sources_of (meanings_from s f.next)) ∙ (ap (λ (z : List SourceExpression). g.passed ++ z) (sym next-source) ∙ g.left)

    pub listing-room : at + length (expressions_bytes (sources_of (meanings_from s first))) ≤ length l → n.written.to + length (expressions_bytes (with_source (item_meaning (item_in s f.range)) [])) ≤ length m
    listing-room room =
        let w = with_source (item_meaning (item_in s f.range)) [] in
        let b : length (expressions_bytes (sources_of (meanings_from s first))) ≡ length (expressions_bytes g.passed) + length (expressions_bytes w) + length (expressions_bytes (sources_of (meanings_from s f.next))) =
        ap (λ (z : List SourceExpression). length (expressions_bytes z)) (sym next-all)
        ∙ (ap length (bytes_on (g.passed ++ w) (sources_of (meanings_from s f.next))) ∙ omega (arith, length-append (expressions_bytes (g.passed ++ w)) (expressions_bytes (sources_of (meanings_from s f.next))), ap length (bytes_on g.passed w), length-append (expressions_bytes g.passed) (expressions_bytes w))) in
        omega (arith, g.wrote.end, g.wrote.long)

    pub listing-on : (m' : List ℕ) (n' : Listed) → ItemPut (item_meaning (item_in s f.range)) m n m' n' → Listing s first f.next l at m' n'
    listing-on m' n' u =
        let x = item_meaning (item_in s f.range) in
        let rest = meanings_from s f.next in
        let a : has_star (meanings_from s c) ≡ is_star x || has_star rest = ap has_star next-meaning ∙ has-cons is_star x rest in
        let o : has_self (meanings_from s c) ≡ is_self x || has_self rest = ap has_self next-meaning ∙ has-cons is_self x rest in
        record {
          passed = g.passed ++ with_source x [];
          wrote = rw (bytes_on g.passed (with_source x [])) (wrote_on l m m' at n.written.to n'.written.to (expressions_bytes g.passed) (expressions_bytes (with_source x [])) g.wrote u.wrote);
          count = omega (arith, u.count, g.count, length-append g.passed (with_source x []));
          left = next-all;
          all = rw (u.all, or_right n.all (is_star x) (has_star rest)) (rw a at g.all);
          own = rw (u.own, or_right n.own (is_self x) (has_self rest)) (rw o at g.own);
        }

  pub listing-end : r ≡ None → ListPut (meanings_from s first) l at m n
  listing-end e =
      let i : meanings_from s c ≡ [] = ap (map item_meaning) (items-end s c r is e) in
      let z : sources_of (meanings_from s c) ≡ [] = ap sources_of i ∙ sources-nil in
      let a : has_star (meanings_from s c) ≡ false = ap has_star i ∙ has-nil is_star in
      let o : has_self (meanings_from s c) ≡ false = ap has_self i ∙ has-nil is_self in
      let w : g.passed ≡ sources_of (meanings_from s first) = sym (append-nil g.passed) ∙ (rw z at g.left) in
      record {
        wrote = rw w at g.wrote;
        count = g.count ∙ ap length w;
        all = sym (or-false n.all) ∙ (rw a at g.all);
        own = sym (or-false n.own) ∙ (rw o at g.own);
      }

-- marks
pub mark-none : (a b : Bool) (n : ℕ) → not a && not b && eqb n 0 ≡ true → 0 ≡ lone_mark a b n
unfolding pick
mark-none a b n e = rw e

pub mark-lone : (a b : Bool) (n r : ℕ) → not a && not b && eqb n 0 ≡ false → r ≡ list_mark a b → r ≡ lone_mark a b n
unfolding pick
mark-lone a b n r e f = rw e f

list-marked : (ms : List Meaning) → list_mark (has_star ms) (has_self ms) ≡ mark_of (Some (allowlist_of ms))
list-marked ms = go (has_star ms) refl (has_self ms) refl
  where
    go : (a : Bool) → has_star ms ≡ a → (b : Bool) → has_self ms ≡ b → list_mark a b ≡ mark_of (Some (allowlist_of ms))
    go true e b f = unfold mark_of in (rw (star-all ms e))
    go false e true f = unfold mark_of in (rw (no-star ms e, f))
    go false e false f = unfold mark_of in (rw (no-star ms e, f))

-- an item that adds nothing to a list declares nothing alone; another has the mark of its list
lone-marked : (x : Item) → lone_mark (is_star (item_meaning x)) (is_self (item_meaning x)) (length (with_source (item_meaning x) [])) ≡ mark_of (lone_declares (item_meaning x))
lone-marked x = go (item_meaning x) (item-no-src x)
  where
    counts : (m : Meaning) (o : Option Allowlist) → Lone m o → (m ≡ nothing → ⊥) → o ≡ Some (allowlist_of (m ∷ []))
    counts m None (ignored k) d = absurd (d k)
    counts m (Some l) counted d = refl

    list : (m : Meaning) → (m ≡ nothing → ⊥) → list_mark (is_star m || false) (is_self m || false) ≡ mark_of (lone_declares m)
    list m d = (rw (has-cons is_star m [], has-cons is_self m [], has-nil is_star, has-nil is_self) at (list-marked (m ∷ []))) ∙ ap mark_of (sym (counts m (lone_declares m) (lone-cases m) d))

    go : (m : Meaning) → (m ≡ src → ⊥) → lone_mark (is_star m) (is_self m) (length (with_source m [])) ≡ mark_of (lone_declares m)
    go star d = unfold pick in (list star (λ e. clash cc))
    go self d = unfold pick in (list self (λ e. clash cc))
    go src d = absurd (d refl)
    go (source e) d = unfold pick in (rw (with-source e []) (list (source e) (λ k. clash cc)))
    go nothing d = unfold mark_of pick in (rw (lone-nothing, with_nothing []) refl)

-- a value, by its cases
module _ (s : List ℕ) (v : MemberValue) where
  module _ (q : ItemRange) (k : v.range ≡ range_of.Item q) where
    one-sources : value_sources (value_in s v) ≡ with_source (item_meaning (item_in s q)) []
    one-sources = ap value_sources (value-item s v q k) ∙ (sources-cons (item_meaning (item_in s q)) [] ∙ ap (with_source (item_meaning (item_in s q))) sources-nil)

    pub lone_room : (l : List ℕ) (at : ℕ) → at + length (expressions_bytes (value_sources (value_in s v))) ≤ length l → at + length (expressions_bytes (with_source (item_meaning (item_in s q)) [])) ≤ length l
    lone_room l at g = rw one-sources at g

    pub lone-put : (l l' : List ℕ) (at mark : ℕ) (n : Listed) → ItemPut (item_meaning (item_in s q)) l (record { written = record { to = at; count = 0 }; all = false; own = false }) l' n → mark ≡ lone_mark n.all n.own n.written.count → ValuePut (value_in s v) l at l' (record { written = n.written; mark = mark })
    lone-put l l' at mark n u e =
        let x = item_in s q in
        let c : n.written.count ≡ length (with_source (item_meaning x) []) = omega (arith, u.count) in
        record {
          wrote = rw one-sources u.wrote;
          count = rw one-sources c;
          mark = e ∙ (rw (u.all, u.own, c, value-item s v q k, value-one x) (lone-marked x));
        }

  module _ (q : ℕ) (k : v.range ≡ range_of.List q) where
    many-sources : value_sources (value_in s v) ≡ sources_of (meanings_from s q)
    many-sources = ap value_sources (value-list s v q k)

    pub list-room : (l : List ℕ) (at : ℕ) → at + length (expressions_bytes (value_sources (value_in s v))) ≤ length l → at + length (expressions_bytes (sources_of (meanings_from s q))) ≤ length l
    list-room l at g = rw many-sources at g

    pub list_put : (l l' : List ℕ) (at mark : ℕ) (n : Listed) → ListPut (meanings_from s q) l at l' n → mark ≡ list_mark n.all n.own → ValuePut (value_in s v) l at l' (record { written = n.written; mark = mark })
    list_put l l' at mark n u e =
        record {
          wrote = rw many-sources u.wrote;
          count = rw many-sources u.count;
          mark = e ∙ (rw (u.all, u.own, value-list s v q k, value-many (items_from s q)) (list-marked (meanings_from s q)));
        }
