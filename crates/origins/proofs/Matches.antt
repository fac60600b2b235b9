-- Matching by parts and comparing origins, case by case, as the code does. Assumes nothing.
use mathlib.Core.Path.{◌≡◌, refl, ◌∙◌, sym}
use Prim.Native.Nat.{ℕ}
use mathlib.Core.List.{List, ◌∷◌}
use mathlib.Core.Bool.{Bool, true, false, not, ◌&&◌}
use lib.Dec.{eqb}
use Rattle.std.specs.Prelude.{Some, None}
use borrow.Author.Tests.{not-true, not-false}
use Rattle.ascii.specs.Texts.{each, lowered, same_by, same_bytes, part_in}
use Rattle.origins.specs.Matching.{same_scheme, scheme_admits, ends_in, port_admits, host_admits, admits_tuple, admits, same_tuple, same_origin}
use Rattle.origins.specs.Answers.{host_in, expression_in, tuple_in, origin_in, expression_by, tuple_by}
use denote.Enum.Bare.{sameb}
use Rattle.ascii.proofs.Clash.{clash}
use Rattle.ascii.proofs.Texts.{same-each}
use Rattle.origins.specs.contracts.Scheme.{the_type as scheme_type}
use Rattle.origins.specs.Origins.Origin.{tuple, opaque}
use Rattle.origins.specs.declared.Scheme.{Scheme}
use Rattle.origins.specs.declared.Scheme.TheVariants.{Http, Https}
use Rattle.origins.specs.declared.ExpressionParts.{ExpressionParts}
use Rattle.origins.specs.declared.TupleParts.{TupleParts}
use Rattle.origins.specs.declared.TupleRange.{TupleRange}
use Rattle.origins.specs.declared.ExpressionRange.{ExpressionRange}
use Rattle.origins.specs.declared.OriginRange.{OriginRange}
use Rattle.origins.specs.declared.OriginRange.TheVariants as range
use Rattle.origins.specs.declared.HostKind.{HostKind}
use Rattle.origins.specs.declared.HostKind.TheVariants as kind
use Rattle.origins.proofs.Steps.{each-as-is}

-- an expression and an origin by their parts
module _ (f : ℕ → ℕ) (e : ExpressionParts) (o : TupleParts) (x h : List ℕ) (a : Bool) (u : a ≡ scheme_admits e.scheme o.scheme) where
  pub match-scheme : not a ≡ true → false ≡ admits_tuple (expression_by e (each f x)) (tuple_by o h)
  unfolding admits_tuple
  match-scheme v = rw (← u, not-true a v)

  module _ (v : not a ≡ false) where
    at-host : admits_tuple (expression_by e (each f x)) (tuple_by o h) ≡ host_admits (host_in e.host (each f x)) e.port (tuple_by o h)
    unfolding admits_tuple
    at-host = rw (← u, not-false a v)

    pub match_none : e.host ≡ None → true ≡ admits_tuple (expression_by e (each f x)) (tuple_by o h)
    unfolding host_admits
    match_none k = rw (at-host, k)

    module _ (r : Bool) (p : r ≡ port_admits e.port o.scheme o.port) where
      pub match-any : (i : HostKind) → e.host ≡ Some i → i ≡ kind.Any → r ≡ admits_tuple (expression_by e (each f x)) (tuple_by o h)
      unfolding host_admits
      match-any i k j = rw (at-host, k, j) p

      pub match-exact : (b : Bool) → b ≡ same_by f x h → (i : HostKind) → e.host ≡ Some i → i ≡ kind.Exact → b ≡ true → r ≡ admits_tuple (expression_by e (each f x)) (tuple_by o h)
      unfolding host_admits
      match-exact b w i k j z = rw (at-host, k, j, ← (same-each f x h), ← w, z) p

      pub match-subdomain : (b : Bool) → b ≡ ends_in (46 ∷ each f x) h → (i : HostKind) → e.host ≡ Some i → i ≡ kind.Subdomains → b ≡ true → r ≡ admits_tuple (expression_by e (each f x)) (tuple_by o h)
      unfolding host_admits
      match-subdomain b w i k j z = rw (at-host, k, j, ← w, z) p

    pub match-other : (b : Bool) → b ≡ same_by f x h → (i : HostKind) → e.host ≡ Some i → i ≡ kind.Exact → b ≡ false → false ≡ admits_tuple (expression_by e (each f x)) (tuple_by o h)
    unfolding host_admits
    match-other b w i k j z = rw (at-host, k, j, ← (same-each f x h), ← w, z)

    pub match-outside : (b : Bool) → b ≡ ends_in (46 ∷ each f x) h → (i : HostKind) → e.host ≡ Some i → i ≡ kind.Subdomains → b ≡ false → false ≡ admits_tuple (expression_by e (each f x)) (tuple_by o h)
    unfolding host_admits
    match-outside b w i k j z = rw (at-host, k, j, ← w, z)

-- hosts in lower case, and hosts in any case that ranges of texts say
pub match-as-is : (e : ExpressionParts) (o : TupleParts) (x h : List ℕ) (r : Bool) → r ≡ admits_tuple (expression_by e (each (λ b. b) x)) (tuple_by o h) → r ≡ admits_tuple (expression_by e x) (tuple_by o h)
match-as-is e o x h r w = rw (each-as-is x) at w

pub match-ranges : (s t : List ℕ) (e : ExpressionRange) (o : TupleRange) (x h : List ℕ) → x ≡ part_in s e.host → h ≡ part_in t o.host → (r : Bool) → r ≡ admits_tuple (expression_by e.parts (lowered x)) (tuple_by o.parts h) → r ≡ admits_tuple (expression_in s e) (tuple_in t o)
match-ranges s t e o x h m n r w = rw (← m, ← n) w

module _ (s t : List ℕ) (e : ExpressionRange) (o : OriginRange) where
  pub admits-by-tuple : (x : TupleRange) (r : Bool) → r ≡ admits_tuple (expression_in s e) (tuple_in t x) → o ≡ range.Tuple x → r ≡ admits (expression_in s e) (origin_in t o)
  unfolding admits
  admits-by-tuple x r h k = rw k h

  pub admits-opaque : (n : ℕ) → o ≡ range.Opaque n → false ≡ admits (expression_in s e) (origin_in t o)
  unfolding admits
  admits-opaque n k = rw k

  pub admits-fresh : o ≡ range.Fresh → false ≡ admits (expression_in s e) (origin_in t o)
  unfolding admits
  admits-fresh k = rw k

-- two schemes compared, and a scheme and a port at once
pub schemes-same : (k j : Scheme) → sameb scheme_type k j ≡ same_scheme k j
schemes-same Http Http = refl
schemes-same Http Https = refl
schemes-same Https Http = refl
schemes-same Https Https = refl

pub https-admits : (k j : Scheme) (r : Bool) → k ≡ Https → r ≡ sameb scheme_type k j → r ≡ scheme_admits k j
unfolding scheme_admits
https-admits k j r e w = rw e (w ∙ schemes-same k j ∙ rw e)

module _ (s t : List ℕ) (x y : TupleRange) (a : Bool) (u : a ≡ sameb scheme_type x.parts.scheme y.parts.scheme && eqb x.parts.port y.parts.port) where
  apart : (p q r : Bool) → p && r ≡ false → p && q && r ≡ false
  apart true true r e = e
  apart true false r e = refl
  apart false q r e = refl

  alike : (p q r : Bool) → p && r ≡ true → p && q && r ≡ q
  alike true true r e = e
  alike true false r e = refl
  alike false q r e = clash cc

  both : (b : Bool) → a ≡ b → same_scheme x.parts.scheme y.parts.scheme && eqb x.parts.port y.parts.port ≡ b
  both b e = rw (schemes-same x.parts.scheme y.parts.scheme) at (sym u ∙ e)

  pub tuples-apart : a ≡ false → a ≡ same_tuple (tuple_in s x) (tuple_in t y)
  unfolding same_tuple
  tuples-apart e = e ∙ sym (apart (same_scheme x.parts.scheme y.parts.scheme) (same_bytes (part_in s x.host) (part_in t y.host)) (eqb x.parts.port y.parts.port) (both false e))

  pub tuples-hosts : a ≡ true → (f h : List ℕ) (b : Bool) → f ≡ part_in s x.host → h ≡ part_in t y.host → b ≡ same_bytes f h → b ≡ same_tuple (tuple_in s x) (tuple_in t y)
  unfolding same_tuple
  tuples-hosts e f h b m n w =
      let z : b ≡ same_bytes (part_in s x.host) (part_in t y.host) = rw (m, n) at w in
      z ∙ sym (alike (same_scheme x.parts.scheme y.parts.scheme) (same_bytes (part_in s x.host) (part_in t y.host)) (eqb x.parts.port y.parts.port) (both true e))

-- two origins compared
module _ (s t : List ℕ) (x y : OriginRange) where
  pub same-tuples : (a b : TupleRange) (r : Bool) → r ≡ same_tuple (tuple_in s a) (tuple_in t b) → x ≡ range.Tuple a → y ≡ range.Tuple b → r ≡ same_origin (origin_in s x) (origin_in t y)
  unfolding same_origin
  same-tuples a b r h k j = rw (k, j) h

  pub opaques : (m n : ℕ) → x ≡ range.Opaque m → y ≡ range.Opaque n → eqb m n ≡ same_origin (origin_in s x) (origin_in t y)
  unfolding same_origin
  opaques m n k j = rw (k, j)

  pub tuple-other : (a : TupleRange) → x ≡ range.Tuple a → ((b : TupleRange) → y ≡ range.Tuple b → ⊥) → false ≡ same_origin (origin_in s x) (origin_in t y)
  unfolding same_origin
  tuple-other a k h = rw k (elim y as (λ z. ((b : TupleRange) → z ≡ range.Tuple b → ⊥) → false ≡ same_origin (tuple (tuple_in s a)) (origin_in t z)) [ range.Tuple b ↦ λ g. absurd (g b refl) | range.Opaque n ↦ λ g. refl | range.Fresh ↦ λ g. refl ] h)

  pub opaque-other : (m : ℕ) → x ≡ range.Opaque m → ((n : ℕ) → y ≡ range.Opaque n → ⊥) → false ≡ same_origin (origin_in s x) (origin_in t y)
  unfolding same_origin
  opaque-other m k h = rw k (elim y as (λ z. ((n : ℕ) → z ≡ range.Opaque n → ⊥) → false ≡ same_origin (opaque m) (origin_in t z)) [ range.Tuple b ↦ λ g. refl | range.Opaque n ↦ λ g. absurd (g n refl) | range.Fresh ↦ λ g. refl ] h)

  pub fresh-any : x ≡ range.Fresh → false ≡ same_origin (origin_in s x) (origin_in t y)
  unfolding same_origin
  fresh-any k = rw k
