-- Comparing normal forms, in the terms of the code. Assumes nothing.
use mathlib.Core.Path.{◌≡◌, refl, ap, ◌∙◌, sym}
use Prim.Native.Nat.{ℕ}
use mathlib.Core.List.{List}
use mathlib.Core.Bool.{Bool, true, false, ◌&&◌, and-true}
use Rattle.std.specs.Prelude.{Option, Some, None}
use borrow.Author.Tests.{eqb-true, eq-eqb}
use Rattle.origins.proofs.Parts.{scheme-is, scheme-self}
use Rattle.ascii.proofs.Clash.{clash}
use Rattle.ascii.proofs.Bytes.{and-false}
use Rattle.ascii.specs.Bytes.{pick}
use Rattle.ascii.specs.Texts.{same_bytes}
use Rattle.origins.specs.Matching.{same_scheme}
use Rattle.origins.specs.NormalForms.{is_dropped, normal_port, normal, same_host, same_port, same_expression}
use Rattle.origins.specs.Expressions.{HostPart}
use Rattle.origins.specs.Expressions.HostPart.{no_host, any_host, exact_host, subdomains_of}
use Rattle.origins.specs.Answers.{expression_by, host_in, host_kind}
use Rattle.origins.specs.declared.Scheme.{Scheme}
use Rattle.origins.specs.declared.PortPart.{PortPart}
use Rattle.origins.specs.declared.PortPart.TheVariants.{Default, Any, Number}
use Rattle.origins.specs.declared.HostKind.{HostKind}
use Rattle.origins.specs.declared.HostKind.TheVariants as kind
use Rattle.origins.specs.declared.ExpressionParts.{ExpressionParts}

-- the port of a normal form, case by case
module _ (k : Scheme) (p : PortPart) where
  pub normal-other : ((n : ℕ) → p ≡ Number n → ⊥) → p ≡ normal_port k p
  unfolding normal_port
  normal-other h = elim p as (λ q. ((n : ℕ) → q ≡ Number n → ⊥) → q ≡ normal_port k q) [ Default ↦ λ g. refl | Any ↦ λ g. refl | Number n ↦ λ g. absurd (g n refl) ] h

  pub normal-dropped : (n : ℕ) (d : Bool) → d ≡ is_dropped k n → d ≡ true → p ≡ Number n → Default ≡ normal_port k p
  unfolding normal_port pick
  normal-dropped n d u v e = rw (e, ← u, v)

  pub normal-kept : (n : ℕ) (d : Bool) → d ≡ is_dropped k n → d ≡ false → p ≡ Number n → Number n ≡ normal_port k p
  unfolding normal_port pick
  normal-kept n d u v e = rw (e, ← u, v)

-- two ports
pub ports-is : (p q : PortPart) → same_port p q ≡ true → p ≡ q
unfolding same_port
ports-is Default Default e = refl
ports-is Default Any e = clash cc
ports-is Default (Number n) e = clash cc
ports-is Any Default e = clash cc
ports-is Any Any e = refl
ports-is Any (Number n) e = clash cc
ports-is (Number m) Default e = clash cc
ports-is (Number m) Any e = clash cc
ports-is (Number m) (Number n) e = ap Number (eqb-true m n e)

pub port-self : (p : PortPart) → same_port p p ≡ true
unfolding same_port
port-self Default = refl
port-self Any = refl
port-self (Number n) = eq-eqb n n refl

-- two hosts of one kind
module _ (k : Option HostKind) (x y : List ℕ) where
  pub hosts-none : k ≡ None → true ≡ same_host (host_in k x) (host_in k y)
  unfolding same_host
  hosts-none e = rw e

  pub hosts-any : (i : HostKind) → k ≡ Some i → i ≡ kind.Any → true ≡ same_host (host_in k x) (host_in k y)
  unfolding same_host
  hosts-any i e j = rw (e, j)

  pub hosts-exact : (r : Bool) → (i : HostKind) → k ≡ Some i → i ≡ kind.Exact → r ≡ same_bytes x y → r ≡ same_host (host_in k x) (host_in k y)
  unfolding same_host
  hosts-exact r i e j l = rw (e, j) l

  pub hosts-subdomains : (r : Bool) → (i : HostKind) → k ≡ Some i → i ≡ kind.Subdomains → r ≡ same_bytes x y → r ≡ same_host (host_in k x) (host_in k y)
  unfolding same_host
  hosts-subdomains r i e j l = rw (e, j) l

-- hosts of two kinds differ
other-kind : (a b : HostPart) → (host_kind a ≡ host_kind b → ⊥) → same_host a b ≡ false
unfolding same_host
other-kind no_host no_host d = absurd (d refl)
other-kind no_host any_host d = refl
other-kind no_host (exact_host y) d = refl
other-kind no_host (subdomains_of y) d = refl
other-kind any_host no_host d = refl
other-kind any_host any_host d = absurd (d refl)
other-kind any_host (exact_host y) d = refl
other-kind any_host (subdomains_of y) d = refl
other-kind (exact_host x) no_host d = refl
other-kind (exact_host x) any_host d = refl
other-kind (exact_host x) (exact_host y) d = absurd (d refl)
other-kind (exact_host x) (subdomains_of y) d = refl
other-kind (subdomains_of x) no_host d = refl
other-kind (subdomains_of x) any_host d = refl
other-kind (subdomains_of x) (exact_host y) d = refl
other-kind (subdomains_of x) (subdomains_of y) d = absurd (d refl)

kind-back : (k : Option HostKind) (h : List ℕ) → host_kind (host_in k h) ≡ k
kind-back None h = refl
kind-back (Some kind.Any) h = refl
kind-back (Some kind.Exact) h = refl
kind-back (Some kind.Subdomains) h = refl

-- two expressions by their normal forms, test by test
module _ (x y : List ℕ) (e f : ExpressionParts) where
  by_tests : same_expression (normal (expression_by e x)) (normal (expression_by f y)) ≡ same_scheme e.scheme f.scheme && same_port (normal_port e.scheme e.port) (normal_port f.scheme f.port) && same_host (host_in e.host x) (host_in f.host y)
  unfolding same_expression normal
  by_tests = refl

  pub kind-differs : (e.host ≡ f.host → ⊥) → false ≡ same_expression (normal (expression_by e x)) (normal (expression_by f y))
  kind-differs d =
      rw (by_tests, other-kind (host_in e.host x) (host_in f.host y) (λ h. d (sym (kind-back e.host x) ∙ h ∙ kind-back f.host y))) (sym (and-false (same_scheme e.scheme f.scheme && same_port (normal_port e.scheme e.port) (normal_port f.scheme f.port))))

  module _ (g : e.host ≡ f.host) (a : Bool) (u : a ≡ same_host (host_in e.host x) (host_in e.host y)) where
    hosts : same_host (host_in e.host x) (host_in f.host y) ≡ a
    hosts = ap (λ (i : Option HostKind). same_host (host_in e.host x) (host_in i y)) (sym g) ∙ sym u

    pub hosts-differ : a ≡ false → false ≡ same_expression (normal (expression_by e x)) (normal (expression_by f y))
    hosts-differ v = rw (by_tests, hosts, v) (sym (and-false (same_scheme e.scheme f.scheme && same_port (normal_port e.scheme e.port) (normal_port f.scheme f.port))))

    module _ (v : a ≡ true) where
      pub scheme-differs : (e.scheme ≡ f.scheme → ⊥) → false ≡ same_expression (normal (expression_by e x)) (normal (expression_by f y))
      scheme-differs z = go (same_scheme e.scheme f.scheme) refl
        where
          go : (b : Bool) → same_scheme e.scheme f.scheme ≡ b → false ≡ same_expression (normal (expression_by e x)) (normal (expression_by f y))
          go true h = absurd (z (scheme-is e.scheme f.scheme h))
          go false h = rw (by_tests, h)

      pub ports-left : e.scheme ≡ f.scheme → (p q : PortPart) (r : Bool) → p ≡ normal_port e.scheme e.port → q ≡ normal_port f.scheme f.port → (r ≡ true → p ≡ q) → (p ≡ q → r ≡ true) → r ≡ same_expression (normal (expression_by e x)) (normal (expression_by f y))
      ports-left z p q r m n on back =
          let k : same_scheme e.scheme f.scheme ≡ true = rw z (scheme-self f.scheme) in
          rw (by_tests, k, hosts, v, ← m, ← n) (go r (same_port p q) refl refl ∙ sym (and-true (same_port p q)))
        where
          go : (b c : Bool) → r ≡ b → same_port p q ≡ c → b ≡ c
          go true true h i = refl
          go false false h i = refl
          go true false h i = let k : p ≡ q = on h in clash (cc (port-self q))
          go false true h i = clash (cc (back (ports-is p q i)))
