-- What an expression admits, its text, two origins, and hosts, part by part. Assumes nothing.
use mathlib.Core.Path.{◌≡◌, refl, ◌∙◌, sym}
use Prim.Native.Nat.{ℕ, ◌+◌, ◌≤◌}
use mathlib.Core.List.{List, [], ◌∷◌, ◌++◌}
use mathlib.Core.Bool.{Bool, true, false, ◌&&◌}
use native.Mathlib.Omega.{arith}
use lib.ListN.{length}
use lib.Dec.{eqb}
use borrow.Author.Tests.{eqb-true, le-leb}
use Rattle.limits.specs.Limits.{host_bytes}
use Rattle.ascii.specs.Bytes.{pick, within, is_label_byte}
use Rattle.ascii.specs.Texts.{same_bytes, every}
use Rattle.ascii.proofs.Bytes.{and_right}
use Rattle.ascii.proofs.Clash.{clash}
use Rattle.origins.specs.Hosts.{labels, is_label, is_host}
use Rattle.origins.specs.Ports.{default_port}
use Rattle.origins.specs.Origins.{TupleOrigin, scheme_text, scheme_slashes}
use Rattle.origins.specs.Origins.Origin.{tuple, opaque}
use Rattle.origins.specs.Expressions.{SourceExpression}
use Rattle.origins.specs.Expressions.HostPart.{no_host, any_host, exact_host, subdomains_of}
use Rattle.origins.specs.Matching.{same_scheme, scheme_admits, ends_in, port_admits, host_admits, admits_tuple, admits, same_tuple, same_origin}
use Rattle.origins.specs.NormalForms.{port_text, port_part_text, expression_parts_text, normal_port, normal, normal_form}
use Rattle.origins.specs.declared.Scheme.{Scheme}
use Rattle.origins.specs.declared.Scheme.TheVariants.{Http, Https}
use Rattle.origins.specs.declared.PortPart.{PortPart}
use Rattle.origins.specs.declared.PortPart.TheVariants.{Default, Any, Number}
use Rattle.origins.proofs.Hosts.{scan, scan-labels}

-- schemes are the same exactly if they are equal
pub scheme-is : (k j : Scheme) → same_scheme k j ≡ true → k ≡ j
scheme-is Http Http e = refl
scheme-is Http Https e = clash cc
scheme-is Https Http e = clash cc
scheme-is Https Https e = refl

pub scheme-self : (k : Scheme) → same_scheme k k ≡ true
scheme-self Http = refl
scheme-self Https = refl

-- which schemes a scheme admits: http admits both, https itself alone; so each admits itself, and two that admit each other are one
pub http-admits : (j : Scheme) → scheme_admits Http j ≡ true
unfolding scheme_admits
http-admits j = refl

pub https-admits : (j : Scheme) → scheme_admits Https j ≡ same_scheme Https j
unfolding scheme_admits
https-admits j = refl

pub scheme-own : (k : Scheme) → scheme_admits k k ≡ true
scheme-own Http = http-admits Http
scheme-own Https = https-admits Https

pub schemes-one : (k j : Scheme) → scheme_admits k j ≡ true → scheme_admits j k ≡ true → k ≡ j
schemes-one Http Http a b = refl
schemes-one Http Https a b = clash (cc (https-admits Http))
schemes-one Https j a b = scheme-is Https j (sym (https-admits j) ∙ a)

-- of a tuple origin
pub admits-tuple : (e : SourceExpression) (o : TupleOrigin) → admits e (tuple o) ≡ admits_tuple e o
unfolding admits
admits-tuple e o = refl

-- what an expression admits: its scheme, and by its host part
pub admits-parts : (e : SourceExpression) (o : TupleOrigin) → admits e (tuple o) ≡ scheme_admits e.scheme o.scheme && host_admits e.host e.port o
unfolding admits admits_tuple
admits-parts e o = refl

module _ (p : PortPart) (o : TupleOrigin) where
  pub admits-no-host : host_admits no_host p o ≡ true
  unfolding host_admits
  admits-no-host = refl

  pub admits-any-host : host_admits any_host p o ≡ port_admits p o.scheme o.port
  unfolding host_admits
  admits-any-host = refl

  pub admits-exact : (h : List ℕ) → host_admits (exact_host h) p o ≡ same_bytes h o.host && port_admits p o.scheme o.port
  unfolding host_admits
  admits-exact h = refl

  pub admits-below : (h : List ℕ) → host_admits (subdomains_of h) p o ≡ ends_in (46 ∷ h) o.host && port_admits p o.scheme o.port
  unfolding host_admits
  admits-below h = refl

-- and by its port-part
module _ (k : Scheme) (n : ℕ) where
  pub admits-default : port_admits Default k n ≡ eqb n (default_port k)
  unfolding port_admits
  admits-default = refl

  pub admits-any-port : port_admits Any k n ≡ true
  unfolding port_admits
  admits-any-port = refl

  pub admits-number : (m : ℕ) → port_admits (Number m) k n ≡ eqb n m
  unfolding port_admits
  admits-number m = refl

-- the text of an expression, by its host part
module _ (k : Scheme) (p : PortPart) where
  pub text-no-host : expression_parts_text k no_host p ≡ scheme_text k
  unfolding expression_parts_text
  text-no-host = refl

  pub text-any-host : expression_parts_text k any_host p ≡ scheme_slashes k ++ (42 ∷ port_part_text p)
  unfolding expression_parts_text
  text-any-host = refl

  pub text-exact : (h : List ℕ) → expression_parts_text k (exact_host h) p ≡ scheme_slashes k ++ (h ++ port_part_text p)
  unfolding expression_parts_text
  text-exact h = refl

  pub text-below : (h : List ℕ) → expression_parts_text k (subdomains_of h) p ≡ scheme_slashes k ++ (42 ∷ 46 ∷ (h ++ port_part_text p))
  unfolding expression_parts_text
  text-below h = refl

-- of a port-part
pub text-default : port_part_text Default ≡ []
unfolding port_part_text
text-default = refl

pub text-any-port : port_part_text Any ≡ 58 ∷ 42 ∷ []
unfolding port_part_text
text-any-port = refl

pub text-number : (n : ℕ) → port_part_text (Number n) ≡ 58 ∷ port_text n
unfolding port_part_text
text-number n = refl

-- and of a normal form
pub normal-parts : (e : SourceExpression) → normal e ≡ record { scheme = e.scheme; host = e.host; port = normal_port e.scheme e.port }
unfolding normal
normal-parts e = refl

pub form-parts : (e : SourceExpression) → normal_form e ≡ expression_parts_text e.scheme e.host (normal_port e.scheme e.port)
unfolding normal
form-parts e = refl

-- two tuple origins, and an opaque one against a tuple
pub same_parts : (a b : TupleOrigin) → same_origin (tuple a) (tuple b) ≡ same_scheme a.scheme b.scheme && same_bytes a.host b.host && eqb a.port b.port
unfolding same_origin same_tuple
same_parts a b = refl

pub opaque-tuple : (n : ℕ) (b : TupleOrigin) → same_origin (opaque n) (tuple b) ≡ false
unfolding same_origin
opaque-tuple n b = refl

-- hosts, label by label
pub label-no-dot : (x : ℕ) → is_label_byte x ≡ true → x ≡ 46 → ⊥
label-no-dot x h e = let a : is_label_byte 46 ≡ true = rw e at h in clash cc

no-dot : (x : ℕ) → is_label_byte x ≡ true → eqb x 46 ≡ false
no-dot x h = go (eqb x 46) refl
  where
    go : (b : Bool) → eqb x 46 ≡ b → b ≡ false
    go true e = absurd (label-no-dot x h (eqb-true x 46 e))
    go false e = refl

scan-letter : (fresh : Bool) (x : ℕ) (xs : List ℕ) → is_label_byte x ≡ true → scan fresh (x ∷ xs) ≡ scan false xs
unfolding scan pick
scan-letter fresh x xs h = rw (no-dot x h, h)

scan-dot : (xs : List ℕ) → scan false (46 ∷ xs) ≡ scan true xs
unfolding scan pick
scan-dot xs = refl

scan-host : (h : List ℕ) → is_host h ≡ true → scan true h ≡ true
unfolding is_host
scan-host h e = sym (scan-labels h) ∙ and_right (within 1 host_bytes (length h)) (every is_label (labels h)) e

host-scan : (h : List ℕ) → 1 ≤ length h → length h ≤ host_bytes → scan true h ≡ true → is_host h ≡ true
unfolding is_host
host-scan h a b e = rw (le-leb 1 (length h) a, le-leb (length h) host_bytes b, scan-labels h, e)

-- a label of two bytes is a host
pub pair-host : (x y : ℕ) → is_label_byte x ≡ true → is_label_byte y ≡ true → is_host (x ∷ y ∷ []) ≡ true
pair-host x y a b =
    host-scan (x ∷ y ∷ []) (omega arith) (omega arith) (scan-letter true x (y ∷ []) a ∙ scan-letter false y [] b ∙ unfold scan in refl)

-- a label of one or two bytes, a dot and a host are a host, if that isn't too long
pub letter-below : (x : ℕ) (h : List ℕ) → is_label_byte x ≡ true → is_host h ≡ true → 2 + length h ≤ host_bytes → is_host (x ∷ 46 ∷ h) ≡ true
letter-below x h a g m = host-scan (x ∷ 46 ∷ h) (omega arith) (omega arith) (scan-letter true x (46 ∷ h) a ∙ scan-dot h ∙ scan-host h g)

pub pair-below : (x y : ℕ) (h : List ℕ) → is_label_byte x ≡ true → is_label_byte y ≡ true → is_host h ≡ true → 3 + length h ≤ host_bytes → is_host (x ∷ y ∷ 46 ∷ h) ≡ true
pair-below x y h a b g m =
    host-scan (x ∷ y ∷ 46 ∷ h) (omega arith) (omega arith)
    (scan-letter true x (y ∷ 46 ∷ h) a ∙ scan-letter false y (46 ∷ h) b ∙ scan-dot h ∙ scan-host h g)

-- one byte before a dot in a host is a label
pub before-dot : (x : ℕ) (h : List ℕ) → is_host (x ∷ 46 ∷ h) ≡ true → is_label_byte x ≡ true
before-dot x h e = go (eqb x 46) (is_label_byte x) (unfold scan in scan-host (x ∷ 46 ∷ h) e)
  where
    go : (a b : Bool) → pick a (pick true false (scan true (46 ∷ h))) (pick b (scan false (46 ∷ h)) false) ≡ true → b ≡ true
    go true b f = clash (unfold pick in cc)
    go false true f = refl
    go false false f = clash (unfold pick in cc)
