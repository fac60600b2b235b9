-- The laws of origins and expressions for the crates above: these, those that the `pub use` lines pass on, `TextParts`, `Steps` and `Alike`. Assumes nothing.
use mathlib.Core.Path.{◌≡◌, refl, ap, ◌∙◌, sym}
use Prim.Native.Nat.{ℕ, ◌+◌, ◌-◌, ◌≤◌, ◌<◌}
use mathlib.Core.List.{List, [], ◌∷◌, ◌++◌}
use mathlib.Core.Bool.{Bool, true, false, not, ◌&&◌}
use Rattle.std.specs.Prelude.{Some, None}
use native.Mathlib.Omega.{arith}
use lib.ListN.{length, take, drop, length-append, length-take, take-append-drop}
use lib.Seq.{take_at, drop_at}
use lib.Dec.{ltb, eqb}
use borrow.Author.Tests.{eqb-true, eq-eqb, ltb-true, lt-ltb, not-true}
use Rattle.ascii.proofs.Clash.{clash}
use Rattle.limits.specs.Limits.{last_port, port_digits}
use Rattle.ascii.specs.Bytes.{pick}
use Rattle.ascii.specs.Texts.{same_by, same_bytes, part_of}
use Rattle.ascii.specs.Reading.{is_empty, next}
use Rattle.ascii.proofs.Bytes.{and_left, and_right}
use Rattle.ascii.proofs.Texts.{bytes_same, same-bytes, part-in}
use Rattle.ascii.specs.Decimals.{decimal, leads_zero}
use Rattle.origins.specs.Ports.{default_port, is_number, is_port, origin_port}
use Rattle.origins.specs.Origins.{TupleOrigin, Origin, scheme_slashes, null_text, origin_of}
use Rattle.origins.specs.Origins.Origin.{tuple, opaque, fresh}
use Rattle.origins.specs.Origins.OriginSaid.{says_empty, says_null, says_tuple}
use Rattle.origins.specs.Expressions.{HostPart, SourceExpression, expression_of}
use Rattle.origins.specs.Expressions.HostPart.{no_host, any_host, exact_host, subdomains_of}
use Rattle.origins.specs.Matching.{same_scheme, scheme_admits, ends_in, port_admits, host_admits, admits_tuple, admits, same_tuple, same_origin}
use Rattle.origins.specs.NormalForms.{GoodPort, GoodHost, GoodExpression, GoodOrigin, port_text, origin_text, origin_bytes, is_dropped, normal_port, normal, normal_form, expression_text, same_host, same_port, same_expression}
use Rattle.origins.specs.Answers.{tuple_range, tuple_in}
use Rattle.origins.specs.declared.Scheme.{Scheme}
use Rattle.origins.specs.declared.Scheme.TheVariants.{Http, Https}
use Rattle.origins.specs.declared.PortPart.{PortPart}
use Rattle.origins.specs.declared.PortPart.TheVariants.{Default, Any, Number}
pub use Rattle.origins.proofs.HostBytes.{host-some, host-most}
pub use Rattle.origins.proofs.OriginHosts.{host-origin, origin-host-some, origin-host-most, origin-host-longest}
pub use Rattle.origins.proofs.ExpressionTexts.{expression-range, expression-good, named-short, expression-long}
pub use Rattle.origins.proofs.Parts.{scheme-is, scheme-self, scheme-own, schemes-one, http-admits, https-admits, admits-tuple, admits-parts, admits-no-host, admits-any-host, admits-exact, admits-below, admits-default, admits-any-port, admits-number, text-no-host, text-any-host, text-exact, text-below, text-default, text-any-port, text-number, normal-parts, form-parts, same_parts, opaque-tuple, label-no-dot, pair-host, letter-below, pair-below, before-dot}
pub use Rattle.origins.proofs.PlainTexts.{expression-plain}
use Rattle.origins.proofs.NormalForms.{ports-is, port-self}
use Rattle.origins.proofs.Numbers.{number-most}
use Rattle.origins.proofs.Decimals.{port-canonical, port-short}
-- numbers in decimal, read up to a limit
pub use Rattle.origins.proofs.Numbers.{long-number}
pub use Rattle.origins.proofs.ReadBack.{expression-back, good-tuple}
use Rattle.origins.proofs.ReadBack.{Follows}
use Rattle.origins.proofs.ReadBack.Follows.{nothing, colon}
pub use Rattle.origins.proofs.TextParts.{empty-text, null-text}
use Rattle.origins.proofs.TextParts.{OriginParts, origin-parts}

-- what follows a host, by the port that it says
record PortSaid (k : Scheme) (m : List ℕ) (n : ℕ) : Type 0 where
  is : m ≡ pick (eqb n (default_port k)) [] (58 ∷ port_text n)
  most : n ≤ last_port
  short : length m ≤ 1 + port_digits

pub default-most : (k : Scheme) → default_port k ≤ last_port
default-most Http = omega arith
default-most Https = omega arith

port-is : (k : Scheme) (ds : List ℕ) (n : ℕ) (b : Bool) → is_port k ds ≡ b → pick b (Some (decimal ds)) None ≡ Some n → PortSaid k (58 ∷ ds) n
unfolding is_port pick
port-is k ds n true u f =
    let d : decimal ds ≡ n = cc in
    let x = and_left (is_number ds && not (leads_zero ds)) (not (eqb (decimal ds) (default_port k))) u in
    let a : is_number ds ≡ true = and_left (is_number ds) (not (leads_zero ds)) x in
    let z : leads_zero ds ≡ false = not-true (leads_zero ds) (and_right (is_number ds) (not (leads_zero ds)) x) in
    let q : eqb n (default_port k) ≡ false = rw d at (not-true (eqb (decimal ds) (default_port k)) (and_right (is_number ds && not (leads_zero ds)) (not (eqb (decimal ds) (default_port k))) u)) in
    let c : port_text n ≡ ds = rw d at (port-canonical ds a z) in
    record { is = rw (q, c); most = rw d at (number-most ds a); short = omega (arith, port-short ds a z) }
port-is k ds n false u f = clash cc

port-said : (k : Scheme) {m : List ℕ} (n : ℕ) → Follows m → origin_port k m ≡ Some n → PortSaid k m n
unfolding origin_port is_empty next pick
port-said k n nothing f =
    let d : default_port k ≡ n = cc in
    record { is = rw (eq-eqb n (default_port k) (sym d)); most = rw d at (default-most k); short = omega arith }
port-said k n (colon {m = ds}) f = port-is k ds n (is_port k ds) refl f

slashes-most : (k : Scheme) → length (scheme_slashes k) ≤ 8
slashes-most Http = omega arith
slashes-most Https = omega arith

part-middle : (a b c : List ℕ) → part_of (a ++ (b ++ c)) (length a) (length a + length b) ≡ b
part-middle a b c =
    let s = a ++ (b ++ c) in
    let n : length s ≡ length a + length (b ++ c) = length-append a (b ++ c) in
    let m : length (b ++ c) ≡ length b + length c = length-append b c in
    let p : take (length a + length b - length a) (drop (length a) s) ≡ part_of s (length a) (length a + length b) = part-in s (length a) (length a + length b) (omega arith) (omega arith) in
    sym p ∙ ap (take (length a + length b - length a)) (drop_at a (b ++ c) (length a) refl) ∙ take_at b c (length a + length b - length a) (omega arith)

module _ (s : List ℕ) (o : TupleOrigin) (e : origin_of s ≡ says_tuple o) where
  parts : OriginParts s o
  parts = origin-parts s o e

  said : PortSaid o.scheme parts.rest o.port
  said = port-said o.scheme o.port parts.follows parts.port

  -- a tuple origin's text is canonical: it is the text that the origin is written as
  pub tuple-text : s ≡ origin_text o
  unfolding origin_text
  tuple-text = parts.is ∙ ap (λ (m : List ℕ). scheme_slashes o.scheme ++ (o.host ++ m)) said.is

  -- an origin that a text says has a host and a port by document 01
  pub tuple-good : GoodOrigin o
  tuple-good = record { host = parts.host; port = said.most }

  -- and its text is at most 267 bytes long
  pub tuple-length : length s ≤ origin_bytes
  tuple-length =
      omega (arith, ap length parts.is, length-append (scheme_slashes o.scheme) (o.host ++ parts.rest), length-append o.host parts.rest, slashes-most o.scheme, origin-host-most o.host parts.host, said.short)

  -- the range that the code answers stands for the origin
  pub tuple-range : tuple_in s (tuple_range o) ≡ o
  tuple-range = ap {B = TupleOrigin} (λ (h : List ℕ). record { scheme = o.scheme; host = h; port = o.port }) (rw parts.is (part-middle (scheme_slashes o.scheme) o.host parts.rest))

-- two texts that say the same origin are the same bytes
pub text-one : (s t : List ℕ) (o : TupleOrigin) → origin_of s ≡ says_tuple o → origin_of t ≡ says_tuple o → s ≡ t
text-one s t o e f = tuple-text s o e ∙ sym (tuple-text t o f)

-- the empty text says "empty"; that no other does is `empty-text`
pub text-empty : origin_of [] ≡ says_empty
unfolding origin_of is_empty pick
text-empty = refl

-- `null` says "null"; that no other text does is `null-text`
pub text-null : origin_of null_text ≡ says_null
unfolding origin_of is_empty same_by pick
text-null = refl

-- comparing tuples: alike exactly if they are the same
tuples-is : (a b : TupleOrigin) → same_tuple a b ≡ true → a ≡ b
unfolding same_tuple
tuples-is a b e =
    let x = and_left (same_scheme a.scheme b.scheme && same_bytes a.host b.host) (eqb a.port b.port) e in
    let k : a.scheme ≡ b.scheme = scheme-is a.scheme b.scheme (and_left (same_scheme a.scheme b.scheme) (same_bytes a.host b.host) x) in
    let h : a.host ≡ b.host = bytes_same a.host b.host (and_right (same_scheme a.scheme b.scheme) (same_bytes a.host b.host) x) in
    let p : a.port ≡ b.port = eqb-true a.port b.port (and_right (same_scheme a.scheme b.scheme && same_bytes a.host b.host) (eqb a.port b.port) e) in
    λ i. record { scheme = k i; host = h i; port = p i }

tuples-self : (a : TupleOrigin) → same_tuple a a ≡ true
unfolding same_tuple
tuples-self a = rw (scheme-self a.scheme, same-bytes a.host, eq-eqb a.port a.port refl)

-- two tuple origins are the same exactly if their texts are the same bytes
pub same-texts : (s t : List ℕ) (a b : TupleOrigin) → origin_of s ≡ says_tuple a → origin_of t ≡ says_tuple b → same_origin (tuple a) (tuple b) ≡ same_bytes s t
unfolding same_origin
same-texts s t a b e f = go (same_tuple a b) (same_bytes s t) refl refl
  where
    go : (u v : Bool) → same_tuple a b ≡ u → same_bytes s t ≡ v → u ≡ v
    go true true x y = refl
    go false false x y = refl
    go true false x y =
        let q : a ≡ b = tuples-is a b x in
        let r : s ≡ t = text-one s t b (rw q at e) f in
        clash (cc (same-bytes t))
    go false true x y =
        let r : s ≡ t = bytes_same s t y in
        let q : a ≡ b = cc in
        clash (cc (tuples-self b))

-- an origin that a document can have is the same as itself; a fresh one is the same as nothing
pub tuple-self : (a : TupleOrigin) → same_origin (tuple a) (tuple a) ≡ true
unfolding same_origin
tuple-self a = tuples-self a

pub opaque-self : (n : ℕ) → same_origin (opaque n) (opaque n) ≡ true
unfolding same_origin
opaque-self n = eq-eqb n n refl

pub fresh-left : (o : Origin) → same_origin fresh o ≡ false
unfolding same_origin
fresh-left o = refl

pub fresh-right : (o : Origin) → same_origin o fresh ≡ false
unfolding same_origin
fresh-right (tuple a) = refl
fresh-right (opaque n) = refl
fresh-right fresh = refl

-- origins that are the same are one
pub same-one : (a b : Origin) → same_origin a b ≡ true → a ≡ b
unfolding same_origin
same-one (tuple a) (tuple b) e = ap tuple (tuples-is a b e)
same-one (tuple a) (opaque n) e = clash cc
same-one (tuple a) fresh e = clash cc
same-one (opaque m) (tuple b) e = clash cc
same-one (opaque m) (opaque n) e = ap opaque (eqb-true m n e)
same-one (opaque m) fresh e = clash cc
same-one fresh b e = clash cc

-- "No expression admits an opaque origin."
pub admits-opaque : (e : SourceExpression) (n : ℕ) → admits e (opaque n) ≡ false
unfolding admits
admits-opaque e n = refl

pub admits-fresh : (e : SourceExpression) → admits e fresh ≡ false
unfolding admits
admits-fresh e = refl

-- what `*.` and a host admits ends in the dot and the host, with at least one byte before
pub ends-before : (t h : List ℕ) → ends_in t h ≡ true → (b : List ℕ) × (h ≡ b ++ t) × (1 ≤ length b)
unfolding ends_in
ends-before t h e =
    let n : length t < length h = ltb-true (length t) (length h) (and_left (ltb (length t) (length h)) (same_bytes t (drop (length h - length t) h)) e) in
    let d : t ≡ drop (length h - length t) h = bytes_same t (drop (length h - length t) h) (and_right (ltb (length t) (length h)) (same_bytes t (drop (length h - length t) h)) e) in
    let k = length h - length t in
    (take k h, sym (take-append-drop k h) ∙ ap (λ (l : List ℕ). take k h ++ l) (sym d), omega (arith, length-take k h))

pub before-ends : (b t : List ℕ) → 1 ≤ length b → ends_in t (b ++ t) ≡ true
unfolding ends_in
before-ends b t h =
    let n : length (b ++ t) ≡ length b + length t = length-append b t in
    rw (lt-ltb (length t) (length (b ++ t)) (omega arith), drop_at b t (length (b ++ t) - length t) (omega arith)) (same-bytes t)

-- a port is dropped exactly if it is the default of every scheme that is admitted: then it means the same as no port
pub dropped-default : (k j : Scheme) (n : ℕ) → is_dropped k n ≡ true → scheme_admits k j ≡ true → n ≡ default_port j
unfolding is_dropped scheme_admits
dropped-default Http j n e a = clash cc
dropped-default Https Http n e a = clash cc
dropped-default Https Https n e a = eqb-true n (default_port Https) e

pub default-dropped : (k : Scheme) (n : ℕ) → ((j : Scheme) → scheme_admits k j ≡ true → n ≡ default_port j) → is_dropped k n ≡ true
unfolding is_dropped
default-dropped Http n e = absurd (omega (arith, e Http (http-admits Http), e Https (http-admits Https)))
default-dropped Https n e = eq-eqb n (default_port Https) (e Https (scheme-own Https))

-- so the same origins are admitted without it
port-normal : (k j : Scheme) (p : PortPart) (n : ℕ) → scheme_admits k j ≡ true → port_admits (normal_port k p) j n ≡ port_admits p j n
unfolding port_admits normal_port
port-normal k j Default n a = refl
port-normal k j Any n a = refl
port-normal k j (Number m) n a = go (is_dropped k m) refl
  where
    go : (b : Bool) → is_dropped k m ≡ b → port_admits (pick b Default (Number m)) j n ≡ eqb n m
    go true e = unfold pick port_admits in rw (dropped-default k j m e a)
    go false e = unfold pick port_admits in refl

host-normal : (k : Scheme) (x : HostPart) (p : PortPart) (o : TupleOrigin) → scheme_admits k o.scheme ≡ true → host_admits x (normal_port k p) o ≡ host_admits x p o
unfolding host_admits
host-normal k no_host p o a = refl
host-normal k any_host p o a = port-normal k o.scheme p o.port a
host-normal k (exact_host h) p o a = rw (port-normal k o.scheme p o.port a)
host-normal k (subdomains_of h) p o a = rw (port-normal k o.scheme p o.port a)

tuple-normal : (e : SourceExpression) (o : TupleOrigin) (b : Bool) → scheme_admits e.scheme o.scheme ≡ b → b && host_admits e.host (normal_port e.scheme e.port) o ≡ b && host_admits e.host e.port o
tuple-normal e o true a = host-normal e.scheme e.host e.port o a
tuple-normal e o false a = refl

-- an expression and its normal form admit the same origins
pub normal-admits : (e : SourceExpression) (o : Origin) → admits (normal e) o ≡ admits e o
unfolding admits admits_tuple normal
normal-admits e (tuple o) = tuple-normal e o (scheme_admits e.scheme o.scheme) refl
normal-admits e (opaque n) = refl
normal-admits e fresh = refl

port-twice : (k : Scheme) (p : PortPart) → normal_port k (normal_port k p) ≡ normal_port k p
unfolding normal_port
port-twice k Default = refl
port-twice k Any = refl
port-twice k (Number n) = go (is_dropped k n) refl
  where
    go : (b : Bool) → is_dropped k n ≡ b → normal_port k (pick b Default (Number n)) ≡ pick b Default (Number n)
    go true e = unfold pick normal_port in refl
    go false e = unfold pick normal_port in rw e

-- the normal form of an expression is an expression, and its own normal form
pub normal-normal : (e : SourceExpression) → normal (normal e) ≡ normal e
unfolding normal
normal-normal e = ap {B = SourceExpression} (λ (p : PortPart). record { scheme = e.scheme; host = e.host; port = p }) (port-twice e.scheme e.port)

port-stays-good : (k : Scheme) (p : PortPart) → GoodPort p → GoodPort (normal_port k p)
unfolding normal_port
port-stays-good k Default g = tt
port-stays-good k Any g = tt
port-stays-good k (Number n) g = go (is_dropped k n)
  where
    go : (b : Bool) → GoodPort (pick b Default (Number n))
    go true = unfold pick in tt
    go false = unfold pick in g

host-stays-good : (k : Scheme) (x : HostPart) (p : PortPart) → GoodHost x p → GoodHost x (normal_port k p)
host-stays-good k no_host p g = unfold normal_port in rw g
host-stays-good k any_host p g = tt
host-stays-good k (exact_host h) p g = g
host-stays-good k (subdomains_of h) p g = g

-- the normal form of a good expression is good
pub normal-good : (e : SourceExpression) → GoodExpression e → GoodExpression (normal e)
normal-good e g = record { host = unfold normal in host-stays-good e.scheme e.host e.port g.host; port = unfold normal in port-stays-good e.scheme e.port g.port }

pub normal-reads : (s : List ℕ) (e : SourceExpression) → expression_of s ≡ Some e → expression_of (normal_form e) ≡ Some (normal e)
normal-reads s e f = expression-back (normal e) (normal-good e (expression-good s e f))

-- so normal forms are fixed points
pub normal-fixed : (s : List ℕ) (e d : SourceExpression) → expression_of s ≡ Some e → expression_of (normal_form e) ≡ Some d → normal_form d ≡ normal_form e
normal-fixed s e d f g =
    let q : normal e ≡ d = cc (normal-reads s e f) in
    ap expression_text (ap normal (sym q) ∙ normal-normal e)

-- comparing expressions: alike exactly if they are the same
hosts-is : (x y : HostPart) → same_host x y ≡ true → x ≡ y
unfolding same_host
hosts-is no_host no_host e = refl
hosts-is no_host any_host e = clash cc
hosts-is no_host (exact_host b) e = clash cc
hosts-is no_host (subdomains_of b) e = clash cc
hosts-is any_host no_host e = clash cc
hosts-is any_host any_host e = refl
hosts-is any_host (exact_host b) e = clash cc
hosts-is any_host (subdomains_of b) e = clash cc
hosts-is (exact_host a) no_host e = clash cc
hosts-is (exact_host a) any_host e = clash cc
hosts-is (exact_host a) (exact_host b) e = ap exact_host (bytes_same a b e)
hosts-is (exact_host a) (subdomains_of b) e = clash cc
hosts-is (subdomains_of a) no_host e = clash cc
hosts-is (subdomains_of a) any_host e = clash cc
hosts-is (subdomains_of a) (exact_host b) e = clash cc
hosts-is (subdomains_of a) (subdomains_of b) e = ap subdomains_of (bytes_same a b e)

pub same-expression-is : (a b : SourceExpression) → same_expression a b ≡ true → a ≡ b
unfolding same_expression
same-expression-is a b e =
    let x = and_left (same_scheme a.scheme b.scheme && same_port a.port b.port) (same_host a.host b.host) e in
    let k : a.scheme ≡ b.scheme = scheme-is a.scheme b.scheme (and_left (same_scheme a.scheme b.scheme) (same_port a.port b.port) x) in
    let p : a.port ≡ b.port = ports-is a.port b.port (and_right (same_scheme a.scheme b.scheme) (same_port a.port b.port) x) in
    let h : a.host ≡ b.host = hosts-is a.host b.host (and_right (same_scheme a.scheme b.scheme && same_port a.port b.port) (same_host a.host b.host) e) in
    λ i. record { scheme = k i; host = h i; port = p i }

host-self : (x : HostPart) → same_host x x ≡ true
unfolding same_host
host-self no_host = refl
host-self any_host = refl
host-self (exact_host a) = same-bytes a
host-self (subdomains_of a) = same-bytes a

pub same-expression-self : (a : SourceExpression) → same_expression a a ≡ true
unfolding same_expression
same-expression-self a = rw (scheme-self a.scheme, port-self a.port, host-self a.host)

-- so two good expressions are the same exactly if their texts are: "each expression once" goes by the text
pub same-expression-text : (a b : SourceExpression) → GoodExpression a → GoodExpression b → same_expression a b ≡ same_bytes (expression_text a) (expression_text b)
same-expression-text a b g h = go (same_expression a b) (same_bytes (expression_text a) (expression_text b)) refl refl
  where
    go : (u v : Bool) → same_expression a b ≡ u → same_bytes (expression_text a) (expression_text b) ≡ v → u ≡ v
    go true true x y = refl
    go false false x y = refl
    go true false x y =
        let q : a ≡ b = same-expression-is a b x in
        clash (cc (same-bytes (expression_text b)))
    go false true x y =
        let t : expression_text a ≡ expression_text b = bytes_same (expression_text a) (expression_text b) y in
        let q : a ≡ b = cc (expression-back a g, expression-back b h) in
        clash (cc (same-expression-self b))
