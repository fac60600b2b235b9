-- Origins and expressions, written as texts, are read back. Assumes nothing.
use mathlib.Core.Path.{◌≡◌, refl}
use Prim.Native.Nat.{ℕ, ◌≤◌}
use mathlib.Core.List.{List, [], ◌∷◌, ◌++◌, append-nil}
use mathlib.Core.Bool.{Bool, true, false}
use Rattle.std.specs.Prelude.{Some}
use native.Mathlib.Omega.{arith}
use lib.ListN.{length}
use lib.Dec.{eqb}
use borrow.Author.Tests.{eqb-true, ne_eqb}
use Rattle.limits.specs.Limits.{last_port}
use Rattle.ascii.specs.Bytes.{pick, lower, is_digit}
use Rattle.ascii.specs.Literals.{text}
use Rattle.ascii.specs.Texts.{every, each, lowered, same_by, same_bytes}
use Rattle.ascii.specs.Reading.{head_of, is_empty, next, run_of, past}
use Rattle.ascii.proofs.Bytes.{and_left, within_low}
use Rattle.ascii.proofs.Texts.{every-run, every-past, every-run-whole, every-past-whole}
use Rattle.origins.specs.Hosts.{is_host}
use Rattle.origins.specs.Ports.{default_port, is_port, origin_port, port_part_of}
use Rattle.origins.specs.Origins.{TupleOrigin, scheme_slashes, starts_with, not_colon, with_port, tuple_of, origin_of}
use Rattle.origins.specs.Origins.OriginSaid.{says_tuple}
use Rattle.origins.specs.Expressions.{HostPart, SourceExpression, host_part_of, with_parts, host_source_of, starts_lowered, expression_of}
use Rattle.origins.specs.Expressions.HostPart.{no_host, any_host, exact_host, subdomains_of}
use Rattle.origins.specs.NormalForms.{GoodPort, GoodHost, GoodExpression, GoodOrigin, port_text, port_part_text, expression_parts_text, expression_text, origin_text}
use Rattle.origins.specs.declared.Scheme.{Scheme}
use Rattle.origins.specs.declared.Scheme.TheVariants.{Http, Https}
use Rattle.origins.specs.declared.PortPart.{PortPart}
use Rattle.origins.specs.declared.PortPart.TheVariants.{Default, Any, Number}
use Rattle.origins.proofs.HostBytes.{is_host_byte, host-bytes, host-some, not-star, host-no-colon, host-lower}
use Rattle.origins.proofs.OriginHosts.{origin-host-no-colon}
use Rattle.origins.proofs.Decimals.{port-back, port-digits, port-lead, port-number, port-part, port-some}

-- what can follow a host: nothing, or a colon
pub data Follows : List ℕ → Type 0 where
  nothing : Follows []
  colon : {m : List ℕ} → Follows (58 ∷ m)

pub host-run : (h : List ℕ) {m : List ℕ} → every not_colon h ≡ true → Follows m → run_of not_colon (h ++ m) ≡ h
host-run h e nothing = rw (append-nil h) (every-run-whole not_colon h e)
host-run h e (colon {m}) = every-run not_colon h (58 ∷ m) e (unfold head_of in refl)

pub host-past : (h : List ℕ) {m : List ℕ} → every not_colon h ≡ true → Follows m → past not_colon (h ++ m) ≡ m
host-past h e nothing = rw (append-nil h) (every-past-whole not_colon h e)
host-past h e (colon {m}) = every-past not_colon h (58 ∷ m) e (unfold head_of in refl)

-- digits are no star
digits-no-star : (ds : List ℕ) → 1 ≤ length ds → every is_digit ds ≡ true → same_bytes ds (text "*") ≡ false
unfolding same_by every pick
digits-no-star [] h e = absurd (omega arith)
digits-no-star (x ∷ ds) h e =
    let u : 48 ≤ x = within_low 48 57 x (and_left (is_digit x) (every is_digit ds) e) in
    rw (ne_eqb x 42 (λ k. omega arith))

-- a port-part is read back
pub port-part-back : (p : PortPart) → GoodPort p → port_part_of (port_part_text p) ≡ Some p
unfolding port_part_of port_part_text is_empty next same_by pick
port-part-back Default g = refl
port-part-back Any g = refl
port-part-back (Number n) g = rw (digits-no-star (port_text n) (port-some n g) (port-digits n g), port-part n g, port-back n g)

port-part-follows : (p : PortPart) → Follows (port_part_text p)
unfolding port_part_text
port-part-follows Default = nothing
port-part-follows Any = colon
port-part-follows (Number n) = colon

-- a host is read as one, and not as a wildcard
host-exact-back : (h : List ℕ) → is_host h ≡ true → host_part_of h ≡ Some (exact_host h)
unfolding host_part_of starts_with same_by pick
host-exact-back [] e = absurd (omega (arith, host-some [] e))
host-exact-back (x ∷ xs) e =
    let u : is_host_byte x ≡ true = and_left (is_host_byte x) (every is_host_byte xs) (unfold every in host-bytes (x ∷ xs) e) in
    rw (ne_eqb x 42 (not-star x u), e)

-- past the scheme and `://`
http-hosted : (l : List ℕ) → expression_of (scheme_slashes Http ++ l) ≡ host_source_of Http l
unfolding expression_of starts_lowered same_by lower pick
http-hosted l = refl

https-hosted : (l : List ℕ) → expression_of (scheme_slashes Https ++ l) ≡ host_source_of Https l
unfolding expression_of starts_lowered same_by lower pick
https-hosted l = refl

hosted : (k : Scheme) (l : List ℕ) → expression_of (scheme_slashes k ++ l) ≡ host_source_of k l
hosted Http l = http-hosted l
hosted Https l = https-hosted l

-- a host part and a port-part, read back together
parts-back : (k : Scheme) (g : List ℕ) (x : HostPart) (p : PortPart) → every not_colon g ≡ true → host_part_of (lowered g) ≡ Some x → GoodPort p → expression_of (scheme_slashes k ++ (g ++ port_part_text p)) ≡ Some (record { scheme = k; host = x; port = p })
unfolding host_source_of with_parts
parts-back k g x p e f h =
    rw (hosted k (g ++ port_part_text p), host-run g e (port-part-follows p), host-past g e (port-part-follows p), f, port-part-back p h)

by-parts-back : (k : Scheme) (x : HostPart) (p : PortPart) → GoodHost x p → GoodPort p → expression_of (expression_parts_text k x p) ≡ Some (record { scheme = k; host = x; port = p })
unfolding expression_parts_text
by-parts-back Http no_host p g h = unfold expression_of same_by lower pick in rw g
by-parts-back Https no_host p g h = unfold expression_of same_by lower pick in rw g
by-parts-back k any_host p g h = parts-back k (42 ∷ []) any_host p (unfold every in refl) (unfold host_part_of each same_by lower pick in refl) h
by-parts-back k (exact_host x) p g h =
    parts-back k x (exact_host x) p (host-no-colon x (host-bytes x g)) (rw (host-lower x (host-bytes x g)) (host-exact-back x g)) h
by-parts-back k (subdomains_of x) p g h =
    parts-back k (42 ∷ 46 ∷ x) (subdomains_of x) p (unfold every in host-no-colon x (host-bytes x g))
    (unfold host_part_of starts_with each same_by lower pick in rw (host-lower x (host-bytes x g), g)) h

-- a good expression is read back from its text
pub expression-back : (e : SourceExpression) → GoodExpression e → expression_of (expression_text e) ≡ Some e
expression-back e g = by-parts-back e.scheme e.host e.port g.host g.port

-- the same of origins
origin-hosted : (k : Scheme) (l : List ℕ) → origin_of (scheme_slashes k ++ l) ≡ tuple_of k l
unfolding origin_of starts_with is_empty same_by pick
origin-hosted Http l = refl
origin-hosted Https l = refl

port-follows : (b : Bool) (ds : List ℕ) → Follows (pick b [] (58 ∷ ds))
unfolding pick
port-follows true ds = nothing
port-follows false ds = colon

origin-port-back : (b : Bool) (k : Scheme) (n : ℕ) → n ≤ last_port → eqb n (default_port k) ≡ b → origin_port k (pick b [] (58 ∷ port_text n)) ≡ Some n
unfolding origin_port is_port is_empty next pick
origin-port-back true k n h e = rw (eqb-true n (default_port k) e)
origin-port-back false k n h e = rw (port-number n h, port-lead n h, port-back n h, e)

-- a good origin is read back from its text
pub good-tuple : (o : TupleOrigin) → GoodOrigin o → origin_of (origin_text o) ≡ says_tuple o
unfolding origin_text tuple_of with_port
good-tuple o g =
    let b = eqb o.port (default_port o.scheme) in
    let m = pick b [] (58 ∷ port_text o.port) in
    let e : every not_colon o.host ≡ true = origin-host-no-colon o.host g.host in
    let f : Follows m = port-follows b (port_text o.port) in
    rw (origin-hosted o.scheme (o.host ++ m), host-run o.host e f, host-past o.host e f, g.host, origin-port-back b o.scheme o.port g.port refl) (unfold pick in refl)
