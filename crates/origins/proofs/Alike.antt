-- Expressions of one normal form admit the same origins; those that admit the same have one normal form, but for the pairs of `StayTwo`: else an origin tells them apart. Assumes nothing.
use mathlib.Core.Path.{◌≡◌, refl, ap, ◌∙◌, sym, subst}
use Prim.Native.Nat.{ℕ, ◌+◌, ◌-◌, ◌≤◌}
use mathlib.Core.List.{List, [], ◌∷◌}
use mathlib.Core.Bool.{Bool, true, false, ◌&&◌}
use mathlib.Core.Logic.{◌⊎◌, inl, inr}
use native.Mathlib.Omega.{arith}
use lib.ListN.{length, drop, length-append}
use lib.Dec.{ltb}
use borrow.Author.Tests.{eqb-true, eq-eqb, ltb-true, ltb-false}
use Rattle.ascii.proofs.Clash.{clash}
use Rattle.limits.specs.Limits.{last_port, host_bytes}
use Rattle.ascii.specs.Bytes.{pick}
use Rattle.ascii.specs.Texts.{same_bytes}
use Rattle.ascii.proofs.Bytes.{and_left, and_right, and-false}
use Rattle.ascii.proofs.Texts.{bytes_same, same-bytes}
use Rattle.origins.specs.Hosts.{is_host}
use Rattle.origins.specs.Ports.{default_port}
use Rattle.origins.specs.Origins.{TupleOrigin, Origin}
use Rattle.origins.specs.Origins.Origin.{tuple}
use Rattle.origins.specs.Expressions.{HostPart, SourceExpression}
use Rattle.origins.specs.Expressions.HostPart.{no_host, any_host, exact_host, subdomains_of}
use Rattle.origins.specs.Matching.{scheme_admits, ends_in, port_admits, host_admits, admits}
use Rattle.origins.specs.NormalForms.{GoodPort, GoodHost, GoodExpression, GoodOrigin, normal_port, normal, normal_form, expression_parts_text}
use Rattle.origins.specs.Alike.{AdmitAlike, NoneBelow, below, StayTwo}
use Rattle.origins.specs.Alike.StayTwo.{everything, nothing}
use Rattle.origins.specs.Computing.{computing}
use Rattle.origins.specs.declared.Scheme.{Scheme}
use Rattle.origins.specs.declared.Scheme.TheVariants.{Http, Https}
use Rattle.origins.specs.declared.PortPart.{PortPart}
use Rattle.origins.specs.declared.PortPart.TheVariants.{Default, Any, Number}
use Rattle.origins.proofs.Laws.{host-most, host-origin, origin-host-most, letter-below, ends-before, before-ends, expression-back, scheme-own, schemes-one, admits-parts, admits-any-port, form-parts, normal-good, normal-admits, default-dropped, default-most}

-- ---- the same normal form: the same origins

-- two expressions that a text can say have the same normal form only if they admit the same origins
pub form-alike : (e f : SourceExpression) → GoodExpression e → GoodExpression f → normal_form e ≡ normal_form f → (o : Origin) → admits e o ≡ admits f o
form-alike e f g h n o =
    let q : normal e ≡ normal f = cc (expression-back (normal e) (normal-good e g), expression-back (normal f) (normal-good f h)) in
    sym (normal-admits e o) ∙ (ap (λ (d : SourceExpression). admits d o) q ∙ normal-admits f o)

-- ---- what an expression admits: scheme, host and port apart

abbrev host_fits : HostPart → List ℕ → Bool
host_fits no_host h = true
host_fits any_host h = true
host_fits (exact_host g) h = same_bytes g h
host_fits (subdomains_of g) h = ends_in (46 ∷ g) h

abbrev port_fits : HostPart → PortPart → Scheme → ℕ → Bool
port_fits no_host p s n = true
port_fits any_host p s n = port_admits p s n
port_fits (exact_host g) p s n = port_admits p s n
port_fits (subdomains_of g) p s n = port_admits p s n

abbrev fits : SourceExpression → TupleOrigin → Bool
fits e o = scheme_admits e.scheme o.scheme && (host_fits e.host o.host && port_fits e.host e.port o.scheme o.port)

host-apart : (x : HostPart) (p : PortPart) (o : TupleOrigin) → host_admits x p o ≡ host_fits x o.host && port_fits x p o.scheme o.port
unfolding host_admits
host-apart no_host p o = refl
host-apart any_host p o = refl
host-apart (exact_host g) p o = refl
host-apart (subdomains_of g) p o = refl

admits-apart : (e : SourceExpression) (o : TupleOrigin) → admits e (tuple o) ≡ fits e o
admits-apart e o = rw (admits-parts e o, host-apart e.host e.port o)

-- ---- hosts

-- of the hosts that texts can say, those that the one part admits the other admits too
abbrev Within : HostPart → HostPart → Type 0
Within x y = (h : List ℕ) → is_host h ≡ true → host_fits x h ≡ true → host_fits y h ≡ true

letter-a : is_host (97 ∷ []) ≡ true
unfolding computing
letter-a = refl

letter-b : is_host (98 ∷ []) ≡ true
unfolding computing
letter-b = refl

-- a host that a host part admits, or none
data Reach : HostPart → Type 0 where
  reaches : {x : HostPart} (h : List ℕ) → is_host h ≡ true → host_fits x h ≡ true → Reach x
  none_below : (g : List ℕ) → NoneBelow g → Reach (subdomains_of g)

below-fits : (b : ℕ) (g : List ℕ) → ends_in (46 ∷ g) (b ∷ 46 ∷ g) ≡ true
below-fits b g = before-ends (b ∷ []) (46 ∷ g) (omega arith)

reach : (x : HostPart) (p : PortPart) → GoodHost x p → Reach x
reach no_host p e = reaches (97 ∷ []) letter-a refl
reach any_host p e = reaches (97 ∷ []) letter-a refl
reach (exact_host g) p e = reaches g e (same-bytes g)
reach (subdomains_of g) p e = go (ltb host_bytes (2 + length g)) refl
  where
    go : (b : Bool) → ltb host_bytes (2 + length g) ≡ b → Reach (subdomains_of g)
    go true u = none_below g (ltb-true host_bytes (2 + length g) u)
    go false u = reaches (97 ∷ 46 ∷ g) (letter-below 97 g refl e (ltb-false host_bytes (2 + length g) u)) (below-fits 97 g)

ends-long : (g h : List ℕ) → ends_in (46 ∷ g) h ≡ true → 2 + length g ≤ length h
ends-long g h e =
    let b = ends-before (46 ∷ g) h e in
    omega (arith, ap length b.1, length-append b.0 (46 ∷ g), b.2)

heads-differ : (g r : List ℕ) → same_bytes g (97 ∷ r) ≡ true → same_bytes g (98 ∷ r) ≡ true → ⊥
heads-differ g r a b =
    let u : g ≡ 97 ∷ r = bytes_same g (97 ∷ r) a in
    let v : g ≡ 98 ∷ r = bytes_same g (98 ∷ r) b in
    let w : ◌≡◌ {A = ℕ} 97 98 = cc in
    omega arith

all-exact : (g : List ℕ) → ((h : List ℕ) → is_host h ≡ true → true ≡ true → same_bytes g h ≡ true) → ⊥
all-exact g f = heads-differ g [] (f (97 ∷ []) letter-a refl) (f (98 ∷ []) letter-b refl)

all-below : (g : List ℕ) → ((h : List ℕ) → is_host h ≡ true → true ≡ true → ends_in (46 ∷ g) h ≡ true) → ⊥
all-below g f = omega (arith, ends-long g (97 ∷ []) (f (97 ∷ []) letter-a refl))

below-exact : (g h : List ℕ) → is_host h ≡ true → 2 + length h ≤ host_bytes → Within (subdomains_of h) (exact_host g) → ⊥
below-exact g h e m f =
    heads-differ g (46 ∷ h) (f (97 ∷ 46 ∷ h) (letter-below 97 h refl e m) (below-fits 97 h)) (f (98 ∷ 46 ∷ h) (letter-below 98 h refl e m) (below-fits 98 h))

ends_same : (g h : List ℕ) → length g ≡ length h → ends_in (46 ∷ h) (97 ∷ 46 ∷ g) ≡ true → g ≡ h
unfolding ends_in
ends_same g h l e =
    let n = length (97 ∷ 46 ∷ g) - length (46 ∷ h) in
    let s : same_bytes (46 ∷ h) (drop n (97 ∷ 46 ∷ g)) ≡ true = and_right (ltb (length (46 ∷ h)) (length (97 ∷ 46 ∷ g))) (same_bytes (46 ∷ h) (drop n (97 ∷ 46 ∷ g))) e in
    let d : n ≡ 1 = omega arith in
    let t : 46 ∷ h ≡ 46 ∷ g = bytes_same (46 ∷ h) (46 ∷ g) (rw d at s) in
    cc

below-below : (g h : List ℕ) → is_host g ≡ true → is_host h ≡ true → 2 + length g ≤ host_bytes → 2 + length h ≤ host_bytes → Within (subdomains_of g) (subdomains_of h) → Within (subdomains_of h) (subdomains_of g) → g ≡ h
below-below g h a b m n to from =
    let u : ends_in (46 ∷ h) (97 ∷ 46 ∷ g) ≡ true = to (97 ∷ 46 ∷ g) (letter-below 97 g refl a m) (below-fits 97 g) in
    let v : ends_in (46 ∷ g) (97 ∷ 46 ∷ h) ≡ true = from (97 ∷ 46 ∷ h) (letter-below 97 h refl b n) (below-fits 97 h) in
    let l : length g ≡ length h = omega (arith, ends-long h (97 ∷ 46 ∷ g) u, ends-long g (97 ∷ 46 ∷ h) v) in
    ends_same g h l u

-- host parts that admit the same of the hosts that texts can say, and admit one
data SameHosts : HostPart → HostPart → Type 0 where
  same_part : {x : HostPart} → SameHosts x x
  scheme_star : SameHosts no_host any_host
  star_scheme : SameHosts any_host no_host

hosts-one : (x y : HostPart) (p q : PortPart) → GoodHost x p → GoodHost y q → (h : List ℕ) → is_host h ≡ true → host_fits x h ≡ true → host_fits y h ≡ true → Within x y → Within y x → SameHosts x y
hosts-one no_host no_host p q a b h e u v to from = same_part
hosts-one no_host any_host p q a b h e u v to from = scheme_star
hosts-one no_host (exact_host g) p q a b h e u v to from = absurd (all-exact g to)
hosts-one no_host (subdomains_of g) p q a b h e u v to from = absurd (all-below g to)
hosts-one any_host no_host p q a b h e u v to from = star_scheme
hosts-one any_host any_host p q a b h e u v to from = same_part
hosts-one any_host (exact_host g) p q a b h e u v to from = absurd (all-exact g to)
hosts-one any_host (subdomains_of g) p q a b h e u v to from = absurd (all-below g to)
hosts-one (exact_host g) no_host p q a b h e u v to from = absurd (all-exact g from)
hosts-one (exact_host g) any_host p q a b h e u v to from = absurd (all-exact g from)
hosts-one (exact_host g) (exact_host f) p q a b h e u v to from = rw (bytes_same f g (to g a (same-bytes g))) same_part
hosts-one (exact_host g) (subdomains_of f) p q a b h e u v to from = absurd (below-exact g f b (omega (arith, ends-long f h v, host-most h e)) from)
hosts-one (subdomains_of g) no_host p q a b h e u v to from = absurd (all-below g from)
hosts-one (subdomains_of g) any_host p q a b h e u v to from = absurd (all-below g from)
hosts-one (subdomains_of g) (exact_host f) p q a b h e u v to from = absurd (below-exact f g a (omega (arith, ends-long g h u, host-most h e)) to)
hosts-one (subdomains_of g) (subdomains_of f) p q a b h e u v to from =
    rw (below-below g f a b (omega (arith, ends-long g h u, host-most h e)) (omega (arith, ends-long f h v, host-most h e)) to from) same_part

-- ---- ports

-- a port that a port-part admits
abbrev port_at : PortPart → Scheme → ℕ
port_at Default s = default_port s
port_at Any s = 0
port_at (Number n) s = n

port-at : (p : PortPart) (s : Scheme) → port_admits p s (port_at p s) ≡ true
unfolding port_admits
port-at Default s = eq-eqb (default_port s) (default_port s) refl
port-at Any s = refl
port-at (Number n) s = eq-eqb n n refl

port-fits : (x : HostPart) (p : PortPart) (s : Scheme) → port_fits x p s (port_at p s) ≡ true
port-fits no_host p s = refl
port-fits any_host p s = port-at p s
port-fits (exact_host g) p s = port-at p s
port-fits (subdomains_of g) p s = port-at p s

port-most : (p : PortPart) (s : Scheme) → GoodPort p → port_at p s ≤ last_port
port-most Default s g = default-most s
port-most Any s g = omega arith
port-most (Number n) s g = g

-- with an expression's scheme, the one part admits the ports that the other does
abbrev SamePorts : Scheme → PortPart → PortPart → Type 0
SamePorts k p q = (s : Scheme) (n : ℕ) → n ≤ last_port → scheme_admits k s ≡ true → port_admits p s n ≡ port_admits q s n

turned : (k : Scheme) (p q : PortPart) → SamePorts k p q → SamePorts k q p
turned k p q f s n h a = sym (f s n h a)

-- 0 is the default port of no scheme
zero-none : (k : Scheme) → 0 ≡ default_port k → ⊥
zero-none Http e = omega arith
zero-none Https e = omega arith

default-any : (k : Scheme) → SamePorts k Default Any → ⊥
unfolding port_admits
default-any k f = zero-none k (eqb-true 0 (default_port k) (f k 0 (omega arith) (scheme-own k)))

any-number : (k : Scheme) (m : ℕ) → SamePorts k Any (Number m) → ⊥
unfolding port_admits
any-number k m f =
    let u : 0 ≡ m = eqb-true 0 m (sym (f k 0 (omega arith) (scheme-own k))) in
    let v : 1 ≡ m = eqb-true 1 m (sym (f k 1 (omega arith) (scheme-own k))) in
    omega arith

-- a port that means the same as no port is dropped
default-number : (k : Scheme) (m : ℕ) → SamePorts k Default (Number m) → Default ≡ normal_port k (Number m)
unfolding port_admits normal_port pick
default-number k m f =
    rw (default-dropped k m (λ j a. sym (eqb-true (default_port j) m (sym (f j (default_port j) (default-most j) a) ∙ eq-eqb (default_port j) (default_port j) refl))))

number-number : (k : Scheme) (m n : ℕ) → m ≤ last_port → SamePorts k (Number m) (Number n) → m ≡ n
unfolding port_admits
number-number k m n h f = eqb-true m n (sym (f k m h (scheme-own k)) ∙ eq-eqb m m refl)

ports-one : (k : Scheme) (p q : PortPart) → GoodPort p → GoodPort q → SamePorts k p q → normal_port k p ≡ normal_port k q
ports-one k Default Default g h f = refl
ports-one k Default Any g h f = absurd (default-any k f)
ports-one k Default (Number n) g h f = unfold normal_port in default-number k n f
ports-one k Any Default g h f = absurd (default-any k (turned k Any Default f))
ports-one k Any Any g h f = refl
ports-one k Any (Number n) g h f = absurd (any-number k n f)
ports-one k (Number m) Default g h f = unfold normal_port in sym (default-number k m (turned k (Number m) Default f))
ports-one k (Number m) Any g h f = absurd (any-number k m (turned k (Number m) Any f))
ports-one k (Number m) (Number n) g h f = ap (λ (i : ℕ). normal_port k (Number i)) (number-number k m n g f)

-- a port-part that admits every port is `:*`
every-port : (k : Scheme) (q : PortPart) → SamePorts k Any q → q ≡ Any
every-port k Default f = absurd (default-any k (turned k Any Default f))
every-port k Any f = refl
every-port k (Number n) f = absurd (any-number k n f)

-- ---- two expressions that admit the same origins

and-true-at : (a b c : Bool) → a && (b && c) ≡ true → (a ≡ true) × (b ≡ true)
and-true-at a b c e = (and_left a (b && c) e, and_left b c (and_right a (b && c) e))

-- what the one admits at its own scheme, the other admits
module _ (e f : SourceExpression) (g : GoodExpression e) (same : (o : TupleOrigin) → is_host o.host ≡ true → o.port ≤ last_port → fits e o ≡ fits f o) where
  own : (h : List ℕ) → is_host h ≡ true → host_fits e.host h ≡ true → (scheme_admits f.scheme e.scheme ≡ true) × (host_fits f.host h ≡ true)
  own h u v =
      let n = port_at e.port e.scheme in
      let o : TupleOrigin = record { scheme = e.scheme; host = h; port = n } in
      let w : fits e o ≡ true = rw (scheme-own e.scheme, v, port-fits e.host e.port e.scheme) in
      and-true-at (scheme_admits f.scheme e.scheme) (host_fits f.host h) (port_fits f.host f.port e.scheme n) (sym (same o u (port-most e.port e.scheme g.port)) ∙ w)

abbrev parts : Scheme → HostPart → PortPart → SourceExpression
parts k x p = record { scheme = k; host = x; port = p }

abbrev OneFormOrTwo : SourceExpression → SourceExpression → Type 0
OneFormOrTwo e f = (normal_form e ≡ normal_form f) ⊎ (StayTwo e f ⊎ StayTwo f e)

abbrev PortsFit : Scheme → HostPart → PortPart → HostPart → PortPart → Type 0
PortsFit k x p y q = (s : Scheme) (n : ℕ) → n ≤ last_port → scheme_admits k s ≡ true → port_fits x p s n ≡ port_fits y q s n

one-port : (k : Scheme) (x : HostPart) (p q : PortPart) → GoodHost x p → GoodHost x q → GoodPort p → GoodPort q → PortsFit k x p x q → normal_port k p ≡ normal_port k q
one-port k no_host p q a b c d f = ap (normal_port k) (a ∙ sym b)
one-port k any_host p q a b c d f = ports-one k p q c d f
one-port k (exact_host g) p q a b c d f = ports-one k p q c d f
one-port k (subdomains_of g) p q a b c d f = ports-one k p q c d f

all-ports : (k : Scheme) (q : PortPart) → ((s : Scheme) (n : ℕ) → n ≤ last_port → scheme_admits k s ≡ true → true ≡ port_admits q s n) → q ≡ Any
all-ports k q f = every-port k q (λ s n h a. admits-any-port s n ∙ f s n h a)

one_form : (k : Scheme) {x y : HostPart} (p q : PortPart) → GoodHost x p → GoodHost y q → GoodPort p → GoodPort q → SameHosts x y → PortsFit k x p y q → OneFormOrTwo (parts k x p) (parts k y q)
one_form k p q a b c d (same_part {x}) f =
    inl (rw (form-parts (parts k x p), form-parts (parts k x q)) (ap (expression_parts_text k x) (one-port k x p q a b c d f)))
one_form k p q a b c d scheme_star f = rw (a, all-ports k q f) (inr (inl (everything k)))
one_form k p q a b c d star_scheme f = rw (b, all-ports k p (λ s n h u. sym (f s n h u))) (inr (inr (everything k)))

module _ (e f : SourceExpression) (g : GoodExpression e) (i : GoodExpression f) (alike : AdmitAlike e f) where
  same-fits : (o : TupleOrigin) → is_host o.host ≡ true → o.port ≤ last_port → fits e o ≡ fits f o
  same-fits o h n = sym (admits-apart e o) ∙ (alike o (record { host = host-origin o.host h; port = n }) ∙ admits-apart f o)

  turned-fits : (o : TupleOrigin) → is_host o.host ≡ true → o.port ≤ last_port → fits f o ≡ fits e o
  turned-fits o h n = sym (same-fits o h n)

  -- there is a host that the one admits
  with-host : (h : List ℕ) → is_host h ≡ true → host_fits e.host h ≡ true → OneFormOrTwo e f
  with-host h u v =
      let w = own e f g same-fits h u v in
      let k : e.scheme ≡ f.scheme = schemes-one e.scheme f.scheme (own f e i turned-fits h u w.1).0 w.0 in
      let x : SameHosts e.host f.host = hosts-one e.host f.host e.port f.port g.host i.host h u v w.1 (λ d a b. (own e f g same-fits d a b).1) (λ d a b. (own f e i turned-fits d a b).1) in
      let ports : PortsFit e.scheme e.host e.port f.host f.port = λ s n m a. rw (← k, a, v, w.1) at (same-fits (record { scheme = s; host = h; port = n }) u m) in
      let r : OneFormOrTwo e (parts e.scheme f.host f.port) = one_form e.scheme e.port f.port g.host i.host g.port i.port x ports in
      subst (OneFormOrTwo e) (λ j. record { scheme = k j; host = f.host; port = f.port }) r

-- `*.` and a host below which there is none admits nothing
below_none : (k : Scheme) (g : List ℕ) (p : PortPart) → NoneBelow g → (o : TupleOrigin) → GoodOrigin o → admits (below k g p) (tuple o) ≡ false
below_none k g p m o d = go (ends_in (46 ∷ g) o.host) refl
  where
    go : (b : Bool) → ends_in (46 ∷ g) o.host ≡ b → admits (below k g p) (tuple o) ≡ false
    go true u = absurd (omega (arith, ends-long g o.host u, origin-host-most o.host d.host))
    go false u = rw (admits-apart (below k g p) o, u) (and-false (scheme_admits k o.scheme))

admitting : (f : SourceExpression) → GoodExpression f → (h : List ℕ) → is_host h ≡ true → host_fits f.host h ≡ true → (o : TupleOrigin) × (_ : GoodOrigin o) × (admits f (tuple o) ≡ true)
admitting f i h u v =
    let o : TupleOrigin = record { scheme = f.scheme; host = h; port = port_at f.port f.scheme } in
    (o, record { host = host-origin h u; port = port-most f.port f.scheme i.port }, rw (admits-apart f o, scheme-own f.scheme, v, port-fits f.host f.port f.scheme))

both-empty : (k j : Scheme) (a b : List ℕ) (p q : PortPart) → NoneBelow a → NoneBelow b → (c : Bool) → same_bytes (normal_form (below k a p)) (normal_form (below j b q)) ≡ c → OneFormOrTwo (below k a p) (below j b q)
both-empty k j a b p q m n true c = inl (bytes_same (normal_form (below k a p)) (normal_form (below j b q)) c)
both-empty k j a b p q m n false c = inr (inl (nothing k j a b p q m n (λ w. clash (cc (ap (λ (l : List ℕ). same_bytes l (normal_form (below j b q))) w, same-bytes (normal_form (below j b q)))))))

-- by the hosts that the two admit, if any
by-reach : (k j : Scheme) {x y : HostPart} (p q : PortPart) → GoodExpression (parts k x p) → GoodExpression (parts j y q) → AdmitAlike (parts k x p) (parts j y q) → Reach x → Reach y → OneFormOrTwo (parts k x p) (parts j y q)
by-reach k j p q g i alike (reaches {x} h u v) r = with-host (parts k x p) (parts j _ q) g i alike h u v
by-reach k j p q g i alike (none_below a m) (reaches {x} h u v) =
    let w = admitting (parts j x q) i h u v in
    let t : true ≡ false = sym w.2 ∙ (sym (alike w.0 w.1) ∙ below_none k a p m w.0 w.1) in
    clash cc
by-reach k j p q g i alike (none_below a m) (none_below b n) = both-empty k j a b p q m n (same_bytes (normal_form (below k a p)) (normal_form (below j b q))) refl

-- two expressions that texts can say, and that admit the same origins that texts can say, have the same normal form or stay two as `StayTwo` lists
pub alike-form : (e f : SourceExpression) → GoodExpression e → GoodExpression f → AdmitAlike e f → (normal_form e ≡ normal_form f) ⊎ (StayTwo e f ⊎ StayTwo f e)
alike-form e f g i alike = by-reach e.scheme f.scheme e.port f.port g i alike (reach e.host e.port g.host) (reach f.host f.port i.host)

-- each pair of `StayTwo` admits the same origins ...
pub two-alike : {e f : SourceExpression} → StayTwo e f → AdmitAlike e f
two-alike (everything k) o g = rw (admits-apart (parts k no_host Default) o, admits-apart (parts k any_host Any) o, admits-any-port o.scheme o.port)
two-alike (nothing k j a b p q m n d) o g = below_none k a p m o g ∙ sym (below_none j b q n o g)

-- ... and has two normal forms: those of a scheme alone and of `*:*` differ in length, the others by definition
scheme-form : (k : Scheme) → normal_form (parts k no_host Default) ≡ normal_form (parts k any_host Any) → ⊥
unfolding computing
scheme-form Http n = omega (arith, ap length n)
scheme-form Https n = omega (arith, ap length n)

pub two-forms : {e f : SourceExpression} → StayTwo e f → normal_form e ≡ normal_form f → ⊥
two-forms (everything k) = scheme-form k
two-forms (nothing k j a b p q m n d) = d
