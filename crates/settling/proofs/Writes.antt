-- Writing at a place, and expressions as bytes. Assumes nothing.
use mathlib.Core.Path.{◌≡◌, refl, ap, ◌∙◌, sym}
use Prim.Native.Nat.{ℕ, ◌+◌, ◌*◌, ◌/◌, ◌%◌, ◌≤◌, ◌<◌}
use Rattle.std.specs.Prelude.{Option, Some, None}
use mathlib.Core.List.{List, [], ◌∷◌, ◌++◌, append_assoc, append-nil}
use native.Mathlib.Omega.{arith}
use native.Mathlib.Numerals.{add-one}
use lib.ListN.{length, get_or, take, drop, set, length-append, length-set, length-drop, take-append-drop}
use lib.Seq.{take-suc, take-suc-set, drop-set-lt, take_all, drop-drop, take_at, drop_at, take-append_seam, drop-append_seam, length-take-le}
use Rattle.ascii.specs.Bytes.{pick, lower}
use Rattle.ascii.specs.Texts.{each, lowered, part_in}
use Rattle.origins.specs.Expressions.{HostPart, SourceExpression}
use Rattle.origins.specs.Expressions.HostPart.{no_host, any_host, exact_host, subdomains_of}
use Rattle.origins.specs.Answers.{host_kind, host_in, expression_in}
use Rattle.origins.specs.declared.ExpressionRange.{ExpressionRange}
use Rattle.origins.specs.declared.HostKind.{HostKind}
use Rattle.origins.specs.declared.HostKind.TheVariants as kind
use Rattle.origins.specs.declared.Scheme.{Scheme}
use Rattle.origins.specs.declared.Scheme.TheVariants.{Http, Https}
use Rattle.origins.specs.declared.PortPart.{PortPart}
use Rattle.origins.specs.declared.PortPart.TheVariants.{Default, Any, Number}
use Rattle.origins.specs.Answers.{expression_by}
use Rattle.origins.proofs.Steps.{each-length}
use Rattle.settled.specs.Settled.{word, scheme_bits, host_bits, port_bits, parts_of, expressions_from}
use Rattle.settled.proofs.Laws.{from-none, from_first, parts-by}
use Rattle.settling.specs.Writing.{scheme_number, host_number, host_text, port_number, port_value, kind_of, expression_bytes, expressions_bytes}
use Rattle.settling.specs.Steps.{Wrote}

-- a text between what stood before it and past it
wrote-parts : (l t : List ℕ) (at : ℕ) → at + length t ≤ length l → Wrote l at t (take at l ++ (t ++ drop (at + length t) l)) (at + length t)
wrote-parts l t at h =
    let a = take at l in
    let r = drop (at + length t) l in
    let n : length a ≡ at = length-take-le at l (omega arith) in
    let m : length (a ++ t) ≡ at + length t = omega (arith, length-append a t, n) in
    record {
      end = refl;
      front = ap (take (at + length t)) (sym (append_assoc a t r)) ∙ take_at (a ++ t) r (at + length t) m;
      back = ap (drop (at + length t)) (sym (append_assoc a t r)) ∙ drop_at (a ++ t) r (at + length t) m;
      long = omega (arith, length-append a (t ++ r), length-append t r, n, length-drop (at + length t) l);
    }

-- the same, as a part of the run that was replaced
pub wrote-part : (l t m : List ℕ) (at k : ℕ) → at + length t ≤ length l → k ≡ length t → m ≡ t → Wrote l at t (take at l ++ (m ++ drop k (drop at l))) (at + length t)
wrote-part l t m at k h e f = rw (e, f, drop-drop (length t) at l) (wrote-parts l t at h)

-- nothing, one text after another
pub wrote_none : (l : List ℕ) (at : ℕ) → Wrote l at [] l at
wrote_none l at = record { end = omega arith; front = sym (append-nil (take at l)); back = refl; long = refl }

pub wrote_on : (l m n : List ℕ) (at q r : ℕ) (a b : List ℕ) → Wrote l at a m q → Wrote m q b n r → Wrote l at (a ++ b) n r
wrote_on l m n at q r a b x y =
    record {
      end = omega (arith, x.end, y.end, length-append a b);
      front = y.front ∙ ap (λ (z : List ℕ). z ++ b) x.front ∙ append_assoc (take at l) a b;
      back = y.back ∙ (rw y.end (sym (drop-drop (length b) q m) ∙ (ap (drop (length b)) x.back ∙ drop-drop (length b) q l)));
      long = y.long ∙ x.long;
    }

pub wrote_as : (l m : List ℕ) (at r : ℕ) (a b : List ℕ) → a ≡ b → Wrote l at a m r → Wrote l at b m r
wrote_as l m at r a b e w = rw e at w

-- a run by what was written in it
pub wrote-is : (l m t : List ℕ) (at r : ℕ) → Wrote l at t m r → m ≡ take at l ++ (t ++ drop (at + length t) l)
wrote-is l m t at r w =
    sym (take-append-drop r m)
    ∙ (ap (λ (z : List ℕ). z ++ drop r m) w.front ∙ (ap (λ (z : List ℕ). (take at l ++ t) ++ z) w.back ∙ (rw w.end (append_assoc (take at l) t (drop (at + length t) l)))))

-- one byte
wrote-byte : (l : List ℕ) (at v : ℕ) → at < length l → Wrote l at (v ∷ []) (set l at v) (at + 1)
wrote-byte l at v h = record { end = refl; front = rw add-one (take-suc-set l at v h); back = drop-set-lt (at + 1) l at v (omega arith); long = length-set l at v }

-- a text in lower case, byte by byte
each_append : (f : ℕ → ℕ) (a b : List ℕ) → each f (a ++ b) ≡ each f a ++ each f b
unfolding each
each_append f [] b = refl
each_append f (x ∷ xs) b = ap (λ (l : List ℕ). f x ∷ l) (each_append f xs b)

pub low-start : (l : List ℕ) (at : ℕ) (t : List ℕ) → Wrote l at (lowered (take 0 t)) l (at + 0)
unfolding each
low-start l at t = let e : at + 0 ≡ at = omega arith in rw e (wrote_none l at)

pub low-more : (l m : List ℕ) (at : ℕ) (t : List ℕ) (j x : ℕ) → j < length t → at + length t ≤ length l → x ≡ lower (get_or t j 0) → Wrote l at (lowered (take j t)) m (at + j) → Wrote l at (lowered (take (j + 1) t)) (set m (at + j) x) (at + (j + 1))
low-more l m at t j x h g e u =
    let i : at + j + 1 ≡ at + (j + 1) = omega arith in
    let v : Wrote m (at + j) (x ∷ []) (set m (at + j) x) (at + (j + 1)) = rw i at (wrote-byte m (at + j) x (omega (arith, u.long))) in
    let w : lowered (take j t) ++ (x ∷ []) ≡ lowered (take (j + 1) t) = rw (add-one, take-suc t j 0 h, each_append lower (take j t) (get_or t j 0 ∷ []), e) (unfold each in refl) in
    wrote_as l (set m (at + j) x) at (at + (j + 1)) (lowered (take j t) ++ (x ∷ [])) (lowered (take (j + 1) t)) w (wrote_on l m (set m (at + j) x) at (at + j) (at + (j + 1)) (lowered (take j t)) (x ∷ []) u v)

pub low-all : (l m : List ℕ) (at : ℕ) (t : List ℕ) (j : ℕ) → j ≤ length t → length t ≤ j → Wrote l at (lowered (take j t)) m (at + j) → Wrote l at (lowered t) m (at + length t)
low-all l m at t j low high u =
    let q : j ≡ length t = omega arith in
    let w : Wrote l at (lowered (take (length t) t)) m (at + length t) = rw q at u in
    rw (take_all (length t) t (omega arith)) at w

kind-back : (k : Option HostKind) (h : List ℕ) → host_kind (host_in k h) ≡ k
kind-back None h = refl
kind-back (Some kind.Any) h = refl
kind-back (Some kind.Exact) h = refl
kind-back (Some kind.Subdomains) h = refl

pub port-fits : (p : PortPart) (n : ℕ) → port_value p ≤ 65535 → n ≡ port_value p → n ≤ 65535
port-fits p n h e = omega arith

-- the five parts of an expression, one after the other
module _ (x h : List ℕ) (e : ExpressionRange) (is : lowered h ≡ host_text (expression_in x e).host) where
  pub host-fits : length (host_text (expression_in x e).host) ≤ 255 → length h ≤ 255
  host-fits p = omega (arith, ap length is, each-length lower h)

  pub expression-wrote : (l m m' : List ℕ) (at o r k n p : ℕ) (bs : List ℕ) → p ≡ port_value e.parts.port → p ≤ 65535 → k ≡ scheme_number e.parts.scheme + 2 * host_number e.parts.host + 8 * port_number e.parts.port → n ≡ length h → bs ≡ p % 256 ∷ p / 256 % 256 ∷ [] → Wrote l at (k ∷ n ∷ get_or bs 0 0 ∷ get_or bs 1 0 ∷ []) m o → Wrote m o (lowered h) m' r → Wrote l at (expression_bytes (expression_in x e)) m' r
  expression-wrote l m m' at o r k n p bs ep lp ek en eb u v =
      wrote_as l m' at r (k ∷ n ∷ p % 256 ∷ p / 256 ∷ lowered h) (expression_bytes (expression_in x e)) same (wrote_on l m m' at o r (k ∷ n ∷ p % 256 ∷ p / 256 ∷ []) (lowered h) front v)
    where
      front : Wrote l at (k ∷ n ∷ p % 256 ∷ p / 256 ∷ []) m o
      front = let i : p / 256 % 256 ≡ p / 256 = omega arith in let j : bs ≡ p % 256 ∷ p / 256 ∷ [] = eb ∙ ap (λ (z : ℕ). p % 256 ∷ z ∷ []) i in rw j at u

      same : k ∷ n ∷ p % 256 ∷ p / 256 ∷ lowered h ≡ expression_bytes (expression_in x e)
      same = unfold expression_bytes in (rw (kind-back e.parts.host (lowered (part_in x e.host)), ← is, ek, ep, each-length lower h, en) refl)

-- there is room for each of them
pub expression-bytes : (e : SourceExpression) → length (expression_bytes e) ≡ 4 + length (host_text e.host)
unfolding expression_bytes
expression-bytes e = omega arith

module _ (e : SourceExpression) (l : List ℕ) (at : ℕ) (room : at + length (expression_bytes e) ≤ length l) where
  pub room-front : at + 4 ≤ length l
  room-front = omega (arith, expression-bytes e)

  pub room-host : (m h : List ℕ) (o k n u v : ℕ) → Wrote l at (k ∷ n ∷ u ∷ v ∷ []) m o → lowered h ≡ host_text e.host → o + length h ≤ length m
  room-host m h o k n u v w is = omega (arith, expression-bytes e, w.end, w.long, ap length is, each-length lower h)

-- expressions are read back from their bytes, whatever follows
port-back : (p : PortPart) (n : ℕ) → n ≡ port_value p → port_bits (port_number p) n ≡ p
unfolding pick
port-back Default n e = refl
port-back Any n e = refl
port-back (Number m) n e = ap Number e

scheme-back : (k : Scheme) → scheme_bits (scheme_number k) ≡ k
unfolding pick
scheme-back Http = refl
scheme-back Https = refl

bits_back : (k : Option HostKind) → host_bits (host_number k) ≡ k
unfolding pick
bits_back None = refl
bits_back (Some kind.Any) = refl
bits_back (Some kind.Exact) = refl
bits_back (Some kind.Subdomains) = refl

host-back : (x : HostPart) → host_in (host_kind x) (host_text x) ≡ x
host-back no_host = refl
host-back any_host = refl
host-back (exact_host h) = refl
host-back (subdomains_of h) = refl

scheme-small : (k : Scheme) → scheme_number k < 2
scheme-small Http = omega arith
scheme-small Https = omega arith

kind-small : (k : Option HostKind) → host_number k < 4
kind-small None = omega arith
kind-small (Some kind.Any) = omega arith
kind-small (Some kind.Exact) = omega arith
kind-small (Some kind.Subdomains) = omega arith

part-back : (e : SourceExpression) → expression_by (parts_of (kind_of e) (word (port_value e.port % 256) (port_value e.port / 256))) (host_text e.host) ≡ e
part-back e =
    let k = scheme_number e.scheme in
    let h = host_number (host_kind e.host) in
    let p = port_number e.port in
    let a : (k + 2 * h + 8 * p) % 2 ≡ k = omega (arith, scheme-small e.scheme) in
    let q : (k + 2 * h + 8 * p) / 2 ≡ h + 4 * p = omega (arith, scheme-small e.scheme) in
    let f : (h + 4 * p) % 4 ≡ h = omega (arith, kind-small (host_kind e.host)) in
    let b : (k + 2 * h + 8 * p) / 2 % 4 ≡ h = rw q f in
    let c : (k + 2 * h + 8 * p) / 8 ≡ p = omega (arith, scheme-small e.scheme, kind-small (host_kind e.host)) in
    let d : port_value e.port % 256 + 256 * (port_value e.port / 256) ≡ port_value e.port = omega arith in
    rw (parts-by (kind_of e) (word (port_value e.port % 256) (port_value e.port / 256)), a, b, c, d, scheme-back e.scheme, bits_back (host_kind e.host), host-back e.host, port-back e.port (port_value e.port) refl) refl

pub list_back : (es : List SourceExpression) (y : List ℕ) → expressions_from (length es) (expressions_bytes es ++ y) ≡ es
unfolding expressions_bytes expression_bytes
list_back [] y = from-none y
list_back (e ∷ es) y =
    let h = host_text e.host in
    let z : (h ++ expressions_bytes es) ++ y ≡ h ++ (expressions_bytes es ++ y) = append_assoc h (expressions_bytes es) y in
    rw (z, from_first (length es) (kind_of e) (length h) (port_value e.port % 256) (port_value e.port / 256) (h ++ (expressions_bytes es ++ y)), take-append_seam h (expressions_bytes es ++ y), drop-append_seam h (expressions_bytes es ++ y), part-back e, list_back es y) refl

pub no_bytes : expressions_bytes [] ≡ []
unfolding expressions_bytes
no_bytes = refl

pub one-bytes : (e : SourceExpression) → expressions_bytes (e ∷ []) ≡ expression_bytes e
unfolding expressions_bytes
one-bytes e = append-nil (expression_bytes e)

pub bytes_on : (a b : List SourceExpression) → expressions_bytes (a ++ b) ≡ expressions_bytes a ++ expressions_bytes b
unfolding expressions_bytes
bytes_on [] b = refl
bytes_on (e ∷ a) b = ap (λ (z : List ℕ). expression_bytes e ++ z) (bytes_on a b) ∙ sym (append_assoc (expression_bytes e) (expressions_bytes a) (expressions_bytes b))

-- there are at least four bytes for each
pub bytes-many : (es : List SourceExpression) → 4 * length es ≤ length (expressions_bytes es)
unfolding expressions_bytes expression_bytes
bytes-many [] = omega arith
bytes-many (e ∷ es) = omega (arith, bytes-many es, length-append (expression_bytes e) (expressions_bytes es))
