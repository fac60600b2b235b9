-- Texts that are expressions: the range that the code answers, the parts by document 01, and lengths. Assumes nothing.
use mathlib.Core.Path.{◌≡◌, refl, ap, ◌∙◌, sym, subst}
use Prim.Native.Nat.{ℕ, ◌+◌, ◌-◌, ◌≤◌}
use mathlib.Core.List.{List, ◌++◌}
use mathlib.Core.Bool.{Bool, true, false}
use Rattle.std.specs.Prelude.{Some, None}
use native.Mathlib.Omega.{arith}
use lib.ListN.{length, take, drop, length-append, length-drop, length-take}
use lib.Seq.{take_at, drop-drop, drop-append-le}
use lib.Dec.{leb}
use Rattle.ascii.proofs.Clash.{clash}
use Rattle.limits.specs.Limits.{host_bytes, port_digits}
use Rattle.ascii.specs.Bytes.{pick, lower}
use Rattle.ascii.specs.Literals.{text}
use Rattle.ascii.specs.Texts.{lowered, same_bytes, same_lowered, part_of, part_in}
use Rattle.ascii.specs.Reading.{is_empty, next, run_of, past}
use Rattle.ascii.proofs.Bytes.{and_right}
use Rattle.ascii.proofs.Texts.{same-is, part-in}
use Rattle.ascii.proofs.Reading.{run-cut}
use Rattle.origins.specs.Hosts.{is_host}
use Rattle.ascii.specs.Decimals.{decimal}
use Rattle.origins.specs.Ports.{is_number, is_port_part, port_part_of}
use Rattle.origins.specs.Origins.{scheme_text, scheme_slashes, past_scheme, not_colon}
use Rattle.origins.specs.Expressions.{HostPart, SourceExpression, host_part_of, scheme_source, host_source_of, starts_lowered, expression_of}
use Rattle.origins.specs.Expressions.HostPart.{no_host, any_host, exact_host, subdomains_of}
use Rattle.origins.specs.NormalForms.{GoodPort, GoodHost, GoodExpression}
use Rattle.origins.specs.Answers.{host_kind, host_from, host_to, host_in, expression_range, expression_in}
use Rattle.origins.specs.declared.Scheme.{Scheme}
use Rattle.origins.specs.declared.Scheme.TheVariants.{Http, Https}
use Rattle.origins.specs.declared.PortPart.{PortPart}
use Rattle.origins.specs.declared.PortPart.TheVariants.{Default, Any, Number}
use Rattle.origins.proofs.Steps.{each-length}
use Rattle.origins.proofs.HostParts.{each-drop}
use Rattle.origins.proofs.HostBytes.{host-some, host-most}
use Rattle.origins.proofs.Numbers.{number-most}
use Rattle.origins.proofs.TextParts.{host-cases, source-cases}
use Rattle.origins.proofs.Readers.{starts-lowered-long}

-- a part of a text that stands `i` bytes into what is known to stand at `n`
part-run : (s : List ℕ) (n i : ℕ) (r t : List ℕ) → n ≤ length s → drop n s ≡ r ++ t → i ≤ length r → part_of s (n + i) (n + i + length (drop i r)) ≡ drop i r
part-run s n i r t h e g =
    let a : length s - n ≡ length r + length t = sym (length-drop n s) ∙ ap length e ∙ length-append r t in
    let b : length (drop i r) ≡ length r - i = length-drop i r in
    let m = length (drop i r) in
    let p : take (n + i + m - (n + i)) (drop (n + i) s) ≡ part_of s (n + i) (n + i + m) = part-in s (n + i) (n + i + m) (omega arith) (omega arith) in
    let q : drop (n + i) s ≡ drop i r ++ t = sym (drop-drop i n s) ∙ ap (drop i) e ∙ drop-append-le i r t g in
    sym p ∙ ap (take (n + i + m - (n + i))) q ∙ take_at (drop i r) t (n + i + m - (n + i)) (omega arith)

-- the range that the code answers stands for the host part
host-range : (k : Scheme) (s : List ℕ) (x : HostPart) → length (scheme_slashes k) ≤ length s → host_part_of (lowered (run_of not_colon (past_scheme k s))) ≡ Some x → host_in (host_kind x) (lowered (part_of s (host_from k x) (host_to k x))) ≡ x
host-range k s x h e = host-cases (lowered r) x e (host_in (host_kind x) (lowered (part_of s (host_from k x) (host_to k x))) ≡ x) any exact below
  where
    n : ℕ
    n = length (scheme_slashes k)

    r : List ℕ
    r = run_of not_colon (drop n s)

    any : x ≡ any_host → host_in (host_kind x) (lowered (part_of s (host_from k x) (host_to k x))) ≡ x
    any f = rw f

    exact : is_host (lowered r) ≡ true → x ≡ exact_host (lowered r) → host_in (host_kind x) (lowered (part_of s (host_from k x) (host_to k x))) ≡ x
    exact g f =
        let u : n + 0 ≡ n = omega arith in
        let v : length (lowered r) ≡ length r = each-length lower r in
        let w : part_of s (n + 0) (n + 0 + length r) ≡ r = part-run s n 0 r (past not_colon (drop n s)) h (run-cut not_colon (drop n s)) (omega arith) in
        rw (f, v) (ap (λ (l : List ℕ). exact_host (lowered l)) (rw u at w))

    below : is_host (drop 2 (lowered r)) ≡ true → x ≡ subdomains_of (drop 2 (lowered r)) → host_in (host_kind x) (lowered (part_of s (host_from k x) (host_to k x))) ≡ x
    below g f =
        let d : drop 2 (lowered r) ≡ lowered (drop 2 r) = sym (each-drop lower 2 r) in
        let v : length (lowered (drop 2 r)) ≡ length (drop 2 r) = each-length lower (drop 2 r) in
        let m : length (drop 2 r) ≡ length r - 2 = length-drop 2 r in
        let i : 1 ≤ length (lowered (drop 2 r)) = rw d at (host-some (drop 2 (lowered r)) g) in
        rw (f, d, v) (ap (λ (l : List ℕ). subdomains_of (lowered l)) (part-run s n 2 r (past not_colon (drop n s)) h (run-cut not_colon (drop n s)) (omega arith)))

-- the range that the code answers stands for the expression
pub expression-range : (s : List ℕ) (e : SourceExpression) → expression_of s ≡ Some e → expression_in s (expression_range e) ≡ e
expression-range s e f =
    source-cases s e f (expression_in s (expression_range e) ≡ e) (λ k g. rw g)
    (λ p. ap {B = SourceExpression} (λ (x : HostPart). record { scheme = e.scheme; host = x; port = e.port }) (host-range e.scheme s e.host p.long p.host))

-- an expression that a text is has a host and a port by document 01
port-good : (l : List ℕ) (p : PortPart) (a b c : Bool) → is_port_part l ≡ c → pick a (Some Default) (pick b (Some Any) (pick c (Some (Number (decimal l))) None)) ≡ Some p → GoodPort p
unfolding pick
port-good l p true b c u e = let q : Default ≡ p = cc in subst (λ (x : PortPart). GoodPort x) q tt
port-good l p false true c u e = let q : Any ≡ p = cc in subst (λ (x : PortPart). GoodPort x) q tt
port-good l p false false true u e =
    let q : Number (decimal l) ≡ p = cc in
    subst (λ (x : PortPart). GoodPort x) q (number-most l (and_right (leb (length l) port_digits) (is_number l) (unfold is_port_part in u)))
port-good l p false false false u e = clash cc

part-good : (l : List ℕ) (p : PortPart) → port_part_of l ≡ Some p → GoodPort p
unfolding port_part_of next
part-good l p e = port-good (drop 1 l) p (is_empty l) (same_bytes (drop 1 l) (text "*")) (is_port_part (drop 1 l)) refl e

host-good : (g : List ℕ) (x : HostPart) (p : PortPart) → host_part_of g ≡ Some x → GoodHost x p
host-good g x p e =
    host-cases g x e (GoodHost x p) (λ f. subst (λ (y : HostPart). GoodHost y p) (sym f) tt)
    (λ h f. subst (λ (y : HostPart). GoodHost y p) (sym f) h) (λ h f. subst (λ (y : HostPart). GoodHost y p) (sym f) h)

pub expression-good : (s : List ℕ) (e : SourceExpression) → expression_of s ≡ Some e → GoodExpression e
expression-good s e f =
    source-cases s e f (GoodExpression e) (λ k g. subst (λ (y : SourceExpression). GoodExpression y) (sym g) (record { host = refl; port = tt }))
    (λ p. record { host = host-good (lowered (run_of not_colon (past_scheme e.scheme s))) e.host e.port p.host; port = part-good (past not_colon (past_scheme e.scheme s)) e.port p.port })

-- the host that an expression names is not too long, where the expression's range says that it stands
module _ (x : List ℕ) (y : SourceExpression) where
  named : List ℕ
  named = part_of x (host_from y.scheme y.host) (host_to y.scheme y.host)

  named-is : (h : List ℕ) → lowered named ≡ h → is_host h ≡ true → length named ≤ host_bytes
  named-is h q g = omega (arith, host-most h g, ap length q, each-length lower named)

  empty-part : length (part_of x 0 0) ≤ host_bytes
  empty-part = omega (arith, ap length (sym (part-in x 0 0 (omega arith) (omega arith))), length-take (0 - 0) (drop 0 x))

  named_by : (z : HostPart) → y.host ≡ z → host_in (host_kind z) (lowered named) ≡ z → GoodHost z y.port → length named ≤ host_bytes
  unfolding named
  named_by no_host f q g = rw f empty-part
  named_by any_host f q g = rw f empty-part
  named_by (exact_host h) f q g = named-is h (cc) g
  named_by (subdomains_of h) f q g = named-is h (cc) g

  pub named-short : expression_of x ≡ Some y → length (part_in x (expression_range y).host) ≤ host_bytes
  unfolding named
  named-short e = named_by y.host refl (ap (λ (z : SourceExpression). z.host) (expression-range x y e)) (expression-good x y e).host

-- an expression has at least the five bytes of `http:`
same_length : (s t : List ℕ) → same_lowered s t ≡ true → length s ≡ length t
same_length s t e = sym (each-length lower s) ∙ ap length (same-is lower s t e)

pub expression-long : (s : List ℕ) (e : SourceExpression) → expression_of s ≡ Some e → length (scheme_text Http) ≤ length s
unfolding expression_of
expression-long s e f = go (same_lowered s (scheme_text Http)) (same_lowered s (scheme_text Https)) (starts_lowered (scheme_slashes Http) s) (starts_lowered (scheme_slashes Https) s) refl refl refl refl f
  where
    go : (a b c d : Bool) → same_lowered s (scheme_text Http) ≡ a → same_lowered s (scheme_text Https) ≡ b → starts_lowered (scheme_slashes Http) s ≡ c → starts_lowered (scheme_slashes Https) s ≡ d → pick a (Some (scheme_source Http)) (pick b (Some (scheme_source Https)) (pick c (host_source_of Http (past_scheme Http s)) (pick d (host_source_of Https (past_scheme Https s)) None))) ≡ Some e → length (scheme_text Http) ≤ length s
    go true b c d p q u v g = omega (arith, same_length s (scheme_text Http) p)
    go false true c d p q u v g = omega (arith, same_length s (scheme_text Https) q)
    go false false true d p q u v g = omega (arith, starts-lowered-long (scheme_slashes Http) s true (sym u) refl)
    go false false false true p q u v g = omega (arith, starts-lowered-long (scheme_slashes Https) s true (sym v) refl)
    go false false false false p q u v g = clash (unfold pick in cc)
