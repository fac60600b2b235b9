-- The parts of a text that says an origin or is an expression: the converse of reading back. Assumes nothing.
use mathlib.Core.Path.{◌≡◌, refl, ap, ◌∙◌, sym}
use Prim.Native.Nat.{ℕ, ◌≤◌}
use mathlib.Core.List.{List, [], ◌∷◌, ◌++◌}
use mathlib.Core.Bool.{Bool, true, false, not}
use Rattle.std.specs.Prelude.{Option, Some, None}
use lib.ListN.{length, take, drop, take-append-drop}
use lib.Dec.{eqb}
use borrow.Author.Tests.{eqb-true}
use Rattle.ascii.proofs.Clash.{clash}
use Rattle.ascii.specs.Bytes.{pick}
use Rattle.ascii.specs.Literals.{text}
use Rattle.ascii.specs.Texts.{lowered, same_bytes, same_lowered}
use Rattle.ascii.specs.Reading.{is_empty, run_of, past}
use Rattle.ascii.proofs.Texts.{bytes_same}
use Rattle.ascii.proofs.Reading.{run-cut}
use Rattle.origins.specs.Hosts.{is_host, is_origin_host}
use Rattle.origins.specs.Ports.{origin_port, port_part_of}
use Rattle.origins.specs.Origins.{TupleOrigin, scheme_text, scheme_slashes, past_scheme, null_text, starts_with, not_colon, with_port, tuple_of, origin_of}
use Rattle.origins.specs.Origins.OriginSaid.{says_empty, says_null, says_tuple, no_origin}
use Rattle.origins.specs.Expressions.{HostPart, SourceExpression, host_part_of, with_parts, scheme_source, host_source_of, starts_lowered, expression_of}
use Rattle.origins.specs.Expressions.HostPart.{any_host, exact_host, subdomains_of}
use Rattle.origins.specs.declared.Scheme.{Scheme}
use Rattle.origins.specs.declared.Scheme.TheVariants.{Http, Https}
use Rattle.origins.specs.declared.PortPart.{PortPart}
use Rattle.origins.proofs.Readers.{starts-lowered-long}
use Rattle.origins.proofs.ReadBack.{Follows}
use Rattle.origins.proofs.ReadBack.Follows.{nothing, colon}

-- past a run without colons stands nothing, or a colon
colon-follows : (l : List ℕ) → Follows (past not_colon l)
unfolding past
colon-follows [] = nothing
colon-follows (x ∷ xs) = go (eqb x 58) refl (colon-follows xs)
  where
    go : (b : Bool) → eqb x 58 ≡ b → Follows (past not_colon xs) → Follows (pick (not b) (past not_colon xs) (x ∷ xs))
    go = unfold pick in (elim [ true ↦ λ e f. rw (eqb-true x 58 e) colon | false ↦ λ e f. f ])

starts_is : (t s : List ℕ) → starts_with t s ≡ true → s ≡ t ++ drop (length t) s
unfolding starts_with
starts_is t s e = sym (take-append-drop (length t) s) ∙ ap (λ (l : List ℕ). l ++ drop (length t) s) (bytes_same (take (length t) s) t e)

empty-is : (s : List ℕ) → is_empty s ≡ true → s ≡ []
unfolding is_empty
empty-is [] e = refl
empty-is (x ∷ xs) e = clash cc

-- a text that says a tuple origin: its scheme and `://`, its host, and what follows
pub record OriginParts (s : List ℕ) (o : TupleOrigin) : Type 0 where
  pub rest : List ℕ
  pub follows : Follows rest
  pub is : s ≡ scheme_slashes o.scheme ++ (o.host ++ rest)
  pub host : is_origin_host o.host ≡ true
  pub port : origin_port o.scheme rest ≡ Some o.port

tuple-said : (k : Scheme) (s l : List ℕ) (o : TupleOrigin) → s ≡ scheme_slashes k ++ l → (b : Bool) (q : Option ℕ) → is_origin_host (run_of not_colon l) ≡ b → origin_port k (past not_colon l) ≡ q → pick b (with_port k (run_of not_colon l) q) no_origin ≡ says_tuple o → OriginParts s o
unfolding pick with_port
tuple-said k s l o e true (Some n) h p f =
    let r : ◌≡◌ {A = TupleOrigin} (record { scheme = k; host = run_of not_colon l; port = n }) o = cc in
    let x : OriginParts s (record { scheme = k; host = run_of not_colon l; port = n }) = record { rest = past not_colon l; follows = colon-follows l; is = e ∙ ap (λ (m : List ℕ). scheme_slashes k ++ m) (run-cut not_colon l); host = h; port = p } in
    rw r at x
tuple-said k s l o e true None h p f = clash cc
tuple-said k s l o e false q h p f = clash cc

tuple-parts : (k : Scheme) (s : List ℕ) (o : TupleOrigin) → starts_with (scheme_slashes k) s ≡ true → tuple_of k (past_scheme k s) ≡ says_tuple o → OriginParts s o
unfolding tuple_of
tuple-parts k s o e f =
    let l = past_scheme k s in
    tuple-said k s l o (starts_is (scheme_slashes k) s e) (is_origin_host (run_of not_colon l)) (origin_port k (past not_colon l)) refl refl f

pub origin-parts : (s : List ℕ) (o : TupleOrigin) → origin_of s ≡ says_tuple o → OriginParts s o
unfolding origin_of
origin-parts s o e = go (is_empty s) (same_bytes s null_text) (starts_with (scheme_slashes Http) s) (starts_with (scheme_slashes Https) s) refl refl e
  where
    go : (a b c d : Bool) → starts_with (scheme_slashes Http) s ≡ c → starts_with (scheme_slashes Https) s ≡ d → pick a says_empty (pick b says_null (pick c (tuple_of Http (past_scheme Http s)) (pick d (tuple_of Https (past_scheme Https s)) no_origin))) ≡ says_tuple o → OriginParts s o
    go true b c d u v f = clash (unfold pick in cc)
    go false true c d u v f = clash (unfold pick in cc)
    go false false true d u v f = tuple-parts Http s o u (unfold pick in f)
    go false false false true u v f = tuple-parts Https s o v (unfold pick in f)
    go false false false false u v f = clash (unfold pick in cc)

-- only the empty text says "empty", and only `null` "null"
tuple-no-empty : (k : Scheme) (l : List ℕ) → (tuple_of k l ≡ says_empty → ⊥) × (tuple_of k l ≡ says_null → ⊥)
unfolding tuple_of
tuple-no-empty k l = go (is_origin_host (run_of not_colon l)) (origin_port k (past not_colon l))
  where
    go : (b : Bool) (q : Option ℕ) → (pick b (with_port k (run_of not_colon l) q) no_origin ≡ says_empty → ⊥) × (pick b (with_port k (run_of not_colon l) q) no_origin ≡ says_null → ⊥)
    go true (Some n) = (λ f. clash (unfold pick with_port in cc), λ f. clash (unfold pick with_port in cc))
    go true None = (λ f. clash (unfold pick with_port in cc), λ f. clash (unfold pick with_port in cc))
    go false q = (λ f. clash (unfold pick in cc), λ f. clash (unfold pick in cc))

pub empty-text : (s : List ℕ) → origin_of s ≡ says_empty → s ≡ []
unfolding origin_of
empty-text s e = go (is_empty s) (same_bytes s null_text) (starts_with (scheme_slashes Http) s) (starts_with (scheme_slashes Https) s) refl e
  where
    go : (a b c d : Bool) → is_empty s ≡ a → pick a says_empty (pick b says_null (pick c (tuple_of Http (past_scheme Http s)) (pick d (tuple_of Https (past_scheme Https s)) no_origin))) ≡ says_empty → s ≡ []
    go true b c d u f = empty-is s u
    go false true c d u f = clash (unfold pick in cc)
    go false false true d u f = absurd ((tuple-no-empty Http (past_scheme Http s)).0 (unfold pick in f))
    go false false false true u f = absurd ((tuple-no-empty Https (past_scheme Https s)).0 (unfold pick in f))
    go false false false false u f = clash (unfold pick in cc)

pub null-text : (s : List ℕ) → origin_of s ≡ says_null → s ≡ null_text
unfolding origin_of
null-text s e = go (is_empty s) (same_bytes s null_text) (starts_with (scheme_slashes Http) s) (starts_with (scheme_slashes Https) s) refl e
  where
    go : (a b c d : Bool) → same_bytes s null_text ≡ b → pick a says_empty (pick b says_null (pick c (tuple_of Http (past_scheme Http s)) (pick d (tuple_of Https (past_scheme Https s)) no_origin))) ≡ says_null → s ≡ null_text
    go true b c d u f = clash (unfold pick in cc)
    go false true c d u f = bytes_same s null_text u
    go false false true d u f = absurd ((tuple-no-empty Http (past_scheme Http s)).1 (unfold pick in f))
    go false false false true u f = absurd ((tuple-no-empty Https (past_scheme Https s)).1 (unfold pick in f))
    go false false false false u f = clash (unfold pick in cc)

-- a host part is one of three
host-said : (g : List ℕ) (x : HostPart) (a b c d : Bool) → is_host (drop 2 g) ≡ c → is_host g ≡ d → pick a (Some any_host) (pick b (pick c (Some (subdomains_of (drop 2 g))) None) (pick d (Some (exact_host g)) None)) ≡ Some x → (P : Type 0) → (x ≡ any_host → P) → (is_host g ≡ true → x ≡ exact_host g → P) → (is_host (drop 2 g) ≡ true → x ≡ subdomains_of (drop 2 g) → P) → P
unfolding pick
host-said g x true b c d u v e P l m n = l cc
host-said g x false true true d u v e P l m n = n u cc
host-said g x false true false d u v e P l m n = clash cc
host-said g x false false c true u v e P l m n = m v cc
host-said g x false false c false u v e P l m n = clash cc

pub host-cases : (g : List ℕ) (x : HostPart) → host_part_of g ≡ Some x → (P : Type 0) → (x ≡ any_host → P) → (is_host g ≡ true → x ≡ exact_host g → P) → (is_host (drop 2 g) ≡ true → x ≡ subdomains_of (drop 2 g) → P) → P
unfolding host_part_of
host-cases g x e P l m n = host-said g x (same_bytes g (text "*")) (starts_with (text "*.") g) (is_host (drop 2 g)) (is_host g) refl refl e P l m n

-- a text that is an expression: a scheme alone, or past its scheme and `://` a host part and a port-part
pub record SourceParts (s : List ℕ) (e : SourceExpression) : Type 0 where
  pub long : length (scheme_slashes e.scheme) ≤ length s
  pub host : host_part_of (lowered (run_of not_colon (past_scheme e.scheme s))) ≡ Some e.host
  pub port : port_part_of (past not_colon (past_scheme e.scheme s)) ≡ Some e.port

source-said : (k : Scheme) (s : List ℕ) (e : SourceExpression) → length (scheme_slashes k) ≤ length s → (x : Option HostPart) (p : Option PortPart) → host_part_of (lowered (run_of not_colon (past_scheme k s))) ≡ x → port_part_of (past not_colon (past_scheme k s)) ≡ p → with_parts k x p ≡ Some e → SourceParts s e
unfolding with_parts
source-said k s e n (Some x) (Some p) h q f =
    let r : ◌≡◌ {A = SourceExpression} (record { scheme = k; host = x; port = p }) e = cc in
    let y : SourceParts s (record { scheme = k; host = x; port = p }) = record { long = n; host = h; port = q } in
    rw r at y
source-said k s e n (Some x) None h q f = clash cc
source-said k s e n None p h q f = clash cc

source-parts : (k : Scheme) (s : List ℕ) (e : SourceExpression) → starts_lowered (scheme_slashes k) s ≡ true → host_source_of k (past_scheme k s) ≡ Some e → SourceParts s e
unfolding host_source_of
source-parts k s e u f =
    source-said k s e (starts-lowered-long (scheme_slashes k) s true (sym u) refl) (host_part_of (lowered (run_of not_colon (past_scheme k s)))) (port_part_of (past not_colon (past_scheme k s))) refl refl f

pub source-cases : (s : List ℕ) (e : SourceExpression) → expression_of s ≡ Some e → (P : Type 0) → ((k : Scheme) → e ≡ scheme_source k → P) → (SourceParts s e → P) → P
unfolding expression_of
source-cases s e f P l m = go (same_lowered s (scheme_text Http)) (same_lowered s (scheme_text Https)) (starts_lowered (scheme_slashes Http) s) (starts_lowered (scheme_slashes Https) s) refl refl f
  where
    go : (a b c d : Bool) → starts_lowered (scheme_slashes Http) s ≡ c → starts_lowered (scheme_slashes Https) s ≡ d → pick a (Some (scheme_source Http)) (pick b (Some (scheme_source Https)) (pick c (host_source_of Http (past_scheme Http s)) (pick d (host_source_of Https (past_scheme Https s)) None))) ≡ Some e → P
    go true b c d u v g = l Http (unfold pick in cc)
    go false true c d u v g = l Https (unfold pick in cc)
    go false false true d u v g = m (source-parts Http s e u (unfold pick in g))
    go false false false true u v g = m (source-parts Https s e v (unfold pick in g))
    go false false false false u v g = clash (unfold pick in cc)
