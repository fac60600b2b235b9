-- Past the scheme: a host and a port, read by places of the text. Assumes nothing.
use Rattle.origins.specs.declared.HostKind.{HostKind}
use mathlib.Core.Path.{◌≡◌, refl, ap, ◌∙◌, sym}
use Prim.Native.Nat.{ℕ, ◌+◌, ◌-◌, ◌≤◌, ◌<◌}
use mathlib.Core.List.{List}
use mathlib.Core.Bool.{Bool, true, false}
use Rattle.std.specs.Prelude.{Option, Some, None}
use native.Mathlib.Omega.{arith}
use lib.ListN.{length, take, drop, length-drop, length-take}
use Rattle.ascii.proofs.Clash.{clash}
use Rattle.ascii.specs.Bytes.{pick, lower}
use Rattle.ascii.specs.Texts.{lowered, same_bytes}
use Rattle.ascii.specs.Reading.{run_of, past}
use Rattle.ascii.specs.Places.{IsRun}
use Rattle.ascii.proofs.Reading.{run-part}
use Rattle.ascii.specs.Literals
use Rattle.origins.specs.Hosts.{is_host, is_origin_host}
use Rattle.origins.specs.Ports.{origin_port, port_part_of}
use Rattle.origins.specs.Origins.{scheme_slashes, past_scheme, starts_with, not_colon, with_port, tuple_of}
use Rattle.origins.specs.Expressions.{HostPart, host_part_of, with_parts, host_source_of}
use Rattle.origins.specs.Expressions.HostPart.{any_host, exact_host, subdomains_of}
use Rattle.origins.specs.Answers.{origin_as, source_as}
use Rattle.limits.specs.Limits.{host_bytes}
use Rattle.origins.specs.Steps.{host_as, IsHostEnd}
use Rattle.origins.proofs.HostEnds.{host-none, host-run, host-over, host-good}
use Rattle.origins.specs.declared.Scheme.{Scheme}
use Rattle.origins.specs.declared.OriginText.TheVariants as text
use Rattle.origins.specs.declared.PortPart.{PortPart}
use Rattle.origins.specs.declared.HostKind.TheVariants as kind
use Rattle.origins.proofs.HostBytes.{host-some}
use Rattle.origins.proofs.Steps.{each-length, rest_all}

-- what the code's answer on a host part says of the reading
module _ (h : List ℕ) (q : Option HostKind) where
  abbrev parts : Bool → Bool → Bool → Bool → Option HostPart
  parts a b c d = pick a (Some any_host) (pick b (pick c (Some (subdomains_of (drop 2 h))) None) (pick d (Some (exact_host h)) None))

  any-from : (a b c d : Bool) → q ≡ host_as (parts a b c d) → q ≡ Some kind.Any → parts a b c d ≡ Some any_host
  unfolding pick
  any-from true b c d e f = refl
  any-from false true true d e f = clash cc
  any-from false true false d e f = clash cc
  any-from false false c true e f = clash cc
  any-from false false c false e f = clash cc

  exact-from : (a b c d : Bool) → q ≡ host_as (parts a b c d) → q ≡ Some kind.Exact → parts a b c d ≡ Some (exact_host h)
  unfolding pick
  exact-from true b c d e f = clash cc
  exact-from false true true d e f = clash cc
  exact-from false true false d e f = clash cc
  exact-from false false c true e f = refl
  exact-from false false c false e f = clash cc

  subdomains-from : (a b c d : Bool) → q ≡ host_as (parts a b c d) → q ≡ Some kind.Subdomains → (parts a b c d ≡ Some (subdomains_of (drop 2 h))) × (c ≡ true)
  unfolding pick
  subdomains-from true b c d e f = clash cc
  subdomains-from false true true d e f = (refl, refl)
  subdomains-from false true false d e f = clash cc
  subdomains-from false false c true e f = clash cc
  subdomains-from false false c false e f = clash cc

  none_from : (a b c d : Bool) → q ≡ host_as (parts a b c d) → q ≡ None → parts a b c d ≡ None
  unfolding pick
  none_from true b c d e f = clash cc
  none_from false true true d e f = clash cc
  none_from false true false d e f = refl
  none_from false false c true e f = clash cc
  none_from false false c false e f = refl

module _ (h : List ℕ) (q : Option HostKind) (e : q ≡ host_as (host_part_of h)) where
  hosts-any : q ≡ Some kind.Any → host_part_of h ≡ Some any_host
  unfolding host_part_of
  hosts-any f = any-from h q (same_bytes h (Literals.text "*")) (starts_with (Literals.text "*.") h) (is_host (drop 2 h)) (is_host h) e f

  hosts-exact : q ≡ Some kind.Exact → host_part_of h ≡ Some (exact_host h)
  unfolding host_part_of
  hosts-exact f = exact-from h q (same_bytes h (Literals.text "*")) (starts_with (Literals.text "*.") h) (is_host (drop 2 h)) (is_host h) e f

  hosts-subdomains : q ≡ Some kind.Subdomains → (host_part_of h ≡ Some (subdomains_of (drop 2 h))) × (is_host (drop 2 h) ≡ true)
  unfolding host_part_of
  hosts-subdomains f = subdomains-from h q (same_bytes h (Literals.text "*")) (starts_with (Literals.text "*.") h) (is_host (drop 2 h)) (is_host h) e f

  hosts-none : q ≡ None → host_part_of h ≡ None
  unfolding host_part_of
  hosts-none f = none_from h q (same_bytes h (Literals.text "*")) (starts_with (Literals.text "*.") h) (is_host (drop 2 h)) (is_host h) e f

no-port : (k : Scheme) (o : Option HostPart) → None ≡ source_as (with_parts k o None)
unfolding with_parts
no-port k (Some h) = refl
no-port k None = refl

module _ (k : Scheme) (s : List ℕ) (from to : ℕ) (begins : from ≡ length (scheme_slashes k)) (inside : length (scheme_slashes k) ≤ length s) (run : IsRun not_colon s from to) where
  host-there : take (to - from) (drop from s) ≡ run_of not_colon (drop from s)
  host-there = run-part not_colon s from to (omega arith) run.is run.from run.upto

  port-there : take (length s - to) (drop to s) ≡ past not_colon (drop from s)
  port-there = rest_all s to ∙ run.is

  host-length : length (run_of not_colon (drop from s)) ≡ to - from
  host-length = ap length (sym host-there) ∙ length-take (to - from) (drop from s) ∙ omega (arith, length-drop from s, run.upto)

  -- a tuple origin, whose host is good
  module _ (good : is_origin_host (run_of not_colon (drop from s)) ≡ true) (r : Option ℕ) (w : r ≡ origin_port k (take (length s - to) (drop to s))) where
    at-port : tuple_of k (past_scheme k s) ≡ with_port k (run_of not_colon (drop from s)) (origin_port k (take (length s - to) (drop to s)))
    unfolding tuple_of pick
    at-port = rw (← begins, good, port-there)

    pub tuple-no-port : r ≡ None → None ≡ origin_as (tuple_of k (past_scheme k s))
    unfolding with_port
    tuple-no-port e = rw (at-port, sym w ∙ e)

    pub tuple_is : (n : ℕ) → r ≡ Some n → (Some (text.Tuple (record { parts = record { scheme = k; port = n }; host = record { from = from; to = to } }))) ≡ origin_as (tuple_of k (past_scheme k s))
    unfolding with_port
    tuple_is n e =
        let t : to ≡ length (scheme_slashes k) + length (run_of not_colon (drop from s)) = omega (arith, host-length, begins, run.from, run.upto) in
        rw (at-port, sym w ∙ e, ← t, ← begins)

  -- a host-source
  module _ (r : Option PortPart) (w : r ≡ port_part_of (take (length s - to) (drop to s))) where
    at_source : host_source_of k (past_scheme k s) ≡ with_parts k (host_part_of (lowered (take (to - from) (drop from s)))) (port_part_of (take (length s - to) (drop to s)))
    unfolding host_source_of
    at_source = rw (← begins, host-there, port-there)

    pub source-no-port : r ≡ None → None ≡ source_as (host_source_of k (past_scheme k s))
    source-no-port e = rw (at_source, sym w ∙ e) (no-port k (host_part_of (lowered (take (to - from) (drop from s)))))

    module _ (p : PortPart) (e : r ≡ Some p) (q : Option HostKind) (u : q ≡ host_as (host_part_of (lowered (take (to - from) (drop from s))))) where
      at-host : host_source_of k (past_scheme k s) ≡ with_parts k (host_part_of (lowered (take (to - from) (drop from s)))) (Some p)
      at-host = rw (at_source, sym w ∙ e)

      pub source-no-host : q ≡ None → None ≡ source_as (host_source_of k (past_scheme k s))
      unfolding with_parts
      source-no-host f = rw (at-host, hosts-none (lowered (take (to - from) (drop from s))) q u f)

      pub source-any : (i : HostKind) → q ≡ Some i → i ≡ kind.Any → Some (record { parts = record { scheme = k; host = Some i; port = p }; host = record { from = 0; to = 0 } }) ≡ source_as (host_source_of k (past_scheme k s))
      unfolding with_parts
      source-any i f j = rw (at-host, j, hosts-any (lowered (take (to - from) (drop from s))) q u (f ∙ ap Some j))

      pub source-exact : (i : HostKind) → q ≡ Some i → i ≡ kind.Exact → Some (record { parts = record { scheme = k; host = Some i; port = p }; host = record { from = from; to = to } }) ≡ source_as (host_source_of k (past_scheme k s))
      unfolding with_parts
      source-exact i f j =
          let t : to ≡ length (scheme_slashes k) + length (lowered (take (to - from) (drop from s))) = omega (arith, each-length lower (take (to - from) (drop from s)), ap length host-there, host-length, begins, run.from, run.upto) in
          rw (at-host, j, hosts-exact (lowered (take (to - from) (drop from s))) q u (f ∙ ap Some j), ← t, ← begins)

      pub source-subdomains : (i : HostKind) → q ≡ Some i → i ≡ kind.Subdomains → Some (record { parts = record { scheme = k; host = Some i; port = p }; host = record { from = from + 2; to = to } }) ≡ source_as (host_source_of k (past_scheme k s))
      unfolding with_parts
      source-subdomains i f j =
          let m = hosts-subdomains (lowered (take (to - from) (drop from s))) q u (f ∙ ap Some j) in
          let t : to ≡ length (scheme_slashes k) + 2 + length (drop 2 (lowered (take (to - from) (drop from s)))) = omega (arith, length-drop 2 (lowered (take (to - from) (drop from s))), host-some (drop 2 (lowered (take (to - from) (drop from s)))) m.1, each-length lower (take (to - from) (drop from s)), ap length host-there, host-length, begins, run.from, run.upto) in
          rw (at-host, j, m.0, ← t, ← begins)

-- ---- a tuple origin, by the end of its host

module _ (k : Scheme) (s : List ℕ) (from : ℕ) (begins : from ≡ length (scheme_slashes k)) (inside : length (scheme_slashes k) ≤ length s) (r : Option ℕ) (is : IsHostEnd s from r) where
  no-host : is_origin_host (run_of not_colon (drop from s)) ≡ false → None ≡ origin_as (tuple_of k (past_scheme k s))
  unfolding tuple_of pick
  no-host bad = rw (← begins, bad)

  pub tuple-bad-host : r ≡ None → None ≡ origin_as (tuple_of k (past_scheme k s))
  tuple-bad-host e = no-host (host-none s from r is e)

  module _ (to : ℕ) (at : r ≡ Some to) where
    run : IsRun not_colon s from to
    run = host-run s from r is to at

    pub end-from : from ≤ to
    end-from = let a = run.from in omega arith

    pub end-upto : to ≤ length s
    end-upto = run.upto

    pub tuple-long-host : host_bytes < to - from → None ≡ origin_as (tuple_of k (past_scheme k s))
    tuple-long-host h = no-host (host-over s from r is to at (omega (arith, host-length k s from to begins inside run)))

    module _ (short : to - from ≤ host_bytes) (p : Option ℕ) (w : p ≡ origin_port k (take (length s - to) (drop to s))) where
      good : is_origin_host (run_of not_colon (drop from s)) ≡ true
      good = host-good s from r is to at (omega (arith, host-length k s from to begins inside run))

      pub tuple-bad-port : p ≡ None → None ≡ origin_as (tuple_of k (past_scheme k s))
      tuple-bad-port e = tuple-no-port k s from to begins inside run good p w e

      pub tuple-read : (n : ℕ) → p ≡ Some n → (Some (text.Tuple (record { parts = record { scheme = k; port = n }; host = record { from = from; to = to } }))) ≡ origin_as (tuple_of k (past_scheme k s))
      tuple-read n e = tuple_is k s from to begins inside run good p w n e
