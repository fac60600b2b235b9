-- What the private functions answer: steps of the readings.
use Rattle.std.specs.Prelude.{ℕ, ◌≤◌, ◌≡◌, length, drop, List, Bool, true, false}
use Rattle.std.specs.Prelude.{Option, Some, None}
use Rattle.ascii.specs.Bytes.{pick}
use Rattle.ascii.specs.Texts.{every}
use Rattle.ascii.specs.Reading.{run_of}
use Rattle.ascii.specs.Places.{IsRun}
use Rattle.ascii.specs.Decimals.{decimal}
use Rattle.origins.specs.Hosts.{labels, is_label}
use Rattle.origins.specs.Origins.{scheme_slashes, past_scheme, not_colon, tuple_of, by_schemes}
use Rattle.origins.specs.Origins.OriginSaid.{no_origin}
use Rattle.origins.specs.declared.Scheme.{Scheme}
use Rattle.origins.specs.Ports.{is_port_part}
use Rattle.origins.specs.Expressions.{HostPart}
use Rattle.origins.specs.Expressions.HostPart.{no_host, any_host, exact_host, subdomains_of}
use Rattle.origins.specs.declared.HostKind.{HostKind}
use Rattle.origins.specs.declared.HostKind.TheVariants as kind

-- one to five digits worth at most 65,535
unfoldable pub port_number : List ℕ → Option ℕ
port_number ds = pick (is_port_part ds) (Some (decimal ds)) None

-- a host that ends at a place; none where a label was to start there
abbrev pub ended_at : ℕ → Bool → Option ℕ
ended_at i starts = pick starts None (Some i)

-- whether the labels up to a colon are good, of the text from a place on
abbrev pub host_labels : List ℕ → ℕ → Bool
host_labels s from = every is_label (labels (run_of not_colon (drop from s)))

-- where the run up to a colon ends, if its labels are good
pub record IsHostEnd (s : List ℕ) (from : ℕ) (r : Option ℕ) : Type 0 where
  pub some_at : (e : ℕ) → r ≡ Some e → IsRun not_colon s from e × (host_labels s from ≡ true)
  pub none_good : r ≡ None → host_labels s from ≡ false

-- the scheme that a text starts with, and what the text says by it
pub record IsScheme (s : List ℕ) (r : Option Scheme) : Type 0 where
  pub of : (k : Scheme) → r ≡ Some k → (length (scheme_slashes k) ≤ length s) × (by_schemes s ≡ tuple_of k (past_scheme k s))
  pub none_known : r ≡ None → by_schemes s ≡ no_origin

abbrev pub host_as : Option HostPart → Option HostKind
host_as (Some no_host) = None
host_as (Some any_host) = Some kind.Any
host_as (Some (exact_host h)) = Some kind.Exact
host_as (Some (subdomains_of h)) = Some kind.Subdomains
host_as None = None
