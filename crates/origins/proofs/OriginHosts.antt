-- The hosts of origin texts, against the hosts of expressions. Assumes nothing.
use mathlib.Core.Path.{◌≡◌}
use Prim.Native.Nat.{ℕ, ◌≤◌}
use mathlib.Core.List.{List}
use mathlib.Core.Bool.{true}
use lib.ListN.{length}
use Rattle.limits.specs.Limits.{host_bytes}
use Rattle.ascii.specs.Texts.{every}
use Rattle.origins.specs.Hosts.{is_host, is_origin_host}
use Rattle.origins.specs.Origins.{not_colon}
use Rattle.origins.proofs.HostBytes.{host-bytes, host-some, host-most, host-no-colon}

-- a host is one that an origin text can have
pub host-origin : (h : List ℕ) → is_host h ≡ true → is_origin_host h ≡ true
unfolding is_origin_host
host-origin h e = e

module _ (h : List ℕ) (e : is_origin_host h ≡ true) where
  is-host : is_host h ≡ true
  unfolding is_origin_host
  is-host = e

  pub origin-host-some : 1 ≤ length h
  origin-host-some = host-some h is-host

  pub origin-host-most : length h ≤ host_bytes
  origin-host-most = host-most h is-host

  -- the longest are hosts
  pub origin-host-longest : length h ≡ host_bytes → is_host h ≡ true
  origin-host-longest m = is-host

  pub origin-host-no-colon : every not_colon h ≡ true
  origin-host-no-colon = host-no-colon h (host-bytes h is-host)
