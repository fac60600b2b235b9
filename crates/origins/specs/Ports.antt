-- 01, "Origins and expressions": ports.
use Rattle.std.specs.Prelude.{ℕ, List, Bool, not, ◌&&◌, length, leb, eqb}
use Rattle.std.specs.Prelude.{Option, Some, None}
use Rattle.limits.specs.Limits.{last_port, port_digits}
use Rattle.ascii.specs.Bytes.{pick, is_digit}
use Rattle.ascii.specs.Literals.{text}
use Rattle.ascii.specs.Texts.{every, same_bytes}
use Rattle.ascii.specs.Reading.{is_empty, next}
use Rattle.ascii.specs.Decimals.{decimal, leads_zero}
use Rattle.origins.specs.declared.Scheme.{Scheme}
use Rattle.origins.specs.declared.Scheme.TheVariants.{Http, Https}
use Rattle.origins.specs.declared.PortPart.{PortPart}
use Rattle.origins.specs.declared.PortPart.TheVariants.{Default, Any, Number}

-- "the scheme's default (80, 443)"
abbrev pub default_port : Scheme → ℕ
default_port Http = 80
default_port Https = 443

-- digits worth at most 65,535
unfoldable pub is_number : List ℕ → Bool
is_number ds = not (is_empty ds) && every is_digit ds && leb (decimal ds) last_port

-- an origin's port: "0 to 65,535 in decimal, no leading zero (`0` itself is good), and never the scheme's default"
unfoldable pub is_port : Scheme → List ℕ → Bool
is_port k ds = is_number ds && not (leads_zero ds) && not (eqb (decimal ds) (default_port k))

-- what follows an origin's host, nothing or `:` and a port: the port, with the default filled in
unfoldable pub origin_port : Scheme → List ℕ → Option ℕ
origin_port k l = pick (is_empty l) (Some (default_port k)) (next l (λ ds. pick (is_port k ds) (Some (decimal ds)) None))

-- an expression's port-part: "perhaps `:` and one to five digits worth at most 65,535, or `:*`"
unfoldable pub is_port_part : List ℕ → Bool
is_port_part ds = leb (length ds) port_digits && is_number ds

unfoldable pub port_part_of : List ℕ → Option PortPart
port_part_of l =
    pick (is_empty l) (Some Default)
    (next l (λ ds. pick (same_bytes ds (text "*")) (Some Any) (pick (is_port_part ds) (Some (Number (decimal ds))) None)))
