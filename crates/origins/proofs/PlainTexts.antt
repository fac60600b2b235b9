-- An expression's text stands in a string as it is: it has no quote and no backslash. Assumes nothing.
use mathlib.Core.Path.{◌≡◌, refl}
use Prim.Native.Nat.{ℕ}
use mathlib.Core.List.{List, [], ◌∷◌, ◌++◌}
use mathlib.Core.Bool.{true}
use Rattle.ascii.specs.Texts.{every}
use Rattle.ascii.proofs.Bytes.{and_left, and_right}
use Rattle.origins.specs.Origins.{scheme_text, scheme_slashes}
use Rattle.origins.specs.Expressions.{HostPart, SourceExpression}
use Rattle.origins.specs.Expressions.HostPart.{no_host, any_host, exact_host, subdomains_of}
use Rattle.origins.specs.NormalForms.{GoodPort, GoodHost, GoodExpression, port_text, port_part_text, expression_parts_text, expression_text}
use Rattle.origins.specs.declared.Scheme.{Scheme}
use Rattle.origins.specs.declared.Scheme.TheVariants.{Http, Https}
use Rattle.origins.specs.declared.PortPart.{PortPart}
use Rattle.origins.specs.declared.PortPart.TheVariants.{Default, Any, Number}
use Rattle.origins.proofs.HostBytes.{is_plain, host-bytes, host-plain, digits-plain}
use Rattle.origins.proofs.Decimals.{port-digits}

every-both : (xs ys : List ℕ) → every is_plain xs ≡ true → every is_plain ys ≡ true → every is_plain (xs ++ ys) ≡ true
unfolding every
every-both [] ys e f = f
every-both (x ∷ xs) ys e f = rw (and_left (is_plain x) (every is_plain xs) e) (every-both xs ys (and_right (is_plain x) (every is_plain xs) e) f)

slashes-plain : (k : Scheme) → every is_plain (scheme_slashes k) ≡ true
unfolding every
slashes-plain Http = refl
slashes-plain Https = refl

scheme-plain : (k : Scheme) → every is_plain (scheme_text k) ≡ true
unfolding every
scheme-plain Http = refl
scheme-plain Https = refl

port-plain : (p : PortPart) → GoodPort p → every is_plain (port_part_text p) ≡ true
unfolding port_part_text every
port-plain Default g = refl
port-plain Any g = refl
port-plain (Number n) g = digits-plain (port_text n) (port-digits n g)

parts-plain : (k : Scheme) (x : HostPart) (p : PortPart) → GoodHost x p → GoodPort p → every is_plain (expression_parts_text k x p) ≡ true
unfolding expression_parts_text
parts-plain k no_host p g h = scheme-plain k
parts-plain k any_host p g h = every-both (scheme_slashes k) (42 ∷ port_part_text p) (slashes-plain k) (unfold every in port-plain p h)
parts-plain k (exact_host x) p g h = every-both (scheme_slashes k) (x ++ port_part_text p) (slashes-plain k) (every-both x (port_part_text p) (host-plain x (host-bytes x g)) (port-plain p h))
parts-plain k (subdomains_of x) p g h =
    every-both (scheme_slashes k) (42 ∷ 46 ∷ (x ++ port_part_text p)) (slashes-plain k)
    (unfold every in every-both x (port_part_text p) (host-plain x (host-bytes x g)) (port-plain p h))

pub expression-plain : (e : SourceExpression) → GoodExpression e → every is_plain (expression_text e) ≡ true
expression-plain e g = parts-plain e.scheme e.host e.port g.host g.port
