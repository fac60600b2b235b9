-- Headers, the bytes that they are settled into, and what these say, by computation.
use Rattle.std.specs.Prelude.{ℕ, ◌≡◌, refl, List, [], ◌∷◌, ◌++◌, true, false, replicate}
use Rattle.std.specs.Prelude.{Some, None}
use Rattle.ascii.specs.Literals.{text}
use Rattle.origins.specs.Expressions.HostPart.{exact_host}
use Rattle.origins.specs.declared.Scheme.TheVariants.{Https}
use Rattle.origins.specs.declared.PortPart.TheVariants.{Default, Number}
use Rattle.allowlists.specs.Allowlists.Allowlist.{all, listed}
use Rattle.settled.specs.Settled.{head_bytes, declared_in}
use Rattle.settling.specs.Writing.{settled_bytes}
use Rattle.settling.specs.Computing.{computing}

-- 01, "Tidied headers", its example
abbrev example : List ℕ
example = text "usb=self,camera=(\"https://B.example:443\" self \"https://b.example\"),foo=1,forms=(self *)"

-- camera has `self` and two expressions, forms is `*`, usb has `self` alone; the first port is 443, 187 and 256
example_bytes : settled_bytes example ≡ 3 ∷ 0 ∷ 0 ∷ 2 ∷ 0 ∷ (replicate 10 0 ++ (1 ∷ 26 ∷ 0 ∷ 0 ∷ 0 ∷ (replicate 60 0 ++ (3 ∷ 0 ∷ 0 ∷ 0 ∷ 0 ∷ (21 ∷ 9 ∷ 187 ∷ 1 ∷ (text "b.example" ++ (5 ∷ 9 ∷ 0 ∷ 0 ∷ text "b.example")))))))
unfolding computing
example_bytes = refl

example_camera : declared_in (settled_bytes example) 0 ≡ Some (listed true false (record { scheme = Https; host = exact_host (text "b.example"); port = Number 443 } ∷ record { scheme = Https; host = exact_host (text "b.example"); port = Default } ∷ []))
unfolding computing
example_camera = refl

example_forms : declared_in (settled_bytes example) 3 ≡ Some all
unfolding computing
example_forms = refl

example_popups : declared_in (settled_bytes example) 12 ≡ None
unfolding computing
example_popups = refl

example_usb : declared_in (settled_bytes example) 16 ≡ Some (listed true false [])
unfolding computing
example_usb = refl

-- a list that a later member replaced stays past the head, and no entry tells of it
replaced : settled_bytes (text "camera=\"http:\", camera=()") ≡ 2 ∷ 4 ∷ 0 ∷ 0 ∷ 0 ∷ (replicate 80 0 ++ (0 ∷ 0 ∷ 0 ∷ 0 ∷ []))
unfolding computing
replaced = refl

-- of a malformed header there is a clear head alone
malformed_bytes : settled_bytes (text "usb=self, camera=(self") ≡ replicate head_bytes 0
unfolding computing
malformed_bytes = refl
