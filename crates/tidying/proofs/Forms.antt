-- The normal form of an expression, part by part, as the code adds it. Assumes nothing.
use mathlib.Core.Path.{◌≡◌}
use Prim.Native.Nat.{ℕ}
use mathlib.Core.List.{List, [], ◌∷◌, ◌++◌}
use Rattle.std.specs.Prelude.{Some, None}
use lib.ListN.{drop}
use Rattle.origins.specs.Origins.{scheme_text, scheme_slashes}
use Rattle.origins.specs.Answers.{expression_by, IsPortText}
use Rattle.origins.specs.NormalForms.{port_text, port_part_text, normal_port, normal_form}
use Rattle.origins.specs.declared.PortPart.{PortPart}
use Rattle.origins.specs.declared.PortPart.TheVariants as part
use Rattle.origins.specs.declared.PortText.{PortText}
use Rattle.origins.specs.declared.HostKind.{HostKind}
use Rattle.origins.specs.declared.HostKind.TheVariants as kind
use Rattle.origins.specs.declared.ExpressionParts.{ExpressionParts}
use Rattle.origins.proofs.Laws.{text-no-host, text-any-host, text-exact, text-below, text-default, text-any-port, text-number, form-parts}
use Rattle.tidying.specs.Writing.{Adding}
use Rattle.tidying.specs.declared.Text.{Text}
use Rattle.tidying.proofs.Growing.{adding-on, adding-none}

-- a port-part
pub port-default : (l : Text) (p : PortPart) → p ≡ part.Default → Adding l (port_part_text p) l
port-default l p e = rw (e, text-default) (adding-none l)

module _ (l m : Text) (p : PortPart) where
  pub port-any : p ≡ part.Any → Adding l (58 ∷ 42 ∷ []) m → Adding l (port_part_text p) m
  port-any e h = rw (e, text-any-port) h

  pub port-number : (n : ℕ) (t : PortText) (z : Text) → p ≡ part.Number n → IsPortText n t → Adding l (58 ∷ []) z → (d : List ℕ) → d ≡ drop t.from t.bytes → Adding z d m → Adding l (port_part_text p) m
  port-number n t z e i a d f b = rw (e, text-number n) (adding-on l z m (58 ∷ []) (port_text n) a (rw (f, i.text) at b))

-- an expression, by its host's kind
module _ (h : List ℕ) (e : ExpressionParts) (l z : Text) where
  pub form-none : e.host ≡ None → (t : List ℕ) → t ≡ scheme_text e.scheme → Adding l t z → Adding l (normal_form (expression_by e h)) z
  form-none k t f a = rw (form-parts (expression_by e h), k, text-no-host) (rw f at a)

  module _ (p : PortPart) (q : p ≡ normal_port e.scheme e.port) (m n : Text) (t : List ℕ) (f : t ≡ scheme_slashes e.scheme) (u : Adding l t m) where
    s : Adding l (scheme_slashes e.scheme) m
    s = rw f at u

    pub form-any : (i : HostKind) → e.host ≡ Some i → i ≡ kind.Any → Adding m (42 ∷ []) n → Adding n (port_part_text p) z → Adding l (normal_form (expression_by e h)) z
    form-any i k j u v =
        rw (form-parts (expression_by e h), k, j, ← q, text-any-host)
        (adding-on l m z (scheme_slashes e.scheme) (42 ∷ port_part_text p) s (adding-on m n z (42 ∷ []) (port_part_text p) u v))

    pub form-exact : (i : HostKind) → e.host ≡ Some i → i ≡ kind.Exact → Adding m h n → Adding n (port_part_text p) z → Adding l (normal_form (expression_by e h)) z
    form-exact i k j u v =
        rw (form-parts (expression_by e h), k, j, ← q, text-exact)
        (adding-on l m z (scheme_slashes e.scheme) (h ++ port_part_text p) s (adding-on m n z h (port_part_text p) u v))

    pub form-subdomains : (i : HostKind) → e.host ≡ Some i → i ≡ kind.Subdomains → (o : Text) → Adding m (42 ∷ 46 ∷ []) n → Adding n h o → Adding o (port_part_text p) z → Adding l (normal_form (expression_by e h)) z
    form-subdomains i k j o u v w =
        rw (form-parts (expression_by e h), k, j, ← q, text-below)
        (adding-on l m z (scheme_slashes e.scheme) (42 ∷ 46 ∷ (h ++ port_part_text p)) s
        (adding-on m n z (42 ∷ 46 ∷ []) (h ++ port_part_text p) u (adding-on n o z h (port_part_text p) v w)))
