-- An expression's host part, in any case: the steps of the code. Assumes nothing.
use Rattle.origins.specs.declared.HostKind.TheVariants as kind_of_host
use Rattle.std.specs.Prelude.{Some, None}
use mathlib.Core.Path.{◌≡◌, refl, ap, ◌∙◌, sym}
use Prim.Native.Nat.{ℕ, zero, suc, ◌-◌}
use mathlib.Core.List.{List, [], ◌∷◌}
use mathlib.Core.Bool.{Bool, true, false}
use lib.ListN.{length, take, drop}
use Rattle.ascii.specs.Bytes.{pick, lower}
use Rattle.ascii.specs.Literals.{text}
use Rattle.ascii.specs.Texts.{each, lowered, same_bytes, same_lowered}
use Rattle.ascii.proofs.Texts.{same-each}
use Rattle.origins.specs.Hosts.{is_host}
use Rattle.origins.specs.Origins.{starts_with}
use Rattle.origins.specs.Expressions.{host_part_of, starts_lowered}
use Rattle.origins.specs.Steps.{host_as}
use Rattle.origins.proofs.Steps.{rest_all}

pub each_take : (f : ℕ → ℕ) (n : ℕ) (l : List ℕ) → each f (take n l) ≡ take n (each f l)
unfolding each
each_take f zero l = refl
each_take f (suc n) [] = refl
each_take f (suc n) (x ∷ xs) = ap (λ (m : List ℕ). f x ∷ m) (each_take f n xs)

pub each-drop : (f : ℕ → ℕ) (n : ℕ) (l : List ℕ) → each f (drop n l) ≡ drop n (each f l)
unfolding each
each-drop f zero l = refl
each-drop f (suc n) [] = refl
each-drop f (suc n) (x ∷ xs) = each-drop f n xs

starts-lowered-each : (t h : List ℕ) → starts_lowered t h ≡ starts_with t (lowered h)
unfolding starts_lowered starts_with
starts-lowered-each t h = same-each lower (take (length t) h) t ∙ ap (λ (l : List ℕ). same_bytes l t) (each_take lower (length t) h)

module _ (h : List ℕ) (a : Bool) (u : a ≡ same_lowered h (text "*")) where
  star : same_bytes (lowered h) (text "*") ≡ a
  star = sym (u ∙ same-each lower h (text "*"))

  pub host-any : a ≡ true → (Some kind_of_host.Any) ≡ host_as (host_part_of (lowered h))
  unfolding host_part_of pick
  host-any v = rw (star, v)

  module _ (v : a ≡ false) (b : Bool) (w : b ≡ starts_lowered (text "*.") h) where
    starred : starts_with (text "*.") (lowered h) ≡ b
    starred = sym (w ∙ starts-lowered-each (text "*.") h)

    module _ (x : b ≡ true) (d : Bool) (y : d ≡ is_host (lowered (take (length h - 2) (drop 2 h)))) where
      below : is_host (drop 2 (lowered h)) ≡ d
      below = rw (← (each-drop lower 2 h), ← (rest_all h 2)) (sym y)

      pub host-subdomains : d ≡ true → (Some kind_of_host.Subdomains) ≡ host_as (host_part_of (lowered h))
      unfolding host_part_of pick
      host-subdomains z = rw (star, v, starred, x, below, z)

      pub host-no-subdomains : d ≡ false → None ≡ host_as (host_part_of (lowered h))
      unfolding host_part_of pick
      host-no-subdomains z = rw (star, v, starred, x, below, z)

    module _ (x : b ≡ false) (d : Bool) (y : d ≡ is_host (lowered h)) where
      whole : is_host (lowered h) ≡ d
      whole = sym y

      pub host-exact : d ≡ true → (Some kind_of_host.Exact) ≡ host_as (host_part_of (lowered h))
      unfolding host_part_of pick
      host-exact z = rw (star, v, starred, x, whole, z)

      pub host-no-exact : d ≡ false → None ≡ host_as (host_part_of (lowered h))
      unfolding host_part_of pick
      host-no-exact z = rw (star, v, starred, x, whole, z)
