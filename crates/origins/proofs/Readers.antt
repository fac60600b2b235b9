-- The whole readings of origin texts and expressions, test by test. Assumes nothing.
use Rattle.origins.specs.declared.ExpressionRange.{ExpressionRange}
use Rattle.std.specs.Prelude.{Option, None}
use mathlib.Core.Path.{◌≡◌, ap, ◌∙◌, sym}
use Prim.Native.Nat.{ℕ, ◌≤◌}
use mathlib.Core.List.{List}
use mathlib.Core.Bool.{Bool, true, false}
use Rattle.std.specs.Prelude.{Some}
use native.Mathlib.Omega.{arith}
use lib.ListN.{length, take, length-take}
use Rattle.ascii.specs.Bytes.{pick, lower}
use Rattle.ascii.specs.Texts.{same_bytes, same_lowered}
use Rattle.ascii.proofs.Texts.{same-is}
use Rattle.origins.specs.Origins.{scheme_text, scheme_slashes, past_scheme, null_text, starts_with, tuple_of, by_schemes, origin_of}
use Rattle.origins.specs.Expressions.{scheme_source, starts_lowered, host_source_of, expression_of}
use Rattle.origins.specs.Answers.{expression_range, origin_as, source_as}
use Rattle.origins.specs.declared.Scheme.TheVariants.{Http, Https}
use Rattle.origins.specs.declared.OriginText.{OriginText}
use Rattle.ascii.proofs.Clash.{clash}
use Rattle.origins.specs.declared.Scheme.{Scheme}
use Rattle.origins.specs.Steps.{IsScheme}
use Rattle.origins.specs.declared.OriginText.TheVariants as text
use Rattle.origins.proofs.Steps.{each-length}
use Rattle.origins.proofs.Ports.{empty-yes, empty-no}

-- a text that begins with another is at least as long
module _ (t s : List ℕ) (b : Bool) where
  pub starts-long : b ≡ starts_with t s → b ≡ true → length t ≤ length s
  unfolding starts_with
  starts-long e f =
      omega (arith, ap length (same-is (λ x. x) (take (length t) s) t (sym e ∙ f)), each-length (λ x. x) (take (length t) s), length-take (length t) s)

  pub starts-lowered-long : b ≡ starts_lowered t s → b ≡ true → length t ≤ length s
  unfolding starts_lowered
  starts-lowered-long e f =
      omega (arith, ap length (same-is lower (take (length t) s) t (sym e ∙ f)), each-length lower (take (length t) s), length-take (length t) s)

module _ (s : List ℕ) where
  pub origin-empty : length s ≡ 0 → (Some text.Empty) ≡ origin_as (origin_of s)
  unfolding origin_of pick
  origin-empty h = rw (empty-yes s h)

  module _ (h : length s ≡ 0 → ⊥) (a : Bool) (u : a ≡ same_bytes s null_text) where
    pub origin-null : a ≡ true → (Some text.Null) ≡ origin_as (origin_of s)
    unfolding origin_of pick
    origin-null v = rw (empty-no s h, ← u, v)

    -- by the scheme that it begins with
    module _ (v : a ≡ false) (p : Option Scheme) (is : IsScheme s p) where
      rest : origin_of s ≡ by_schemes s
      unfolding origin_of pick
      rest = rw (empty-no s h, ← u, v)

      pub origin-tuple : (k : Scheme) → p ≡ Some k → (r : Option OriginText) → r ≡ origin_as (tuple_of k (past_scheme k s)) → r ≡ origin_as (origin_of s)
      origin-tuple k e r y = y ∙ ap origin_as (sym (rest ∙ (is.of k e).1))

      pub origin-other : p ≡ None → None ≡ origin_as (origin_of s)
      origin-other e = ap origin_as (sym (rest ∙ is.none_known e))

pub scheme-long : (s : List ℕ) (p : Option Scheme) (k : Scheme) → IsScheme s p → p ≡ Some k → length (scheme_slashes k) ≤ length s
scheme-long s p k is e = (is.of k e).0

-- the scheme
module _ (s : List ℕ) (b : Bool) (w : b ≡ starts_with (scheme_slashes Http) s) where
  pub scheme-http : b ≡ true → IsScheme s (Some Http)
  unfolding pick
  scheme-http x = record { of = λ k e. (let q : Http ≡ k = cc in rw (← q) (starts-long (scheme_slashes Http) s b w x, rw (← w, x))); none_known = λ e. clash cc }

  module _ (x : b ≡ false) (c : Bool) (y : c ≡ starts_with (scheme_slashes Https) s) where
    pub scheme-https : c ≡ true → IsScheme s (Some Https)
    unfolding pick
    scheme-https z = record { of = λ k e. (let q : Https ≡ k = cc in rw (← q) (starts-long (scheme_slashes Https) s c y z, rw (← w, x, ← y, z))); none_known = λ e. clash cc }

    pub scheme-none : c ≡ false → IsScheme s None
    unfolding pick
    scheme-none z = record { of = λ k e. clash cc; none_known = λ e. rw (← w, x, ← y, z) }

-- an expression
module _ (s : List ℕ) where
  module _ (a : Bool) (u : a ≡ same_lowered s (scheme_text Http)) where
    pub source-http : a ≡ true → (r : ExpressionRange) → r ≡ expression_range (scheme_source Http) → Some r ≡ source_as (expression_of s)
    unfolding expression_of pick
    source-http v r e = rw (← u, v) (ap Some e)

    module _ (v : a ≡ false) (b : Bool) (w : b ≡ same_lowered s (scheme_text Https)) where
      pub source-https : b ≡ true → (r : ExpressionRange) → r ≡ expression_range (scheme_source Https) → Some r ≡ source_as (expression_of s)
      unfolding expression_of pick
      source-https x r e = rw (← u, v, ← w, x) (ap Some e)

      module _ (x : b ≡ false) (c : Bool) (y : c ≡ starts_lowered (scheme_slashes Http) s) where
        pub source-http-host : c ≡ true → (r : Option ExpressionRange) → r ≡ source_as (host_source_of Http (past_scheme Http s)) → r ≡ source_as (expression_of s)
        unfolding expression_of pick
        source-http-host z r e = rw (← u, v, ← w, x, ← y, z) e

        module _ (z : c ≡ false) (d : Bool) (f : d ≡ starts_lowered (scheme_slashes Https) s) where
          pub source-https-host : d ≡ true → (r : Option ExpressionRange) → r ≡ source_as (host_source_of Https (past_scheme Https s)) → r ≡ source_as (expression_of s)
          unfolding expression_of pick
          source-https-host g r e = rw (← u, v, ← w, x, ← y, z, ← f, g) e

          pub source-other : d ≡ false → None ≡ source_as (expression_of s)
          unfolding expression_of pick
          source-other g = rw (← u, v, ← w, x, ← y, z, ← f, g)
