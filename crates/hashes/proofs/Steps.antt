-- What the loops know after so many turns, and a hash by the kind of its host. Assumes nothing.
use mathlib.Core.Path.{◌≡◌, refl, ap, ◌∙◌, sym}
use Prim.Native.Nat.{ℕ, suc, ◌+◌, ◌*◌, ◌%◌, ◌≤◌, ◌<◌}
use mathlib.Core.List.{List, [], ◌∷◌}
use mathlib.Core.Bool.{Bool, true, false, not, ◌&&◌, and-true, and_assoc}
use native.Mathlib.Omega.{arith}
use native.Mathlib.Numerals.{add-one}
use borrow.Author.Tests.{eq-eqb, ne_eqb}
use Rattle.std.specs.Prelude.{Some, None}
use lib.ListN.{length, get_or, drop, drop_of_length-le}
use lib.Seq.{drop-cons}
use lib.Dec.{eqb}
use Rattle.ascii.specs.Bytes.{pick}
use Rattle.ascii.specs.Texts.{every}
use Rattle.ascii.proofs.Texts.{every-none, every_more}
use Rattle.ascii.proofs.Clash.{clash}
use Rattle.origins.specs.Answers.{host_in, expression_by}
use Rattle.origins.specs.NormalForms.{normal_port, normal}
use Rattle.origins.specs.declared.ExpressionParts.{ExpressionParts}
use Rattle.origins.specs.declared.HostKind.{HostKind}
use Rattle.origins.specs.declared.HostKind.TheVariants as kind
use Rattle.origins.proofs.Laws.{normal-parts}
use Rattle.origins.specs.declared.PortPart.{PortPart}
use Rattle.origins.specs.declared.PortPart.TheVariants.{Number}
use Rattle.hashes.specs.Hashes.{text_hash, scheme_hash, port_hash, host_hash, hash_of, is_other, first_place}

-- the hash of what is left, from the number so far on, is the hash of the whole
module _ (t : List ℕ) (i x h : ℕ) (so_far : text_hash x (drop i t) ≡ h) where
  pub hash-more : (y : ℕ) → y ≡ (31 * x + get_or t i 0) % 65536 → i < length t → text_hash y (drop (i + 1) t) ≡ h
  unfolding text_hash
  hash-more y u k = rw (u, add-one i) (rw (drop-cons t i 0 k) at so_far)

  pub hash-end : length t ≤ i → x ≡ h
  unfolding text_hash
  hash-end k = rw (drop_of_length-le t k) at so_far

-- others so far, and those that are left
module _ (x : ℕ) (l : List ℕ) (i : ℕ) (a r : Bool) (so_far : a && every (is_other x) (drop i l) ≡ r) where
  pub other-on : i < length l → (a && is_other x (get_or l i 0)) && every (is_other x) (drop (i + 1) l) ≡ r
  other-on k =
      rw (add-one i)
      (and_assoc a (is_other x (get_or l i 0)) (every (is_other x) (drop (suc i) l)) ∙ (rw (drop-cons l i 0 k, every_more (is_other x) (get_or l i 0) (drop (suc i) l)) at so_far))

  pub other-end : length l ≤ i → a ≡ r
  other-end k = sym (and-true a) ∙ (rw (drop_of_length-le l k, every-none (is_other x)) at so_far)

-- passed so far, and the place among those that are left
module _ (x : ℕ) (l : List ℕ) (i r : ℕ) (so_far : i + first_place x (drop i l) ≡ r) where
  pub place-hit : i < length l → get_or l i 0 ≡ x → i ≡ r
  unfolding first_place pick
  place-hit k e = let z : i + 0 ≡ r = rw (drop-cons l i 0 k, eq-eqb (get_or l i 0) x e) at so_far in omega arith

  pub place-on : i < length l → (get_or l i 0 ≡ x → ⊥) → i + 1 + first_place x (drop (i + 1) l) ≡ r
  unfolding first_place pick
  place-on k e = let z : i + suc (first_place x (drop (suc i) l)) ≡ r = rw (drop-cons l i 0 k, ne_eqb (get_or l i 0) x e) at so_far in rw (add-one i) (omega arith)

  pub place_end : i ≤ length l → length l ≤ i → length l ≡ r
  unfolding first_place
  place_end j k = let z : i + 0 ≡ r = rw (drop_of_length-le l k) at so_far in omega arith

all-place : (x : ℕ) (l : List ℕ) → every (is_other x) l ≡ true → length l ≡ first_place x l
unfolding first_place pick
all-place x [] h = refl
all-place x (y ∷ l) h = go (eqb y x) refl (rw (every_more (is_other x) y l) at h) (all-place x l)
  where
    go : (b : Bool) → eqb y x ≡ b → not (eqb y x) && every (is_other x) l ≡ true → (every (is_other x) l ≡ true → length l ≡ first_place x l) → suc (length l) ≡ pick b 0 (suc (first_place x l))
    go true e g f = clash cc
    go false e g f = ap suc (f (rw e at g))

pub place_none : (x : ℕ) (l : List ℕ) (b : Bool) → b ≡ every (is_other x) l → b ≡ true → length l ≡ first_place x l
place_none x l b e h = all-place x l (sym e ∙ h)

pub port-number : (p : PortPart) (n r : ℕ) → p ≡ Number n → r ≡ n % 65536 → r ≡ port_hash p
port-number p n r e h = rw e h

-- the hash of an expression's normal form, by the kind of its host
module _ (e : ExpressionParts) (h : List ℕ) (k p x : ℕ) (q : PortPart) (port : q ≡ normal_port e.scheme e.port) (scheme : k ≡ scheme_hash e.scheme) (of : p ≡ port_hash q) (start : x ≡ (k + p) % 65536) where
  by_parts : hash_of (normal (expression_by e h)) ≡ host_hash x (host_in e.host h)
  unfolding hash_of
  by_parts = rw (normal-parts (expression_by e h), start, scheme, of, port) refl

  pub hash-none : e.host ≡ None → x ≡ hash_of (normal (expression_by e h))
  hash-none w = rw (by_parts, w) refl

  pub hash-any : (r : ℕ) → (i : HostKind) → e.host ≡ Some i → i ≡ kind.Any → r ≡ (31 * x + 42) % 65536 → r ≡ hash_of (normal (expression_by e h))
  hash-any r i w j u = rw (by_parts, w, j) u

  pub hash-exact : (r : ℕ) → (i : HostKind) → e.host ≡ Some i → i ≡ kind.Exact → r ≡ text_hash x h → r ≡ hash_of (normal (expression_by e h))
  hash-exact r i w j u = rw (by_parts, w, j) u

  pub hash-subdomains : (y r : ℕ) → (i : HostKind) → e.host ≡ Some i → i ≡ kind.Subdomains → y ≡ (31 * x + 42) % 65536 → r ≡ text_hash y h → r ≡ hash_of (normal (expression_by e h))
  hash-subdomains y r i w j v u = rw (by_parts, w, j, ← v) u
