-- The bytes of a host: letters in lower case, digits, hyphens and dots. Assumes nothing.
use mathlib.Core.Path.{◌≡◌, refl, ◌∙◌, sym}
use mathlib.Core.Logic.{⊎_elim}
use Prim.Native.Nat.{ℕ, ◌≤◌, ◌<◌}
use mathlib.Core.List.{List, [], ◌∷◌}
use mathlib.Core.Bool.{Bool, true, false, not, ◌&&◌, ◌||◌}
use native.Mathlib.Omega.{arith}
use lib.ListN.{length}
use lib.Dec.{leb, eqb}
use borrow.Author.Tests.{eqb-true, ne_eqb, lt-leb, le-leb}
use Rattle.ascii.proofs.Clash.{clash}
use Rattle.limits.specs.Limits.{host_bytes}
use Rattle.ascii.specs.Bytes.{pick, within, is_digit, is_lower, is_label_byte, is_text, lower}
use Rattle.ascii.specs.Texts.{every, each, lowered}
use Rattle.ascii.proofs.Bytes.{and-false, or_cases, and_left, and_right, within_low, within-high}
use Rattle.origins.specs.Hosts.{labels, is_label, is_host}
use Rattle.origins.specs.Origins.{not_colon}
use Rattle.origins.proofs.Hosts.{scan, scan-labels}

abbrev pub is_host_byte : ℕ → Bool
is_host_byte b = is_label_byte b || eqb b 46

bytes-step : (b a f u v w : Bool) → pick b (pick f false u) (pick a v false) ≡ true → (u ≡ true → w ≡ true) → (v ≡ true → w ≡ true) → (a || b) && w ≡ true
unfolding pick
bytes-step true true true u v w e g h = clash cc
bytes-step true true false u v w e g h = g e
bytes-step true false true u v w e g h = clash cc
bytes-step true false false u v w e g h = g e
bytes-step false true f u v w e g h = h e
bytes-step false false f u v w e g h = clash cc

scan-bytes : (fresh : Bool) (h : List ℕ) → scan fresh h ≡ true → every is_host_byte h ≡ true
unfolding scan every
scan-bytes fresh [] e = refl
scan-bytes fresh (x ∷ xs) e =
    bytes-step (eqb x 46) (is_label_byte x) fresh (scan true xs) (scan false xs) (every is_host_byte xs) e (λ d. scan-bytes true xs d) (λ d. scan-bytes false xs d)

module _ (h : List ℕ) (e : is_host h ≡ true) where
  pub host-bytes : every is_host_byte h ≡ true
  unfolding is_host
  host-bytes = scan-bytes true h (sym (scan-labels h) ∙ and_right (within 1 host_bytes (length h)) (every is_label (labels h)) e)

  pub host-some : 1 ≤ length h
  unfolding is_host
  host-some = within_low 1 host_bytes (length h) (and_left (within 1 host_bytes (length h)) (every is_label (labels h)) e)

  pub host-most : length h ≤ host_bytes
  unfolding is_host
  host-most = within-high 1 host_bytes (length h) (and_left (within 1 host_bytes (length h)) (every is_label (labels h)) e)

-- the numbers that a host's byte can be
module _ (b : ℕ) (e : is_host_byte b ≡ true) where
  host-byte : (P : Type 0) → (97 ≤ b → b ≤ 122 → P) → (48 ≤ b → b ≤ 57 → P) → (b ≡ 45 → P) → (b ≡ 46 → P) → P
  host-byte P l d h f =
      ⊎_elim
      (λ x.
      ⊎_elim
      (λ y. ⊎_elim (λ z. l (within_low 97 122 b z) (within-high 97 122 b z)) (λ z. d (within_low 48 57 b z) (within-high 48 57 b z)) (or_cases (is_lower b) (is_digit b) y))
      (λ y. h (eqb-true b 45 y)) (or_cases (is_lower b || is_digit b) (eqb b 45) x))
      (λ x. f (eqb-true b 46 x)) (or_cases (is_label_byte b) (eqb b 46) e)

  pub not-star : b ≡ 42 → ⊥
  not-star = host-byte (b ≡ 42 → ⊥) (λ l u k. omega arith) (λ l u k. omega arith) (λ q k. omega arith) (λ q k. omega arith)

  not-colon : not_colon b ≡ true
  not-colon = rw (ne_eqb b 58 (host-byte (b ≡ 58 → ⊥) (λ l u k. omega arith) (λ l u k. omega arith) (λ q k. omega arith) (λ q k. omega arith)))

  lower-same : lower b ≡ b
  lower-same = host-byte (lower b ≡ b) (λ l u. above (omega arith)) (λ l u. under (omega arith)) (λ q. under (omega arith)) (λ q. under (omega arith))
    where
      under : b < 65 → lower b ≡ b
      under h = unfold lower pick in rw (lt-leb 65 b h)

      above : 90 < b → lower b ≡ b
      above h = unfold lower pick in rw (lt-leb b 90 h, and-false (leb 65 b))

-- bytes that stand in a string without a backslash before them
abbrev pub is_plain : ℕ → Bool
is_plain b = is_text b && not (eqb b 34 || eqb b 92)

plain-is : (b : ℕ) → 32 ≤ b → b ≤ 126 → (b ≡ 34 → ⊥) → (b ≡ 92 → ⊥) → is_plain b ≡ true
plain-is b l u q s = rw (le-leb 32 b l, le-leb b 126 u, ne_eqb b 34 q, ne_eqb b 92 s)

host-byte-plain : (b : ℕ) → is_host_byte b ≡ true → is_plain b ≡ true
host-byte-plain b e =
    host-byte b e (is_plain b ≡ true)
    (λ l u. plain-is b (omega arith) (omega arith) (λ z. omega arith) (λ z. omega arith))
    (λ l u. plain-is b (omega arith) (omega arith) (λ z. omega arith) (λ z. omega arith))
    (λ q. plain-is b (omega arith) (omega arith) (λ z. omega arith) (λ z. omega arith))
    (λ q. plain-is b (omega arith) (omega arith) (λ z. omega arith) (λ z. omega arith))

digit-plain : (b : ℕ) → is_digit b ≡ true → is_plain b ≡ true
digit-plain b e =
    let l : 48 ≤ b = within_low 48 57 b e in
    let u : b ≤ 57 = within-high 48 57 b e in
    plain-is b (omega arith) (omega arith) (λ z. omega arith) (λ z. omega arith)

-- every byte, one after the other
every-other : (p q : ℕ → Bool) → ((b : ℕ) → p b ≡ true → q b ≡ true) → (l : List ℕ) → every p l ≡ true → every q l ≡ true
unfolding every
every-other p q f [] e = refl
every-other p q f (x ∷ xs) e = rw (f x (and_left (p x) (every p xs) e)) (every-other p q f xs (and_right (p x) (every p xs) e))

pub host-no-colon : (h : List ℕ) → every is_host_byte h ≡ true → every not_colon h ≡ true
host-no-colon h e = every-other is_host_byte not_colon not-colon h e

-- a host is in lower case
pub host-lower : (h : List ℕ) → every is_host_byte h ≡ true → lowered h ≡ h
unfolding every each
host-lower [] e = refl
host-lower (x ∷ xs) e = rw (lower-same x (and_left (is_host_byte x) (every is_host_byte xs) e), host-lower xs (and_right (is_host_byte x) (every is_host_byte xs) e))

pub host-plain : (h : List ℕ) → every is_host_byte h ≡ true → every is_plain h ≡ true
host-plain h e = every-other is_host_byte is_plain host-byte-plain h e

pub digits-plain : (ds : List ℕ) → every is_digit ds ≡ true → every is_plain ds ≡ true
digits-plain ds e = every-other is_digit is_plain digit-plain ds e
