-- A field read byte by byte says what the field's text says, cut. Assumes nothing.
use mathlib.Core.Path.{◌≡◌, refl, ap, ◌∙◌, sym}
use Prim.Native.Nat.{ℕ, zero, suc, ◌≤◌, ◌<◌}
use mathlib.Core.List.{[], ◌∷◌, ◌++◌, append-nil}
use mathlib.Core.Bool.{Bool, true, false, not, ◌&&◌, ◌||◌}
use Rattle.std.specs.Prelude.{Option, Some, None}
use native.Mathlib.Omega.{arith}
use native.Mathlib.Nat.{le_of_suc-le-suc}
use lib.ListN.{length, take, length-append, length-take}
use lib.Seq.{take_all, take-take, take-append-le, append_snoc}
use lib.Dec.{ltb, leb, eqb}
use borrow.Author.Tests.{ltb-true, ltb-false, leb-true, leb-false, eqb-true}
use Rattle.limits.specs.Limits.{text_bytes}
use Rattle.ascii.proofs.Clash.{clash}
use Rattle.ascii.proofs.Bytes.{and-false, or-false, or-true}
use Rattle.ascii.proofs.Texts.{bytes_same}
use Rattle.ascii.specs.Bytes.{pick, is_digit}
use Rattle.ascii.specs.Literals.{text}
use Rattle.ascii.specs.Reading.{head_of, is_empty}
use Rattle.ascii.specs.Texts.{every, same_by, same_bytes}
use Rattle.replay_lines.specs.Format.{Text, Said, Sandbox, nothing, is_percent, is_hex, hex_byte, with_byte, decoded, undone, is_number, number_of, mark_of, sandboxed, sandbox_of, name_of, says}
use Rattle.replay_lines.specs.Reading.{Field, field_bytes, kept_text, new_field, keep_byte, field_byte, is_whole, kept_sandbox, kept_says, cut}
use Rattle.replay_lines.specs.declared.CallName.{CallName}
use Rattle.replay_lines.specs.declared.Place.{Place}
use Rattle.replay_lines.specs.declared.Place.TheVariants.{Plain, Percent, Digit, Broken}
use Rattle.replay_lines.proofs.Numbers.{number-long}
use Rattle.replay_lines.proofs.CutLines.{changed, cut_box, cut_said}

-- a field, read further
unfoldable pub read_field : Field → Text → Field
read_field f [] = f
read_field f (b ∷ s) = read_field (field_byte f b) s

abbrev field_of : Text → Bool → Bool → Place → Field
field_of k e o p = record { kept = k; escaped = e; opens = o; place = p }

-- whether a text has a `%`, and whether it starts with one
unfoldable has_percent : Text → Bool
has_percent [] = false
has_percent (x ∷ xs) = is_percent x || has_percent xs

unfoldable opens_percent : Text → Bool
opens_percent [] = false
opens_percent (x ∷ xs) = is_percent x

-- ---- what is kept

keep-long : (k : Text) (b : ℕ) → length k ≤ field_bytes → length (keep_byte k b) ≤ field_bytes
unfolding keep_byte
keep-long k b h = go (ltb (length k) field_bytes) refl
  where
    go : (t : Bool) → ltb (length k) field_bytes ≡ t → length (pick t (k ++ (b ∷ [])) k) ≤ field_bytes
    go true e = unfold pick in omega (arith, ltb-true (length k) field_bytes e, length-append k (b ∷ []))
    go false e = unfold pick in h

keep_some : (k : Text) (b : ℕ) → is_empty (keep_byte k b) ≡ false
unfolding keep_byte is_empty pick
keep_some [] b = refl
keep_some (x ∷ xs) b = go (ltb (length (x ∷ xs)) field_bytes)
  where
    go : (t : Bool) → is_empty (pick t (x ∷ (xs ++ (b ∷ []))) (x ∷ xs)) ≡ false
    go true = unfold pick is_empty in refl
    go false = unfold pick is_empty in refl

keep-take-by : (t : Bool) (k : Text) (b : ℕ) (d : Text) → ltb (length k) field_bytes ≡ t → take field_bytes (pick t (k ++ (b ∷ [])) k ++ d) ≡ take field_bytes (k ++ (b ∷ d))
unfolding pick
keep-take-by true k b d e = ap (take field_bytes) (append_snoc k b d)
keep-take-by false k b d e =
    let l : field_bytes ≤ length k = ltb-false (length k) field_bytes e in
    take-append-le field_bytes k d l ∙ sym (take-append-le field_bytes k (b ∷ d) l)

keep-take : (k : Text) (b : ℕ) (d : Text) → take field_bytes (keep_byte k b ++ d) ≡ take field_bytes (k ++ (b ∷ d))
unfolding keep_byte
keep-take k b d = keep-take-by (ltb (length k) field_bytes) k b d refl

-- ---- the reading of a field

broken-says : (f : Field) → is_whole f.place ≡ false → kept_says f ≡ nothing
unfolding kept_says pick
broken-says f e = rw e

broken-stays : (k : Text) (e o : Bool) (u : Text) → read_field (field_of k e o Broken) u ≡ field_of k e o Broken
unfolding read_field field_byte
broken-stays k e o [] = refl
broken-stays k e o (x ∷ xs) = broken-stays k e o xs

-- what is read of a text, by what the text decodes to
unfoldable said_by : Text → Bool → Bool → Text → Option Text → Said
said_by k e o u (Some d) = kept_says (field_of (take field_bytes (k ++ d)) (e || has_percent u) (o || (is_empty k && opens_percent u)) Plain)
said_by k e o u None = nothing

-- a byte that stands for itself
plain_byte : (k : Text) (e o : Bool) (x : ℕ) (xs : Text) (w : Option Text) → is_percent x ≡ false → said_by (keep_byte k x) e o xs w ≡ said_by k e o (x ∷ xs) (with_byte x w)
unfolding said_by with_byte has_percent opens_percent
plain_byte k e o x xs (Some d) q =
    let z : is_empty k && false ≡ false = and-false (is_empty k) in
    rw (q, keep-take k x d, keep_some k x, z)
plain_byte k e o x xs None q = refl

-- `%` and two digits
opens-same : (o z p : Bool) → (o || z) || (false && p) ≡ o || (z && true)
opens-same true z p = refl
opens-same false true p = refl
opens-same false false p = refl

escaped-byte : (k : Text) (e o : Bool) (x a b : ℕ) (ys : Text) (w : Option Text) (v : ℕ) → is_percent x ≡ true → said_by (keep_byte k v) true (o || is_empty k) ys w ≡ said_by k e o (x ∷ a ∷ b ∷ ys) (with_byte v w)
unfolding said_by with_byte has_percent opens_percent
escaped-byte k e o x a b ys (Some d) v q =
    rw (q, keep-take k v d, keep_some k v, opens-same o (is_empty k) (opens_percent ys), or-true e)
escaped-byte k e o x a b ys None v q = refl

abbrev Reads : Text → Type 0
Reads u = (k : Text) (e o : Bool) → length k ≤ field_bytes → kept_says (read_field (field_of k e o Plain) u) ≡ said_by k e o u (decoded u)

module _ (x : ℕ) where
  choose : (u : Text) → (is_percent x ≡ true → Reads u) → (is_percent x ≡ false → Reads u) → Reads u
  choose u f g = go (is_percent x) refl
    where
      go : (t : Bool) → is_percent x ≡ t → Reads u
      go true e = f e
      go false e = g e

  plain-case : (xs : Text) → Reads xs → is_percent x ≡ false → Reads (x ∷ xs)
  unfolding read_field field_byte decoded pick
  plain-case xs ih q k e o h = rw q (ih (keep_byte k x) e o (keep-long k x h) ∙ plain_byte k e o x xs (decoded xs) q)

  -- a `%` at the end, or with one byte after it
  percent-end : is_percent x ≡ true → Reads (x ∷ [])
  unfolding read_field field_byte decoded said_by pick
  percent-end q k e o h = rw q (broken-says (field_of k true (o || is_empty k) Percent) refl)

  percent-one : (a : ℕ) → is_percent x ≡ true → Reads (x ∷ a ∷ [])
  unfolding read_field field_byte decoded said_by pick
  percent-one a q k e o h = rw q (go (is_hex a))
    where
      go : (t : Bool) → kept_says (pick t (field_of k true (o || is_empty k) (Digit a)) (field_of k true (o || is_empty k) Broken)) ≡ nothing
      go true = unfold pick in broken-says (field_of k true (o || is_empty k) (Digit a)) refl
      go false = unfold pick in broken-says (field_of k true (o || is_empty k) Broken) refl

  -- a `%` with two bytes after it
  module _ (a b : ℕ) (ys : Text) (ih : Reads ys) (q : is_percent x ≡ true) (k : Text) (e o : Bool) (h : length k ≤ field_bytes) where
    two_digits : is_hex a ≡ true → is_hex b ≡ true → kept_says (read_field (field_of k e o Plain) (x ∷ a ∷ b ∷ ys)) ≡ said_by k e o (x ∷ a ∷ b ∷ ys) (decoded (x ∷ a ∷ b ∷ ys))
    unfolding read_field field_byte decoded pick
    two_digits f g =
        rw (q, f, g) (ih (keep_byte k (hex_byte a b)) true (o || is_empty k) (keep-long k (hex_byte a b) h) ∙ escaped-byte k e o x a b ys (decoded ys) (hex_byte a b) q)

    one-digit : is_hex a ≡ true → is_hex b ≡ false → kept_says (read_field (field_of k e o Plain) (x ∷ a ∷ b ∷ ys)) ≡ said_by k e o (x ∷ a ∷ b ∷ ys) (decoded (x ∷ a ∷ b ∷ ys))
    unfolding read_field field_byte decoded said_by pick
    one-digit f g =
        rw (q, f, g, broken-stays k true (o || is_empty k) ys) (broken-says (field_of k true (o || is_empty k) Broken) refl)

    no_digit : is_hex a ≡ false → kept_says (read_field (field_of k e o Plain) (x ∷ a ∷ b ∷ ys)) ≡ said_by k e o (x ∷ a ∷ b ∷ ys) (decoded (x ∷ a ∷ b ∷ ys))
    unfolding read_field field_byte decoded said_by pick
    no_digit f =
        rw (q, f, broken-stays k true (o || is_empty k) ys) (broken-says (field_of k true (o || is_empty k) Broken) refl)

  percent-two : (a b : ℕ) (ys : Text) → Reads ys → is_percent x ≡ true → Reads (x ∷ a ∷ b ∷ ys)
  percent-two a b ys ih q k e o h = go (is_hex a) (is_hex b) refl refl
    where
      go : (s t : Bool) → is_hex a ≡ s → is_hex b ≡ t → kept_says (read_field (field_of k e o Plain) (x ∷ a ∷ b ∷ ys)) ≡ said_by k e o (x ∷ a ∷ b ∷ ys) (decoded (x ∷ a ∷ b ∷ ys))
      go true true f g = two_digits a b ys ih q k e o h f g
      go true false f g = one-digit a b ys ih q k e o h f g
      go false t f g = no_digit a b ys ih q k e o h f

reads_none : Reads []
unfolding read_field decoded said_by has_percent opens_percent
reads_none k e o h =
    let z : is_empty k && false ≡ false = and-false (is_empty k) in
    rw (append-nil k, take_all field_bytes k h, z, or-false e, or-false o)

reads : (u : Text) → Reads u
reads [] = reads_none
reads (x ∷ []) = choose x (x ∷ []) (percent-end x) (plain-case x [] reads_none)
reads (x ∷ a ∷ []) = choose x (x ∷ a ∷ []) (percent-one x a) (plain-case x (a ∷ []) (reads (a ∷ [])))
reads (x ∷ a ∷ b ∷ ys) = choose x (x ∷ a ∷ b ∷ ys) (percent-two x a b ys (reads ys)) (plain-case x (a ∷ b ∷ ys) (reads (a ∷ b ∷ ys)))

-- ---- texts with a `%`, and without

percent-differs : (u v : Text) → has_percent u ≡ true → has_percent v ≡ false → same_bytes u v ≡ false
percent-differs u v e f = go (same_bytes u v) refl
  where
    go : (t : Bool) → same_bytes u v ≡ t → t ≡ false
    go true g = let h : u ≡ v = bytes_same u v g in clash cc
    go false g = refl

percent-no-digits : (u : Text) → has_percent u ≡ true → every is_digit u ≡ false
unfolding has_percent every
percent-no-digits [] e = clash cc
percent-no-digits (x ∷ xs) e = go (is_percent x) refl e (λ g. percent-no-digits xs g)
  where
    go : (t : Bool) → is_percent x ≡ t → t || has_percent xs ≡ true → (has_percent xs ≡ true → every is_digit xs ≡ false) → is_digit x && every is_digit xs ≡ false
    go true f g ih = let h : x ≡ 37 = eqb-true x 37 f in rw h
    go false f g ih = rw (ih g, and-false (is_digit x))

percent-name : (u : Text) → has_percent u ≡ true → name_of u ≡ None
unfolding name_of has_percent pick
percent-name u e =
    rw (
      percent-differs u (text "top") e refl,
      percent-differs u (text "frame") e refl,
      percent-differs u (text "unload") e refl,
      percent-differs u (text "ask") e refl,
      percent-differs u (text "enabled") e refl,
      percent-differs u (text "beneath") e refl,
      percent-differs u (text "forecast") e refl,
      percent-differs u (text "tidy") e refl,
    )

percent-number : (u : Text) → has_percent u ≡ true → number_of u ≡ None
unfolding number_of is_number pick
percent-number u e = rw (percent-no-digits u e, and-false (not (is_empty u)))

percent-mark : (u : Text) → has_percent u ≡ true → mark_of u ≡ None
unfolding mark_of has_percent pick
percent-mark u e = rw (percent-differs u (text "0") e refl, percent-differs u (text "1") e refl)

plain-decoded : (u : Text) → has_percent u ≡ false → decoded u ≡ Some u
unfolding has_percent decoded with_byte pick
plain-decoded [] e = refl
plain-decoded (x ∷ xs) e = go (is_percent x) e (λ g. plain-decoded xs g)
  where
    go : (t : Bool) → t || has_percent xs ≡ false → (has_percent xs ≡ false → decoded xs ≡ Some xs) → pick t (undone xs) (with_byte x (decoded xs)) ≡ Some (x ∷ xs)
    go true g ih = clash cc
    go false g ih = unfold pick with_byte in rw (ih g)

-- ---- texts that are cut

same-cut : (n : ℕ) (u v : Text) → length v < n → same_bytes (take n u) v ≡ same_bytes u v
unfolding same_by
same-cut zero u v h = absurd (omega arith)
same-cut (suc n) [] v h = refl
same-cut (suc n) (x ∷ xs) [] h = refl
same-cut (suc n) (x ∷ xs) (y ∷ ys) h = rw (same-cut n xs ys (le_of_suc-le-suc h))

cut-name : (u : Text) → name_of (take field_bytes u) ≡ name_of u
unfolding name_of
cut-name u =
    rw (
      same-cut field_bytes u (text "top") (omega arith),
      same-cut field_bytes u (text "frame") (omega arith),
      same-cut field_bytes u (text "unload") (omega arith),
      same-cut field_bytes u (text "ask") (omega arith),
      same-cut field_bytes u (text "enabled") (omega arith),
      same-cut field_bytes u (text "beneath") (omega arith),
      same-cut field_bytes u (text "forecast") (omega arith),
      same-cut field_bytes u (text "tidy") (omega arith),
    )

cut-number : (u : Text) → number_of (take field_bytes u) ≡ number_of u
cut-number u = go (leb (length u) field_bytes) refl
  where
    go : (t : Bool) → leb (length u) field_bytes ≡ t → number_of (take field_bytes u) ≡ number_of u
    go true e = let h : length u ≤ field_bytes = leb-true (length u) field_bytes e in rw (take_all field_bytes u h)
    go false e =
        let h : field_bytes < length u = leb-false (length u) field_bytes e in
        number-long (take field_bytes u) (omega (arith, length-take field_bytes u)) ∙ sym (number-long u (omega arith))

cut-mark : (u : Text) → mark_of (take field_bytes u) ≡ mark_of u
unfolding mark_of
cut-mark u = rw (same-cut field_bytes u (text "0") (omega arith), same-cut field_bytes u (text "1") (omega arith))

-- ---- what a field says

-- a reading that takes no `%`: the same of what is kept
module _ {A : Type 0} (f : Text → A) (no : A) (percent : (u : Text) → has_percent u ≡ true → f u ≡ no) (cuts : (u : Text) → f (take field_bytes u) ≡ f u) where
  literal-by : (t : Bool) (u d : Text) → decoded u ≡ Some d → has_percent u ≡ t → pick (not t) (f (take field_bytes d)) no ≡ f u
  unfolding pick
  literal-by true u d e g = sym (percent u g)
  literal-by false u d e g = let h : d ≡ u = cc (plain-decoded u g) in rw h (cuts u)

  literal-said : (u d : Text) → decoded u ≡ Some d → pick (not (has_percent u)) (f (take field_bytes d)) no ≡ f u
  literal-said u d e = literal-by (has_percent u) u d e refl

  broken-said : (u : Text) → decoded u ≡ None → no ≡ f u
  broken-said u e = go (has_percent u) refl
    where
      go : (t : Bool) → has_percent u ≡ t → no ≡ f u
      go true g = sym (percent u g)
      go false g = clash (cc (plain-decoded u g))

-- SANDBOX: nothing decodes to no byte but no byte
with-some : (b : ℕ) (w : Option Text) → with_byte b w ≡ Some [] → ⊥
unfolding with_byte
with-some b (Some t) e = clash cc
with-some b None e = clash cc

undone-some : (u : Text) → undone u ≡ Some [] → ⊥
unfolding undone pick
undone-some [] e = clash cc
undone-some (a ∷ []) e = clash cc
undone-some (a ∷ b ∷ xs) e = go (is_hex a && is_hex b) e
  where
    go : (t : Bool) → pick t (with_byte (hex_byte a b) (decoded xs)) None ≡ Some [] → ⊥
    go true f = unfold pick in with-some (hex_byte a b) (decoded xs) f
    go false f = clash cc

decoded-some : (y : ℕ) (ys : Text) → decoded (y ∷ ys) ≡ Some [] → ⊥
unfolding decoded
decoded-some y ys e = go (is_percent y) e
  where
    go : (t : Bool) → pick t (undone ys) (with_byte y (decoded ys)) ≡ Some [] → ⊥
    go true f = undone-some ys (unfold pick in f)
    go false f = with-some y (decoded ys) (unfold pick in f)

rest-same : (n : ℕ) (xs d : Text) → decoded xs ≡ Some d → same_bytes (take (suc n) d) [] ≡ same_bytes xs []
unfolding same_by
rest-same n [] [] e = refl
rest-same n [] (z ∷ zs) e = clash (unfold decoded in cc)
rest-same n (y ∷ ys) [] e = absurd (decoded-some y ys e)
rest-same n (y ∷ ys) (z ∷ zs) e = refl

-- its first byte is a `%`
opens-none : (x : ℕ) (xs : Text) → is_percent x ≡ true → None ≡ changed cut_box (sandbox_of (x ∷ xs))
unfolding sandbox_of head_of same_by pick changed
opens-none x xs e = let h : x ≡ 37 = eqb-true x 37 e in rw h

-- or is not
module _ (x : ℕ) (xs d : Text) (e : decoded xs ≡ Some d) where
  one-said : eqb x 49 ≡ true → kept_sandbox (x ∷ take kept_text d) ≡ changed cut_box (sandbox_of (x ∷ xs))
  unfolding kept_sandbox sandbox_of sandboxed head_of pick changed
  one-said f = rw (f, e, take-take kept_text kept_text d (omega arith))

  other-said : eqb x 49 ≡ false → kept_sandbox (x ∷ take kept_text d) ≡ changed cut_box (sandbox_of (x ∷ xs))
  unfolding kept_sandbox sandbox_of head_of same_by pick
  other-said f = rw (f, rest-same text_bytes xs d e) (go (pick (eqb x 48) (same_bytes xs []) false))
    where
      go : (t : Bool) → pick t (Some (record { stands = false; attribute = [] })) None ≡ changed cut_box (pick t (Some (record { stands = false; attribute = [] })) None)
      go true = unfold pick changed in refl
      go false = unfold pick changed in refl

  first_said : kept_sandbox (x ∷ take kept_text d) ≡ changed cut_box (sandbox_of (x ∷ xs))
  first_said = go (eqb x 49) refl
    where
      go : (t : Bool) → eqb x 49 ≡ t → kept_sandbox (x ∷ take kept_text d) ≡ changed cut_box (sandbox_of (x ∷ xs))
      go true f = one-said f
      go false f = other-said f

cons-decoded : (x : ℕ) (xs : Text) → is_percent x ≡ false → decoded (x ∷ xs) ≡ with_byte x (decoded xs)
unfolding decoded pick
cons-decoded x xs e = rw e

with-is : (x : ℕ) (w : Option Text) (d : Text) → with_byte x w ≡ Some d → (t : Text) × (w ≡ Some t) × (d ≡ x ∷ t)
unfolding with_byte
with-is x (Some t) d e = (t, refl, cc)
with-is x None d e = clash cc

with_none : (x : ℕ) (w : Option Text) → with_byte x w ≡ None → w ≡ None
unfolding with_byte
with_none x (Some t) e = clash cc
with_none x None e = refl

sandbox-cons : (t : Bool) (x : ℕ) (xs d : Text) → decoded (x ∷ xs) ≡ Some d → is_percent x ≡ t → pick (not t) (kept_sandbox (take field_bytes d)) None ≡ changed cut_box (sandbox_of (x ∷ xs))
unfolding pick
sandbox-cons true x xs d e f = opens-none x xs f
sandbox-cons false x xs d e f =
    let w = with-is x (decoded xs) d (sym (cons-decoded x xs f) ∙ e) in
    rw w.2 (first_said x xs w.0 w.1)

sandbox-said : (u d : Text) → decoded u ≡ Some d → pick (not (opens_percent u)) (kept_sandbox (take field_bytes d)) None ≡ changed cut_box (sandbox_of u)
unfolding opens_percent kept_sandbox sandbox_of head_of same_by pick changed decoded
sandbox-said [] [] e = refl
sandbox-said [] (z ∷ zs) e = clash cc
sandbox-said (x ∷ xs) d e = sandbox-cons (is_percent x) x xs d e refl

broken-first : (t : Bool) (x : ℕ) (xs : Text) → decoded xs ≡ None → same_bytes (x ∷ xs) (text "0") ≡ false → eqb x 49 ≡ t → None ≡ changed cut_box (sandbox_of (x ∷ xs))
unfolding sandbox_of sandboxed head_of pick changed
broken-first true x xs e f g = rw (g, e)
broken-first false x xs e f g = rw (g, f)

zero-decoded : decoded (text "0") ≡ Some (text "0")
unfolding decoded with_byte pick
zero-decoded = refl

not-zero : (x : ℕ) (xs : Text) → decoded (x ∷ xs) ≡ None → (t : Bool) → same_bytes (x ∷ xs) (text "0") ≡ t → t ≡ false
not-zero x xs e true f = let h : x ∷ xs ≡ text "0" = bytes_same (x ∷ xs) (text "0") f in clash (cc zero-decoded)
not-zero x xs e false f = refl

broken-cons : (t : Bool) (x : ℕ) (xs : Text) → decoded (x ∷ xs) ≡ None → is_percent x ≡ t → None ≡ changed cut_box (sandbox_of (x ∷ xs))
broken-cons true x xs e f = opens-none x xs f
broken-cons false x xs e f =
    broken-first (eqb x 49) x xs (with_none x (decoded xs) (sym (cons-decoded x xs f) ∙ e)) (not-zero x xs e (same_bytes (x ∷ xs) (text "0")) refl) refl

sandbox-broken : (u : Text) → decoded u ≡ None → None ≡ changed cut_box (sandbox_of u)
sandbox-broken [] e = clash (unfold decoded in cc)
sandbox-broken (x ∷ xs) e = broken-cons (is_percent x) x xs e refl

text-said : (d : Text) → Some (take kept_text (take field_bytes d)) ≡ changed cut (Some d)
unfolding changed
text-said d = ap Some (take-take kept_text field_bytes d (omega arith))

-- two fields that say the same by each reading
abbrev saying : Option CallName → Option ℕ → Option Bool → Option Sandbox → Option Text → Said
saying n m k b t = record { name = n; number = m; mark = k; sandbox = b; decoded = t }

all_same : {n n' : (Option CallName)} {m m' : Option ℕ} {k k' : Option Bool} {b b' : Option Sandbox} {t t' : Option Text} → n ≡ n' → m ≡ m' → k ≡ k' → b ≡ b' → t ≡ t' → saying n m k b t ≡ saying n' m' k' b' t'
all_same p q r s t = λ i. saying (p i) (q i) (r i) (s i) (t i)

-- what a text that decodes says, and one that doesn't
whole_says : (u d : Text) → decoded u ≡ Some d → said_by [] false false u (Some d) ≡ cut_said (says u)
unfolding said_by kept_says cut_said says is_empty pick
whole_says u d e =
    all_same
    (literal-said name_of None percent-name cut-name u d e)
    (literal-said number_of None percent-number cut-number u d e)
    (literal-said mark_of None percent-mark cut-mark u d e)
    (sandbox-said u d e)
    (text-said d ∙ ap (changed cut) (sym e))

none-says : (u : Text) → decoded u ≡ None → nothing ≡ cut_said (says u)
unfolding cut_said says
none-says u e =
    all_same
    (broken-said name_of None percent-name cut-name u e)
    (broken-said number_of None percent-number cut-number u e)
    (broken-said mark_of None percent-mark cut-mark u e)
    (sandbox-broken u e)
    (no_text ∙ ap (changed cut) (sym e))
  where
    no_text : None ≡ changed cut None
    no_text = unfold changed in refl

by-decoded : (w : Option Text) (u : Text) → decoded u ≡ w → said_by [] false false u w ≡ cut_said (says u)
unfolding said_by
by-decoded (Some d) u e = whole_says u d e
by-decoded None u e = none-says u e

pub field-says : (u : Text) → kept_says (read_field new_field u) ≡ cut_said (says u)
field-says u = reads u [] false false (omega arith) ∙ by-decoded (decoded u) u refl
