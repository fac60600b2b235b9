-- Numbers written in decimal are read back, and digits without a leading zero are what their number is written as. Assumes nothing.
use mathlib.Core.Path.{◌≡◌, refl, ap, ◌∙◌}
use Prim.Native.Nat.{ℕ, zero, suc, ◌+◌, ◌-◌, ◌*◌, ◌/◌, ◌%◌, ◌^◌, ◌≤◌, ◌<◌}
use mathlib.Core.List.{List, [], ◌∷◌, ◌++◌}
use mathlib.Core.Bool.{Bool, true, false, ◌&&◌}
use native.Mathlib.Omega.{arith}
use lib.ListN.{length, length-append}
use lib.Dec.{ltb, eqb}
use borrow.Author.Tests.{lt-ltb, le-ltb, ltb-true, ltb-false, le-leb, ne_eqb}
use Rattle.ascii.specs.Bytes.{is_digit}
use Rattle.ascii.specs.Texts.{every}
use Rattle.ascii.specs.Reading.{head_of}
use Rattle.ascii.specs.Decimals.{decimal_from, decimal, leads_zero, digits_by, last_digits, decimal_text}
use Rattle.ascii.proofs.Bytes.{and-false, and_left, and_right, within_low, within-high}

pub decimal-grows : (n : ℕ) (ds : List ℕ) → n ≤ decimal_from n ds
unfolding decimal_from
decimal-grows n [] = omega arith
decimal-grows n (d ∷ ds) = omega (arith, decimal-grows (n * 10 + (d - 48)) ds)

-- the numbers of at most so many digits
unfoldable pub tens : ℕ → ℕ
tens zero = 1
tens (suc k) = tens k * 10

snoc-decimal : (n : ℕ) (ds : List ℕ) (d : ℕ) → decimal_from n (ds ++ (d ∷ [])) ≡ decimal_from n ds * 10 + (d - 48)
unfolding decimal_from
snoc-decimal n [] d = refl
snoc-decimal n (x ∷ ds) d = snoc-decimal (n * 10 + (x - 48)) ds d

every-snoc : (p : ℕ → Bool) (ds : List ℕ) (d : ℕ) → every p ds ≡ true → p d ≡ true → every p (ds ++ (d ∷ [])) ≡ true
unfolding every
every-snoc p [] d e f = rw f
every-snoc p (x ∷ ds) d e f = rw (and_left (p x) (every p ds) e) (every-snoc p ds d (and_right (p x) (every p ds) e) f)

-- a number that is written is read back
pub digits-back : (k n : ℕ) → n < tens k → decimal (last_digits k n) ≡ n
unfolding tens last_digits decimal_from
digits-back zero n h = omega arith
digits-back (suc k) n h = go (ltb n 10) refl (λ g. digits-back k (n / 10) g)
  where
    go : (b : Bool) → ltb n 10 ≡ b → (n / 10 < tens k → decimal (last_digits k (n / 10)) ≡ n / 10) → decimal (digits_by b (last_digits k) n) ≡ n
    go = unfold digits_by in (elim [ true ↦ λ e ih. omega arith | false ↦ λ e ih. snoc-decimal 0 (last_digits k (n / 10)) (48 + n % 10) ∙ omega (arith, ih (omega arith)) ])

digit-of : (n : ℕ) → n < 10 → is_digit (48 + n) ≡ true
digit-of n h = rw (le-leb 48 (48 + n) (omega arith), le-leb (48 + n) 57 (omega arith))

pub digits-digits : (k n : ℕ) → every is_digit (last_digits k n) ≡ true
unfolding last_digits every
digits-digits zero n = refl
digits-digits (suc k) n = go (ltb n 10) refl (digits-digits k (n / 10))
  where
    go : (b : Bool) → ltb n 10 ≡ b → every is_digit (last_digits k (n / 10)) ≡ true → every is_digit (digits_by b (last_digits k) n) ≡ true
    go = unfold digits_by in (elim [ true ↦ λ e ih. rw (digit-of n (ltb-true n 10 e)) | false ↦ λ e ih. every-snoc is_digit (last_digits k (n / 10)) (48 + n % 10) ih (digit-of (n % 10) (omega arith)) ])

pub digits-most : (k n : ℕ) → length (last_digits k n) ≤ k
unfolding last_digits
digits-most zero n = omega arith
digits-most (suc k) n = go (ltb n 10) (digits-most k (n / 10))
  where
    go : (b : Bool) → length (last_digits k (n / 10)) ≤ k → length (digits_by b (last_digits k) n) ≤ suc k
    go = unfold digits_by in (elim [ true ↦ λ ih. omega arith | false ↦ λ ih. omega (arith, length-append (last_digits k (n / 10)) ((48 + n % 10) ∷ [])) ])

pub digits-some : (k n : ℕ) → 1 ≤ length (last_digits (suc k) n)
unfolding last_digits
digits-some k n = go (ltb n 10)
  where
    go : (b : Bool) → 1 ≤ length (digits_by b (last_digits k) n)
    go = unfold digits_by in (elim [ true ↦ omega arith | false ↦ omega (arith, length-append (last_digits k (n / 10)) ((48 + n % 10) ∷ [])) ])

-- no zero in front
head-append : (xs ys : List ℕ) → 1 ≤ head_of xs → head_of (xs ++ ys) ≡ head_of xs
unfolding head_of
head-append [] ys h = absurd (omega arith)
head-append (x ∷ xs) ys h = refl

digits-head : (k n : ℕ) → n < tens k → 1 ≤ n → 49 ≤ head_of (last_digits k n)
unfolding tens last_digits
digits-head zero n h g = absurd (omega arith)
digits-head (suc k) n h g = go (ltb n 10) refl (λ i j. digits-head k (n / 10) i j)
  where
    go : (b : Bool) → ltb n 10 ≡ b → (n / 10 < tens k → 1 ≤ n / 10 → 49 ≤ head_of (last_digits k (n / 10))) → 49 ≤ head_of (digits_by b (last_digits k) n)
    go = unfold digits_by head_of in (elim [ true ↦ λ e ih. omega arith | false ↦ λ e ih. more (ltb-false n 10 e) ih ])
      where
        more : 10 ≤ n → (n / 10 < tens k → 1 ≤ n / 10 → 49 ≤ head_of (last_digits k (n / 10))) → 49 ≤ head_of (last_digits k (n / 10) ++ ((48 + n % 10) ∷ []))
        more e ih =
            let u : 49 ≤ head_of (last_digits k (n / 10)) = ih (omega arith) (omega arith) in
            omega (arith, head-append (last_digits k (n / 10)) ((48 + n % 10) ∷ []) (omega arith))

pub digits-lead : (k n : ℕ) → n < tens (suc k) → leads_zero (last_digits (suc k) n) ≡ false
unfolding tens leads_zero
digits-lead k n h = go (ltb n 10) refl
  where
    go : (b : Bool) → ltb n 10 ≡ b → ltb 1 (length (last_digits (suc k) n)) && eqb (head_of (last_digits (suc k) n)) 48 ≡ false
    go true e = unfold last_digits digits_by in rw e
    go false e =
        let u : 49 ≤ head_of (last_digits (suc k) n) = digits-head (suc k) n h (omega (arith, ltb-false n 10 e)) in
        rw (ne_eqb (head_of (last_digits (suc k) n)) 48 (λ z. omega arith)) (and-false (ltb 1 (length (last_digits (suc k) n))))

-- the other way: digits without a zero in front are what their number is written as
record Last (x : ℕ) (xs : List ℕ) : Type 0 where
  front : List ℕ
  digit : ℕ
  is : x ∷ xs ≡ front ++ (digit ∷ [])

last : (x : ℕ) (xs : List ℕ) → Last x xs
last x [] = record { front = []; digit = x; is = refl }
last x (y ∷ xs) = let l = last y xs in record { front = x ∷ l.front; digit = l.digit; is = ap (λ (m : List ℕ). x ∷ m) l.is }

every_front : (p : ℕ → Bool) (f : List ℕ) (d : ℕ) → every p (f ++ (d ∷ [])) ≡ true → (every p f ≡ true) × (p d ≡ true)
unfolding every
every_front p [] d e = (refl, and_left (p d) true e)
every_front p (x ∷ f) d e =
    let r = every_front p f d (and_right (p x) (every p (f ++ (d ∷ []))) e) in
    (rw (and_left (p x) (every p (f ++ (d ∷ []))) e) r.0, r.1)

-- of digits that end in d, one digit at a time
canonical-end : (k : ℕ) (f : List ℕ) (d : ℕ) → is_digit d ≡ true → (1 ≤ length f → 49 ≤ head_of f) → (1 ≤ length f → last_digits k (decimal f) ≡ f) → last_digits (suc k) (decimal (f ++ (d ∷ []))) ≡ f ++ (d ∷ [])
unfolding last_digits digits_by decimal_from head_of
canonical-end k [] d e h ih =
    let u : 48 ≤ d = within_low 48 57 d e in
    let v : d ≤ 57 = within-high 48 57 d e in
    let w : 48 + (0 * 10 + (d - 48)) ≡ d = omega arith in
    rw (lt-ltb (0 * 10 + (d - 48)) 10 (omega arith), w)
canonical-end k (y ∷ ys) d e h ih =
    let u : 48 ≤ d = within_low 48 57 d e in
    let v : d ≤ 57 = within-high 48 57 d e in
    let y49 : 49 ≤ y = h (omega arith) in
    let m = decimal (y ∷ ys) in
    let one : 1 ≤ m = omega (arith, decimal-grows (0 * 10 + (y - 48)) ys) in
    let s : decimal (y ∷ ys ++ (d ∷ [])) ≡ m * 10 + (d - 48) = snoc-decimal 0 (y ∷ ys) d in
    let q : (m * 10 + (d - 48)) / 10 ≡ m = omega arith in
    let r : 48 + (m * 10 + (d - 48)) % 10 ≡ d = omega arith in
    rw (s, le-ltb (m * 10 + (d - 48)) 10 (omega arith), q, r, ih (omega arith))

first_head : (f ys : List ℕ) → 1 ≤ length f → head_of (f ++ ys) ≡ head_of f
unfolding head_of
first_head [] ys h = absurd (omega arith)
first_head (x ∷ f) ys h = refl

pub canonical : (k : ℕ) (ds : List ℕ) → 1 ≤ length ds → length ds ≤ k → every is_digit ds ≡ true → (1 < length ds → 49 ≤ head_of ds) → last_digits k (decimal ds) ≡ ds
canonical zero ds a b e h = absurd (omega arith)
canonical (suc k) [] a b e h = absurd (omega arith)
canonical (suc k) (x ∷ xs) a b e h =
    let l = last x xs in
    let f = l.front in
    let d = l.digit in
    let n : length (x ∷ xs) ≡ length f + 1 = ap length l.is ∙ length-append f (d ∷ []) in
    let p = every_front is_digit f d (rw l.is at e) in
    let t : 1 ≤ length f → 49 ≤ head_of f = λ g. rw (first_head f (d ∷ []) g) at (rw l.is at (h (omega arith))) in
    rw l.is (canonical-end k f d p.1 t (λ g. canonical k f g (omega arith) p.0 (λ j. t g)))

pub head-digit : (ds : List ℕ) → 1 ≤ length ds → every is_digit ds ≡ true → 48 ≤ head_of ds
unfolding every head_of
head-digit [] h e = absurd (omega arith)
head-digit (x ∷ ds) h e = within_low 48 57 x (and_left (is_digit x) (every is_digit ds) e)

-- a number, written with all its digits: enough digits are enough
digits-small : (k n : ℕ) → n < 10 → last_digits (suc k) n ≡ (48 + n) ∷ []
unfolding last_digits digits_by
digits-small k n h = rw (lt-ltb n 10 h)

digits-great : (k n : ℕ) → 10 ≤ n → last_digits (suc k) n ≡ last_digits k (n / 10) ++ ((48 + n % 10) ∷ [])
unfolding last_digits digits_by
digits-great k n h = rw (le-ltb n 10 h)

digits-enough : (j k n : ℕ) → n < j → n < k → last_digits j n ≡ last_digits k n
digits-enough zero k n h g = absurd (omega arith)
digits-enough (suc j) zero n h g = absurd (omega arith)
digits-enough (suc j) (suc k) n h g = go (ltb n 10) refl (λ a b. digits-enough j k (n / 10) a b)
  where
    go : (b : Bool) → ltb n 10 ≡ b → (n / 10 < j → n / 10 < k → last_digits j (n / 10) ≡ last_digits k (n / 10)) → last_digits (suc j) n ≡ last_digits (suc k) n
    go true e ih = rw (digits-small j n (ltb-true n 10 e), digits-small k n (ltb-true n 10 e))
    go false e ih =
        let m : 10 ≤ n = ltb-false n 10 e in
        rw (digits-great j n m, digits-great k n m, ih (omega arith) (omega arith))

pub decimal-small : (n : ℕ) → n < 10 → decimal_text n ≡ (48 + n) ∷ []
unfolding decimal_text
decimal-small n h = digits-small n n h

pub decimal-great : (n : ℕ) → 10 ≤ n → decimal_text n ≡ decimal_text (n / 10) ++ ((48 + n % 10) ∷ [])
unfolding decimal_text
decimal-great n h = rw (digits-great n n h, digits-enough n (suc (n / 10)) (n / 10) (omega arith) (omega arith))

tens-great : (n : ℕ) → n < tens n
unfolding tens
tens-great zero = omega arith
tens-great (suc n) = omega (arith, tens-great n)

-- it is read back, is made of digits, and has no zero in front
module _ (n : ℕ) where
  fits : n < tens (suc n)
  unfolding tens
  fits = omega (arith, tens-great n)

  pub decimal-back : decimal (decimal_text n) ≡ n
  unfolding decimal_text
  decimal-back = digits-back (suc n) n fits

  pub decimal-digits : every is_digit (decimal_text n) ≡ true
  unfolding decimal_text
  decimal-digits = digits-digits (suc n) n

  pub decimal-lead : leads_zero (decimal_text n) ≡ false
  unfolding decimal_text
  decimal-lead = digits-lead n n fits

-- how long it is
decimal-more : (n : ℕ) → 10 ≤ n → length (decimal_text n) ≡ length (decimal_text (n / 10)) + 1
decimal-more n h = ap length (decimal-great n h) ∙ length-append (decimal_text (n / 10)) ((48 + n % 10) ∷ [])

decimal-most : (k n : ℕ) → n < tens (suc k) → length (decimal_text n) ≤ suc k
unfolding tens
decimal-most zero n h = rw (decimal-small n (omega arith)) (omega arith)
decimal-most (suc k) n h = go (ltb n 10) refl (λ g. decimal-most k (n / 10) g)
  where
    go : (b : Bool) → ltb n 10 ≡ b → (n / 10 < tens (suc k) → length (decimal_text (n / 10)) ≤ suc k) → length (decimal_text n) ≤ suc (suc k)
    go true e ih = rw (decimal-small n (ltb-true n 10 e)) (omega arith)
    go false e ih = omega (arith, decimal-more n (ltb-false n 10 e), ih (omega arith))

-- a number of 64 bits has at most twenty digits
pub decimal-short : (n : ℕ) → n < 2 ^ 64 → length (decimal_text n) ≤ 20
unfolding tens
decimal-short n h = decimal-most 19 n (omega arith)
