-- How a reading of a text goes by places. Assumes nothing.
use mathlib.Core.Path.{◌≡◌, refl, ap, ◌∙◌, sym}
use Prim.Native.Nat.{ℕ, ◌+◌, ◌-◌, ◌*◌, ◌≤◌, ◌<◌, min}
use mathlib.Core.List.{List, [], ◌∷◌, ◌++◌}
use Rattle.std.specs.Prelude.{Option, Some, None}
use mathlib.Core.Bool.{Bool, true, false, not, ◌||◌}
use native.Mathlib.Omega.{arith}
use native.Mathlib.Numerals.{add-one}
use lib.ListN.{length, get_or, take, drop, drop_of_length-le, length-drop, length-append}
use lib.Seq.{drop-cons, drop-drop, take_at}
use lib.Dec.{eqb, leb}
use borrow.Author.Tests.{eq-eqb, ne_eqb, not-true, not-false, le-leb, lt-leb, leb-true, leb-false}
use borrow.Author.Rules.{rules}
use Rattle.ascii.proofs.Clash.{clash}
use Rattle.ascii.proofs.Bytes.{or-on}
use Rattle.ascii.specs.Bytes.{pick, within, is_key_start, is_key_byte, is_token_start, is_token_byte, is_lower, is_digit, is_alpha}
use Rattle.ascii.specs.Reading.{Parsed, Step, head_of, head_is, is_empty, next, skip, let_len, run_of, past, after, mapped, going}
use Rattle.ascii.specs.Reading.Parsed.{parsed, malformed}
use Rattle.ascii.specs.Reading.Step.{more, done, fail}
use Rattle.ascii.specs.Places.{rest_of, left_at, went_of, went_at, Went, low, high, low_more, low_done, high_turn}
use Rattle.ascii.specs.Places.Went.{goes, ends}
use Rattle.ascii.specs.declared.Turn.{Turn}
use Rattle.ascii.specs.declared.Turn.TheVariants as turn

-- a run, and what stands past it
pub run-cut : (p : ℕ → Bool) (l : List ℕ) → l ≡ run_of p l ++ past p l
unfolding run_of past pick
run-cut p [] = refl
run-cut p (x ∷ xs) = go (p x) (run-cut p xs)
  where
    go : (b : Bool) → xs ≡ run_of p xs ++ past p xs → x ∷ xs ≡ pick b (x ∷ run_of p xs) [] ++ pick b (past p xs) (x ∷ xs)
    go true e = ap (λ (l : List ℕ). x ∷ l) e
    go false e = refl

-- the first byte of what stands at a place
module _ (s : List ℕ) (i : ℕ) where
  pub head_in : i < length s → head_of (drop i s) ≡ get_or s i 0
  unfolding head_of
  head_in h = rw (drop-cons s i 0 h)

  pub head-out : length s ≤ i → head_of (drop i s) ≡ 0
  unfolding head_of
  head-out h = rw (drop_of_length-le s h)

  pub empty-yes : length s ≤ i → is_empty (drop i s) ≡ true
  unfolding is_empty
  empty-yes h = rw (drop_of_length-le s h)

  pub empty-no : i < length s → is_empty (drop i s) ≡ false
  unfolding is_empty
  empty-no h = rw (drop-cons s i 0 h)

  pub byte-in : i < length s → get_or s i 0 ≡ head_of (drop i s)
  byte-in h = sym (head_in h)

  pub byte-out : length s ≤ i → 0 ≡ head_of (drop i s)
  byte-out h = sym (head-out h)

-- a run, place by place
module _ (p : ℕ → Bool) (s : List ℕ) (i : ℕ) (l : List ℕ) where
  pub run_end : length s ≤ i → past p (drop i s) ≡ l → drop i s ≡ l
  unfolding past
  run_end h e = rw (drop_of_length-le s h) (rw (drop_of_length-le s h) at e)

  pub run-whole : i ≤ length s → length s ≤ i → past p (drop i s) ≡ l → drop (length s) s ≡ l
  run-whole g h e = let q : i ≡ length s = omega arith in rw q at (run_end h e)

  pub run_more : (b : Bool) → b ≡ p (get_or s i 0) → b ≡ true → i < length s → past p (drop i s) ≡ l → past p (drop (i + 1) s) ≡ l
  unfolding past pick
  run_more b u t h e = rw add-one (rw (drop-cons s i 0 h, ← u, t) at e)

  pub run-stop : (b : Bool) → b ≡ p (get_or s i 0) → b ≡ false → i < length s → past p (drop i s) ≡ l → drop i s ≡ l
  unfolding past pick
  run-stop b u t h e = rw (drop-cons s i 0 h) (rw (drop-cons s i 0 h, ← u, t) at e)

  -- the same of a number that is the place
  pub run-stopped : (q : ℕ) → q ≡ i → (b : Bool) → b ≡ p (get_or s i 0) → b ≡ false → i < length s → past p (drop i s) ≡ l → drop q s ≡ l
  run-stopped q same b u t h e = rw same (run-stop b u t h e)

-- a place past the end is the end
pub place-drop : (s : List ℕ) (at i : ℕ) → i ≡ min at (length s) → drop i s ≡ drop at s
place-drop s at i e = go (leb at (length s)) refl
  where
    go : (b : Bool) → leb at (length s) ≡ b → drop i s ≡ drop at s
    go true t = let h : at ≤ length s = leb-true at (length s) t in let k : i ≡ at = omega arith in rw k
    go false t = let h : length s < at = leb-false at (length s) t in let k : length s ≤ i = omega arith in let m : length s ≤ at = omega arith in rw (drop_of_length-le s k, drop_of_length-le s m)

pub run-start : (p : ℕ → Bool) (s : List ℕ) (at i : ℕ) → i ≡ min at (length s) → past p (drop i s) ≡ past p (drop at s)
run-start p s at i e = rw (place-drop s at i e)

pub ruleset runs = (run-start, run_end, run-whole, run_more, run-stop, rules)

-- a run whose first byte is known to be of its class
pub run-from : (p : ℕ → Bool) (s : List ℕ) (i q : ℕ) → p (head_of (drop i s)) ≡ true → i < length s → drop q s ≡ past p (drop (i + 1) s) → drop q s ≡ past p (drop i s)
unfolding past pick head_of
run-from p s i q t h e = rw (drop-cons s i 0 h, (rw (drop-cons s i 0 h) at t)) (rw add-one at e)

pub or_left : (a b : Bool) → a ≡ true → a || b ≡ true
or_left a b e = rw e

pub key-starts : (b : ℕ) → is_key_start b ≡ true → is_key_byte b ≡ true
key-starts b h = go (is_lower b) h
  where
    go : (l : Bool) → l || eqb b 42 ≡ true → l || is_digit b || eqb b 95 || eqb b 45 || eqb b 46 || eqb b 42 ≡ true
    go true e = refl
    go false e = or-on (is_digit b || eqb b 95 || eqb b 45 || eqb b 46) _ e

pub token-starts : (b : ℕ) → is_token_start b ≡ true → is_token_byte b ≡ true
token-starts b h = go (is_alpha b) h
  where
    go : (l : Bool) → l || eqb b 42 ≡ true → l || is_digit b || eqb b 33 || within 35 39 b || eqb b 42 || eqb b 43 || within 45 47 b || eqb b 58 || within 94 96 b || eqb b 124 || eqb b 126 ≡ true
    go true e = refl
    go false e = simp (or-on (is_digit b || eqb b 33 || within 35 39 b) (eqb b 42) e)

pub key-run : (s : List ℕ) (i q : ℕ) → head_is is_key_start (drop i s) ≡ true → i < length s → drop q s ≡ past is_key_byte (drop (i + 1) s) → drop q s ≡ past is_key_byte (drop i s)
unfolding head_is
key-run s i q t h e = run-from is_key_byte s i q (key-starts (head_of (drop i s)) t) h e

pub token-run : (s : List ℕ) (i q : ℕ) → head_is is_token_start (drop i s) ≡ true → i < length s → drop q s ≡ past is_token_byte (drop (i + 1) s) → drop q s ≡ past is_token_byte (drop i s)
unfolding head_is
token-run s i q t h e = run-from is_token_byte s i q (token-starts (head_of (drop i s)) t) h e

-- tests, by way of a call's result
pub told : (b b' v : Bool) → b' ≡ b → b' ≡ v → b ≡ v
told b b' v e f = sym e ∙ f

pub told_not : (b b' : Bool) → b' ≡ b → not b' ≡ true → b ≡ false
told_not b b' e f = sym e ∙ not-true b' f

pub told-yes : (b b' : Bool) → b' ≡ b → not b' ≡ false → b ≡ true
told-yes b b' e f = sym e ∙ not-false b' f

pub told-eq : (a a' n : ℕ) → a' ≡ a → a' ≡ n → eqb a n ≡ true
told-eq a a' n e f = eq-eqb a n (sym e ∙ f)

pub told-ne : (a a' n : ℕ) → a' ≡ a → (a' ≡ n → ⊥) → eqb a n ≡ false
told-ne a a' n e f = ne_eqb a n (λ g. f (e ∙ g))

pub or_right : (a b : Bool) → a ≡ false → b ≡ true → a || b ≡ true
or_right a b e f = rw (e, f)

pub or-none : (a b : Bool) → a ≡ false → b ≡ false → a || b ≡ false
or-none a b e f = rw (e, f)

pub end-ne : (s : List ℕ) (i n : ℕ) → length s ≤ i → eqb 0 n ≡ false → eqb (head_of (drop i s)) n ≡ false
end-ne s i n h z = rw (head-out s i h) z

-- a class test of the byte at a place, by its value and by a call's result
module _ (p : ℕ → Bool) (s : List ℕ) (i : ℕ) where
  pub class-end : length s ≤ i → p 0 ≡ false → head_is p (drop i s) ≡ false
  unfolding head_is
  class-end h z = rw (head-out s i h) z

  pub class-in : (b v : Bool) → b ≡ p (get_or s i 0) → b ≡ v → i < length s → head_is p (drop i s) ≡ v
  unfolding head_is
  class-in b v e f h = rw (head_in s i h) (sym e ∙ f)

  pub class-not : (b : Bool) → b ≡ p (get_or s i 0) → not b ≡ true → i < length s → head_is p (drop i s) ≡ false
  class-not b e f h = class-in b false e (not-true b f) h

  pub class-yes : (b : Bool) → b ≡ p (get_or s i 0) → not b ≡ false → i < length s → head_is p (drop i s) ≡ true
  class-yes b e f h = class-in b true e (not-false b f) h

  pub class_of : (x : ℕ) (b v : Bool) → x ≡ head_of (drop i s) → b ≡ p x → b ≡ v → head_is p (drop i s) ≡ v
  unfolding head_is
  class_of x b v u e f = rw (← u) (sym e ∙ f)

  pub class-of-not : (x : ℕ) (b : Bool) → x ≡ head_of (drop i s) → b ≡ p x → not b ≡ true → head_is p (drop i s) ≡ false
  class-of-not x b u e f = class_of x b false u e (not-true b f)

  pub class-of-yes : (x : ℕ) (b : Bool) → x ≡ head_of (drop i s) → b ≡ p x → not b ≡ false → head_is p (drop i s) ≡ true
  class-of-yes x b u e f = class_of x b true u e (not-false b f)

-- a byte of a class that 0 is not of stands within the text
pub class-within : (p : ℕ → Bool) (s : List ℕ) (i x : ℕ) (b : Bool) → x ≤ 255 * (length s - i) → p 0 ≡ false → b ≡ p x → b ≡ true → i < length s
class-within p s i x b t z e f = go (leb (length s) i) refl
  where
    go : (l : Bool) → leb (length s) i ≡ l → i < length s
    go true u = let o : length s ≤ i = leb-true (length s) i u in let n : x ≡ 0 = omega arith in let w : p 0 ≡ true = rw n at (sym e ∙ f) in clash cc
    go false u = leb-false (length s) i u

-- one of two bytes, or neither
pub told-either : (a a' n m : ℕ) (v : Bool) → a' ≡ a → eqb a' n || eqb a' m ≡ v → eqb a n || eqb a m ≡ v
told-either a a' n m v e f = rw (← e) f

pub ruleset tests = (told-either, told, told_not, told-yes, told-eq, told-ne, or_left, or_right, or-none, empty-yes, empty-no, end-ne, class-end, class-in, class-not, class-yes, class_of, class-of-not, class-of-yes)

-- what is left of a reading
module _ {A : Type 0} (s : List ℕ) (R : Option (List ℕ)) where
  pub rest-yes : (b : Bool) (x y : Parsed A) → b ≡ true → R ≡ rest_of x → R ≡ rest_of (pick b x y)
  unfolding pick
  rest-yes b x y t e = rw t e

  pub rest-no : (b : Bool) (x y : Parsed A) → b ≡ false → R ≡ rest_of y → R ≡ rest_of (pick b x y)
  unfolding pick
  rest-no b x y t e = rw t e

  pub rest-next : (i : ℕ) (f : List ℕ → Parsed A) → R ≡ rest_of (f (drop (i + 1) s)) → R ≡ rest_of (next (drop i s) f)
  unfolding next
  rest-next i f e = rw drop-drop e

  pub rest-skip : (p : ℕ → Bool) (i q : ℕ) (f : List ℕ → Parsed A) → drop q s ≡ past p (drop i s) → R ≡ rest_of (f (drop q s)) → R ≡ rest_of (skip p (drop i s) f)
  unfolding skip
  rest-skip p i q f e h = rw (← e) h

  pub rest-after : {B : Type 0} (a : Parsed B) (r : Option ℕ) (q : ℕ) (f : B → List ℕ → Parsed A) → left_at s r ≡ rest_of a → r ≡ Some q → ((x : B) → R ≡ rest_of (f x (drop q s))) → R ≡ rest_of (after a f)
  unfolding after rest_of left_at
  rest-after (parsed x l) r q f e g h =
      let d : Some (drop q s) ≡ Some l = sym (ap (left_at s) g) ∙ e in
      let m : drop q s ≡ l = cc in
      rw (← m) (h x)
  rest-after malformed r q f e g h =
      let d : Some (drop q s) ≡ None = sym (ap (left_at s) g) ∙ e in
      clash cc

pub rest-map : {A B : Type 0} (R : Option (List ℕ)) (g : A → B) (a : Parsed A) → R ≡ rest_of a → R ≡ rest_of (mapped g a)
unfolding mapped rest_of
rest-map R g (parsed x l) e = e
rest-map R g malformed e = e

pub rest-start : {A : Type 0} (s : List ℕ) (R : Option (List ℕ)) (p : ℕ → Bool) (q : ℕ) (f : List ℕ → Parsed A) → drop q s ≡ past p (drop 0 s) → R ≡ rest_of (f (drop q s)) → R ≡ rest_of (skip p s f)
unfolding skip
rest-start s R p q f e h = rw (← e) h

pub rest-len : {A : Type 0} (s : List ℕ) (R : Option (List ℕ)) (p : ℕ → Bool) (i e : ℕ) (f : ℕ → Parsed A) → drop e s ≡ past p (drop i s) → i ≤ e → e ≤ length s → R ≡ rest_of (f (e - i)) → R ≡ rest_of (let_len (run_of p (drop i s)) f)
unfolding let_len
rest-len s R p i e f h a b g =
    let n : length (run_of p (drop i s)) ≡ e - i = omega (arith, sym (length-drop i s) ∙ ap length (run-cut p (drop i s)), length-append (run_of p (drop i s)) (past p (drop i s)), sym (ap length h), length-drop e s) in
    rw n g

-- a run by the place past it, wherever it starts: one of some bytes, and none
module _ {A : Type 0} (s : List ℕ) (R : Option (List ℕ)) (p : ℕ → Bool) (i e : ℕ) (f : ℕ → Parsed A) (h : drop e s ≡ past p (drop i s)) where
  run_length : e ≤ length s → length (run_of p (drop i s)) ≡ e - i
  run_length b = omega (arith, sym (length-drop i s) ∙ ap length (run-cut p (drop i s)), length-append (run_of p (drop i s)) (past p (drop i s)), sym (ap length h), length-drop e s)

  pub rest-run : i < e → e ≤ length s → R ≡ rest_of (f (e - i)) → R ≡ rest_of (let_len (run_of p (drop i s)) f)
  unfolding let_len
  rest-run a b g = rw (run_length b) g

  pub rest-no-run : e ≤ i → e ≤ length s → R ≡ rest_of (f 0) → R ≡ rest_of (let_len (run_of p (drop i s)) f)
  unfolding let_len
  rest-no-run a b g = let z : length (run_of p (drop i s)) ≡ 0 = omega (arith, run_length b) in rw z g

pub run-some : (i e : ℕ) → i < e → eqb (e - i) 0 ≡ false
run-some i e h = ne_eqb (e - i) 0 (λ z. omega arith)

pub rest-malformed : {A B : Type 0} (s : List ℕ) (a : Parsed B) (r : Option ℕ) (f : B → List ℕ → Parsed A) → left_at s r ≡ rest_of a → r ≡ None → left_at s None ≡ rest_of (after a f)
unfolding after rest_of left_at
rest-malformed s (parsed x l) r f e g =
    let d : None ≡ Some l = sym (ap (left_at s) g) ∙ e in
    clash cc
rest-malformed s malformed r f e g = refl

pub rest-parsed : {A : Type 0} (s : List ℕ) (x : A) (q : ℕ) (l : List ℕ) → drop q s ≡ l → left_at s (Some q) ≡ rest_of (parsed x l)
unfolding rest_of left_at
rest-parsed s x q l e = ap Some e

pub rest-none : (A : Type 0) (s : List ℕ) → left_at s None ≡ rest_of {A = A} malformed
unfolding rest_of left_at
rest-none A s = refl

-- places that the code adds up in one step
pub two-on : (s : List ℕ) (i : ℕ) → drop (i + 2) s ≡ drop (i + 1 + 1) s
two-on s i = let e : i + 2 ≡ i + 1 + 1 = omega arith in rw e

pub ruleset reads = (rest-yes, rest-no, rest-next, rest-skip, rest-after, rest-map, rest-start, rest-len, rest-run, rest-no-run, run-some, eq-eqb, ne_eqb, le-leb, lt-leb, rest-malformed, rest-parsed, rest-none, two-on, key-run, token-run, tests)

-- the same of a turn
module _ {A : Type 0} (s : List ℕ) (R : Went) where
  pub went-yes : (b : Bool) (x y : Step A) → b ≡ true → R ≡ went_of x → R ≡ went_of (pick b x y)
  unfolding pick
  went-yes b x y t e = rw t e

  pub went-no : (b : Bool) (x y : Step A) → b ≡ false → R ≡ went_of y → R ≡ went_of (pick b x y)
  unfolding pick
  went-no b x y t e = rw t e

  pub went-next : (i : ℕ) (f : List ℕ → Step A) → R ≡ went_of (f (drop (i + 1) s)) → R ≡ went_of (next (drop i s) f)
  unfolding next
  went-next i f e = rw drop-drop e

  pub went-skip : (p : ℕ → Bool) (i q : ℕ) (f : List ℕ → Step A) → drop q s ≡ past p (drop i s) → R ≡ went_of (f (drop q s)) → R ≡ went_of (skip p (drop i s) f)
  unfolding skip
  went-skip p i q f e h = rw (← e) h

  pub went-after : {B : Type 0} (a : Parsed B) (r : Option ℕ) (q : ℕ) (f : B → List ℕ → Step A) → left_at s r ≡ rest_of a → r ≡ Some q → ((x : B) → R ≡ went_of (f x (drop q s))) → R ≡ went_of (going a f)
  unfolding going rest_of left_at
  went-after (parsed x l) r q f e g h =
      let d : Some (drop q s) ≡ Some l = sym (ap (left_at s) g) ∙ e in
      let m : drop q s ≡ l = cc in
      rw (← m) (h x)
  went-after malformed r q f e g h =
      let d : Some (drop q s) ≡ None = sym (ap (left_at s) g) ∙ e in
      clash cc

pub went-malformed : {A B : Type 0} (s : List ℕ) (a : Parsed B) (r : Option ℕ) (f : B → List ℕ → Step A) → left_at s r ≡ rest_of a → r ≡ None → went_at s None ≡ went_of (going a f)
unfolding going rest_of left_at went_of went_at
went-malformed s (parsed x l) r f e g =
    let d : None ≡ Some l = sym (ap (left_at s) g) ∙ e in
    clash cc
went-malformed s malformed r f e g = refl

module _ {A : Type 0} (s : List ℕ) where
  pub went-more : (x : List A) (q : ℕ) (l : List ℕ) → drop q s ≡ l → went_at s (Some (turn.More q)) ≡ went_of (more x l)
  unfolding went_of went_at
  went-more x q l e = ap goes e

  pub went-done : (x : List A) (q : ℕ) (l : List ℕ) → drop q s ≡ l → went_at s (Some (turn.Done q)) ≡ went_of (done x l)
  unfolding went_of went_at
  went-done x q l e = ap ends e

pub went-failed : (A : Type 0) (s : List ℕ) → went_at s None ≡ went_of {A = A} fail
unfolding went_of went_at
went-failed A s = refl

pub ruleset goings = (went-yes, went-no, went-next, went-skip, went-after, went-malformed, went-more, went-done, went-failed, two-on, tests)

-- rules for `omega`
pub low-at : (r : Option ℕ) (q : ℕ) → r ≡ Some q → low r ≡ q
low-at r q e = ap low e

pub high-at : (r : Option ℕ) (q : ℕ) → r ≡ Some q → high r ≡ q
high-at r q e = ap high e

pub go-low : (t : Option Turn) (q : ℕ) → t ≡ Some (turn.More q) → low_more t ≡ q
go-low t q e = ap low_more e

pub go-high : (t : Option Turn) (q : ℕ) → t ≡ Some (turn.More q) → high_turn t ≡ q
go-high t q e = ap high_turn e

pub done-low : (t : Option Turn) (q : ℕ) → t ≡ Some (turn.Done q) → low_done t ≡ q
done-low t q e = ap low_done e

pub done-high : (t : Option Turn) (q : ℕ) → t ≡ Some (turn.Done q) → high_turn t ≡ q
done-high t q e = ap high_turn e

pub ruleset lows = (arith, low-at, go-low, done-low)

pub ruleset highs = (arith, high-at, go-high, done-high)

-- a run is the part up to where it ends
pub run-part : (p : ℕ → Bool) (s : List ℕ) (i e : ℕ) → i ≤ length s → drop e s ≡ past p (drop i s) → min i (length s) ≤ e → e ≤ length s → take (e - i) (drop i s) ≡ run_of p (drop i s)
run-part p s i e j h a b =
    let c : drop i s ≡ run_of p (drop i s) ++ drop e s = rw h (run-cut p (drop i s)) in
    let n : length (run_of p (drop i s)) ≡ e - i = omega (arith, sym (length-drop i s) ∙ ap length c, length-append (run_of p (drop i s)) (drop e s), length-drop e s) in
    ap (take (e - i)) c ∙ take_at (run_of p (drop i s)) (drop e s) (e - i) n
