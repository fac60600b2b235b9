-- What is found, stays and is listed among documents that are looked at one after the other: a part of the laws of this crate. Assumes nothing.
use mathlib.Core.Path.{◌≡◌, refl, sym, ap, ◌∙◌}
use Prim.Native.Nat.{ℕ, suc, ◌+◌, ◌-◌, ◌≤◌, ◌<◌}
use native.Mathlib.Numerals.{add-one}
use native.Mathlib.Omega.{arith}
use mathlib.Core.Bool.{Bool, true, false, ◌||◌}
use mathlib.Core.List.{List, [], ◌∷◌, ◌++◌, append-nil, append_assoc}
use Rattle.std.specs.Prelude.{Some, None}
use borrow.Author.Tests.{eq-eqb, ne_eqb, eqb-true, eqb-false}
use lib.Dec.{eqb}
use lib.ListN.{length, set, take, drop, get_or, length-append}
use lib.Seq.{drop-cons, length-take-le, take-suc, take-append_seam, set_at}
use Rattle.ascii.specs.Bytes.{pick}
use Rattle.document_model.specs.Model.{Identity, Document, values_from, elem, find, is_at_or_beneath, remaining, removed_count, serials_beneath, stored}
use Rattle.document_model.proofs.Values.{values-snoc}

-- ---- a serial in a list

module _ (s x : ℕ) (l : List ℕ) where
  pub elem-first : x ≡ s → elem s (x ∷ l) ≡ true
  unfolding elem
  elem-first e = rw (eq-eqb s x (sym e)) refl

  pub elem_next : (x ≡ s → ⊥) → elem s (x ∷ l) ≡ elem s l
  unfolding elem
  elem_next e = rw (ne_eqb s x (λ q. e (sym q))) refl

pub elem-nil : (s : ℕ) → elem s [] ≡ false
unfolding elem
elem-nil s = refl

-- ---- the document of a serial among the first n, from place i on

module _ (f : ℕ → Document) (n i s : ℕ) (lt : i < n) where
  find-step : find s (values_from f i (n - i)) ≡ pick (eqb s (f i).identity.serial) (Some (f i)) (find s (values_from f (i + 1) (n - (i + 1))))
  unfolding find values_from
  find-step =
      let e : n - i ≡ suc (n - (i + 1)) = omega arith in
      rw (e, add-one) refl

  pub find-here : (f i).identity.serial ≡ s → find s (values_from f i (n - i)) ≡ Some (f i)
  unfolding pick
  find-here e = rw (find-step, eq-eqb s (f i).identity.serial (sym e)) refl

  pub find-on : ((f i).identity.serial ≡ s → ⊥) → find s (values_from f i (n - i)) ≡ find s (values_from f (i + 1) (n - (i + 1)))
  unfolding pick
  find-on e = rw (find-step, ne_eqb s (f i).identity.serial (λ q. e (sym q))) refl

pub find-end : (f : ℕ → Document) (n i s : ℕ) → n ≤ i → find s (values_from f i (n - i)) ≡ None
unfolding find values_from
find-end f n i s le = let e : n - i ≡ 0 = omega arith in rw e refl

-- ---- the document has the serial, or is beneath the one that has it

eqb_swap : (m n : ℕ) (b : Bool) → eqb m n ≡ b → eqb m n ≡ eqb n m
eqb_swap m n true e = e ∙ sym (eq-eqb n m (sym (eqb-true m n e)))
eqb_swap m n false e = e ∙ sym (ne_eqb n m (λ q. eqb-false m n e (sym q)))

pub at-or-beneath : (s : ℕ) (i : Identity) → is_at_or_beneath s i ≡ (eqb i.serial s || elem s i.above)
unfolding is_at_or_beneath
at-or-beneath s i = rw (eqb_swap s i.serial (eqb s i.serial) refl) refl

-- ---- what stays, goes and is listed, with one document more at the end

pick-append : {A : Type 0} (b : Bool) (x : A) (l m : List A) → pick b (l ++ m) (x ∷ (l ++ m)) ≡ pick b l (x ∷ l) ++ m
unfolding pick
pick-append true x l m = refl
pick-append false x l m = refl

pick-append' : {A : Type 0} (b : Bool) (x : A) (l m : List A) → pick b (x ∷ (l ++ m)) (l ++ m) ≡ pick b (x ∷ l) l ++ m
unfolding pick
pick-append' true x l m = refl
pick-append' false x l m = refl

pick-add : (b : Bool) (m n : ℕ) → pick b (suc (m + n)) (m + n) ≡ pick b (suc m) m + n
unfolding pick
pick-add true m n = omega arith
pick-add false m n = refl

remaining-append : (s : ℕ) (ds es : List Document) → remaining s (ds ++ es) ≡ remaining s ds ++ remaining s es
unfolding remaining
remaining-append s [] es = refl
remaining-append s (d ∷ ds) es = rw (remaining-append s ds es) (pick-append (is_at_or_beneath s d.identity) d (remaining s ds) (remaining s es))

removed-append : (s : ℕ) (ds es : List Document) → removed_count s (ds ++ es) ≡ removed_count s ds + removed_count s es
unfolding removed_count
removed-append s [] es = omega arith
removed-append s (d ∷ ds) es = rw (removed-append s ds es) (pick-add (is_at_or_beneath s d.identity) (removed_count s ds) (removed_count s es))

serials-append : (s : ℕ) (ds es : List Document) → serials_beneath s (ds ++ es) ≡ serials_beneath s ds ++ serials_beneath s es
unfolding serials_beneath
serials-append s [] es = refl
serials-append s (d ∷ ds) es = rw (serials-append s ds es) (pick-append' (elem s d.identity.above) d.identity.serial (serials_beneath s ds) (serials_beneath s es))

-- before the first
module _ (f : ℕ → Document) (s : ℕ) where
  pub remaining-none : remaining s (values_from f 0 0) ≡ []
  unfolding remaining values_from
  remaining-none = refl

  pub removed-none : removed_count s (values_from f 0 0) ≡ 0
  unfolding removed_count values_from
  removed-none = refl

  pub serials-none : serials_beneath s (values_from f 0 0) ≡ []
  unfolding serials_beneath values_from
  serials-none = refl

module _ (f : ℕ → Document) (s i : ℕ) where
  one_more : values_from f 0 (i + 1) ≡ values_from f 0 i ++ (f i ∷ [])
  one_more = let e : 0 + i ≡ i = omega arith in rw add-one (values-snoc f 0 i ∙ ap (λ (n : ℕ). values_from f 0 i ++ (f n ∷ [])) e)

  pub remaining-goes : is_at_or_beneath s (f i).identity ≡ true → remaining s (values_from f 0 (i + 1)) ≡ remaining s (values_from f 0 i)
  unfolding remaining pick
  remaining-goes e = rw (one_more, remaining-append, e) (append-nil (remaining s (values_from f 0 i)))

  pub remaining-stays : is_at_or_beneath s (f i).identity ≡ false → remaining s (values_from f 0 (i + 1)) ≡ remaining s (values_from f 0 i) ++ (f i ∷ [])
  unfolding remaining pick
  remaining-stays e = rw (one_more, remaining-append, e) refl

  pub removed-goes : is_at_or_beneath s (f i).identity ≡ true → removed_count s (values_from f 0 (i + 1)) ≡ removed_count s (values_from f 0 i) + 1
  unfolding removed_count pick
  removed-goes e = rw (one_more, removed-append, e) refl

  pub removed-stays : is_at_or_beneath s (f i).identity ≡ false → removed_count s (values_from f 0 (i + 1)) ≡ removed_count s (values_from f 0 i)
  unfolding removed_count pick
  removed-stays e = rw (one_more, removed-append, e) (omega arith)

  pub serials-more : elem s (f i).identity.above ≡ true → serials_beneath s (values_from f 0 (i + 1)) ≡ serials_beneath s (values_from f 0 i) ++ ((f i).identity.serial ∷ [])
  unfolding serials_beneath pick
  serials-more e = rw (one_more, serials-append, e) refl

  pub serials-same : elem s (f i).identity.above ≡ false → serials_beneath s (values_from f 0 (i + 1)) ≡ serials_beneath s (values_from f 0 i)
  unfolding serials_beneath pick
  serials-same e = rw (one_more, serials-append, e) (append-nil (serials_beneath s (values_from f 0 i)))

-- ---- serials stored into a run, one after the other

pub stored-none : (l run : List ℕ) → run ≡ stored (take 0 l) run
unfolding stored
stored-none l run = refl

pub stored_more : (l run : List ℕ) (i z : ℕ) → i < length l → i < length run → set (stored (take i l) run) i (get_or l i z) ≡ stored (take (i + 1) l) run
unfolding stored
stored_more l run i z h k =
    let v = get_or l i z in
    let a : length (take i l) ≡ i = length-take-le i l (omega arith) in
    let b : length (take (suc i) l) ≡ suc i = length-take-le (suc i) l (omega arith) in
    let after : take (i + 1) l ++ drop (length (take (i + 1) l)) run ≡ take i l ++ (v ∷ drop (suc i) run) = rw (add-one, b, take-suc l i z h, append_assoc) refl in
    ap (λ (n : ℕ). set (take i l ++ drop n run) i v) a
    ∙ (ap (λ (m : List ℕ). set (take i l ++ m) i v) (drop-cons run i 0 k) ∙ (set_at (take i l) (get_or run i 0) (drop (suc i) run) v i a ∙ sym after))

pub stored-front : (l run : List ℕ) → take (length l) (stored l run) ≡ l
unfolding stored
stored-front l run = take-append_seam l (drop (length l) run)

-- one serial more, behind those that stand there
pub stored-snoc : (l run : List ℕ) (x : ℕ) → length l < length run → set (stored l run) (length l) x ≡ stored (l ++ (x ∷ [])) run
unfolding stored
stored-snoc l run x h =
    ap (λ (m : List ℕ). set (l ++ m) (length l) x) (drop-cons run (length l) 0 h)
    ∙ (set_at l (get_or run (length l) 0) (drop (suc (length l)) run) x (length l) refl ∙ rw (length-append, add-one (length l), append_assoc) refl)

-- one more stands in the run, and at last all do
pub stored_on : (l before run : List ℕ) (n i z : ℕ) → n ≤ length l → n ≤ length before → i < n → run ≡ stored (take i l) before → set run i (get_or l i z) ≡ stored (take (i + 1) l) before
stored_on l before run n i z h k lt e = rw e (stored_more l before i z (omega arith) (omega arith))

pub stored-end : (l before run : List ℕ) (n i : ℕ) → i ≤ n → n ≤ i → run ≡ stored (take i l) before → run ≡ stored (take n l) before
stored-end l before run n i h k e = let q : n ≡ i = omega arith in rw q e

-- no more serials are beneath a document than documents are loaded
pub beneath-fewer : (s : ℕ) (ds : List Document) → length (serials_beneath s ds) ≤ length ds
unfolding serials_beneath
beneath-fewer s [] = omega arith
beneath-fewer s (d ∷ ds) = go (elem s d.identity.above) (beneath-fewer s ds)
  where
    go : (b : Bool) → length (serials_beneath s ds) ≤ length ds → length (pick b (d.identity.serial ∷ serials_beneath s ds) (serials_beneath s ds)) ≤ length (d ∷ ds)
    go = unfold pick in (elim [ true ↦ λ h. omega arith | false ↦ λ h. omega arith ])
