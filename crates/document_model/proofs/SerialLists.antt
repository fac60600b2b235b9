-- Lists of serials: those of the documents that pass a test, and that an ascending list is known by its members. Assumes nothing.
use mathlib.Core.Path.{◌≡◌, refl, sym, ap, ◌∙◌}
use Prim.Native.Nat.{ℕ, suc, ◌≤◌}
use native.Mathlib.Omega.{arith}
use mathlib.Core.Bool.{Bool, true, false}
use mathlib.Core.List.{List, [], ◌∷◌}
use lib.ListN.{length}
use Rattle.ascii.specs.Bytes.{pick}
use Rattle.document_model.specs.Model.{Identity, Document, Call, elem, is_at_or_beneath, serials_beneath, removed_count, table_after}
use Rattle.document_model.specs.History.{history, Member, first, later, Ascending, Exactly, AreLoaded, AreBeneath}
use Rattle.document_model.proofs.Booleans.{is_true}
use Rattle.document_model.proofs.Tables.{In, here, there, Rising}
use Rattle.document_model.proofs.Invariant.{reachable}
use Rattle.document_model.proofs.Agreement.{agrees}

-- the serials of the documents that pass a test
unfoldable pub serials_where : (Identity → Bool) → List Document → List ℕ
serials_where p [] = []
serials_where p (d ∷ ds) = pick (p d.identity) (d.identity.serial ∷ serials_where p ds) (serials_where p ds)

pub beneath-where : (s : ℕ) (ds : List Document) → serials_beneath s ds ≡ serials_where (λ w. elem s w.above) ds
unfolding serials_beneath serials_where
beneath-where s [] = refl
beneath-where s (d ∷ ds) = ap (λ (l : List ℕ). pick (elem s d.identity.above) (d.identity.serial ∷ l) l) (beneath-where s ds)

removed-part : (b : Bool) (n k : ℕ) (l : List ℕ) → k ≡ length l → pick b (suc k) k ≡ length (pick b (n ∷ l) l)
unfolding pick
removed-part true n k l e = ap suc e
removed-part false n k l e = e

pub removed-where : (s : ℕ) (ds : List Document) → removed_count s ds ≡ length (serials_where (is_at_or_beneath s) ds)
unfolding removed_count serials_where
removed-where s [] = refl
removed-where s (d ∷ ds) = removed-part (is_at_or_beneath s d.identity) d.identity.serial (removed_count s ds) (serials_where (is_at_or_beneath s) ds) (removed-where s ds)

pub all-where : (ds : List Document) → length (serials_where (λ w. true) ds) ≡ length ds
unfolding serials_where pick
all-where [] = refl
all-where (d ∷ ds) = ap suc (all-where ds)

-- ---- ascending

asc-weak : (lo hi : ℕ) (l : List ℕ) → lo ≤ hi → Ascending hi l → Ascending lo l
asc-weak lo hi [] h a = tt
asc-weak lo hi (n ∷ l) h a = (omega arith, a.1)

asc-pick : (b : Bool) (lo n : ℕ) (l : List ℕ) → lo ≤ n → Ascending (suc n) l → Ascending lo (pick b (n ∷ l) l)
unfolding pick
asc-pick true lo n l h a = (h, a)
asc-pick false lo n l h a = asc-weak lo (suc n) l (omega arith) a

pub where-ascends : (p : Identity → Bool) (lo : ℕ) (ds : List Document) (hi : ℕ) → Rising lo ds hi → Ascending lo (serials_where p ds)
unfolding serials_where
where-ascends p lo [] hi r = tt
where-ascends p lo (d ∷ ds) hi r = asc-pick (p d.identity) lo d.identity.serial (serials_where p ds) r.0 (where-ascends p (suc d.identity.serial) ds hi r.1)

split : {X : Type 0} (n m k : ℕ) (l : List ℕ) → k ≡ n → Member k (m ∷ l) → (n ≡ m → X) → (Member n l → X) → X
split n m k l e first f g = f (sym e)
split n m k l e (later i) f g = g (rw e at i)

asc-low : (lo n : ℕ) (l : List ℕ) → Ascending lo l → Member n l → lo ≤ n
asc-low lo n [] a k = elim k [ ]
asc-low lo n (m ∷ l) a k = split n m n l refl k (λ e. omega (arith, a.0)) (λ i. omega (arith, a.0, asc-low (suc m) n l a.1 i))

pub where-ascends-low : (p : Identity → Bool) (ds : List Document) (hi : ℕ) → Rising 1 ds hi → Ascending 0 (serials_where p ds)
where-ascends-low p ds hi r = asc-weak 0 1 (serials_where p ds) (omega arith) (where-ascends p 1 ds hi r)

-- ---- members

pub record From (p : Identity → Bool) (ds : List Document) (n : ℕ) : Type 0 where
  pub doc : Document
  pub is_in : In doc ds
  pub is : doc.identity.serial ≡ n
  pub passes : p doc.identity ≡ true

deeper : {p : Identity → Bool} {d : Document} {ds : List Document} {n : ℕ} → From p ds n → From p (d ∷ ds) n
deeper f = record { doc = f.doc; is_in = there f.is_in; is = f.is; passes = f.passes }

from-split : (p : Identity → Bool) (d : Document) (ds : List Document) (n : ℕ) (b : Bool) → p d.identity ≡ b → (Member n (serials_where p ds) → From p ds n) → (k m : ℕ) → k ≡ d.identity.serial → m ≡ n → Member m (pick b (k ∷ serials_where p ds) (serials_where p ds)) → From p (d ∷ ds) n
unfolding pick
from-split p d ds n true e h k m q z first = record { doc = d; is_in = here; is = sym q ∙ z; passes = e }
from-split p d ds n true e h k m q z (later i) = deeper (h (rw z at i))
from-split p d ds n false e h k m q z i = deeper (h (rw z at i))

pub where-sound : (p : Identity → Bool) (ds : List Document) (n : ℕ) → Member n (serials_where p ds) → From p ds n
unfolding serials_where
where-sound p [] n m = elim m [ ]
where-sound p (d ∷ ds) n m = from-split p d ds n (p d.identity) refl (where-sound p ds n) d.identity.serial n refl refl m

pick-later : (b : Bool) (n k : ℕ) (l : List ℕ) → Member n l → Member n (pick b (k ∷ l) l)
unfolding pick
pick-later true n k l m = later m
pick-later false n k l m = m

pub where-whole : (p : Identity → Bool) {x : Document} {ds : List Document} → In x ds → p x.identity ≡ true → Member x.identity.serial (serials_where p ds)
unfolding serials_where pick
where-whole p here e = rw e first
where-whole p {x} (there {y = y} {l = l} m) e = pick-later (p y.identity) x.identity.serial y.identity.serial (serials_where p l) (where-whole p m e)

-- ---- an ascending list is known by its members

same_head : (lo x y : ℕ) (l m : List ℕ) → Ascending lo (x ∷ l) → Ascending lo (y ∷ m) → Member x (y ∷ m) → Member y (x ∷ l) → x ≡ y
same_head lo x y l m a b i j =
    split x y x m refl i (λ e. e)
    (λ u. split y x y l refl j (λ e. sym e) (λ v. absurd (omega (arith, asc-low (suc y) x m b.1 u, asc-low (suc x) y l a.1 v))))

tail_of : (x n : ℕ) (l m : List ℕ) → Ascending (suc x) l → (Member n (x ∷ l) → Member n (x ∷ m)) → Member n l → Member n m
tail_of x n l m a f i = split n x n m refl (f (later i)) (λ e. absurd (omega (arith, asc-low (suc x) n l a i))) (λ k. k)

asc-same : (lo : ℕ) (l m : List ℕ) → Ascending lo l → Ascending lo m → ((n : ℕ) → Member n l → Member n m) → ((n : ℕ) → Member n m → Member n l) → l ≡ m
asc-same lo [] [] a b f g = refl
asc-same lo [] (y ∷ m) a b f g = elim (g y first) [ ]
asc-same lo (x ∷ l) [] a b f g = elim (f x first) [ ]
asc-same lo (x ∷ l) (y ∷ m) a b f g =
    let e : x ≡ y = same_head lo x y l m a b (f x first) (g y first) in
    let b' : Ascending (suc x) m = rw e b.1 in
    let f' : (n : ℕ) → Member n (x ∷ l) → Member n (x ∷ m) = λ n i. rw e (f n i) in
    let g' : (n : ℕ) → Member n (x ∷ m) → Member n (x ∷ l) = λ n i. g n (rw e at i) in
    rw e (ap (λ (v : List ℕ). y ∷ v) (asc-same (suc x) l m a.1 b' (λ n i. tail_of x n l m a.1 (f' n) i) (λ n i. tail_of x n m l b' (g' n) i)))

pub exactly-one : (P : ℕ → Type 0) (l m : List ℕ) → Exactly P l → Exactly P m → l ≡ m
exactly-one P l m e f = asc-same 0 l m e.ascends f.ascends (λ n i. f.whole n (e.sound n i)) (λ n i. e.whole n (f.sound n i))

-- ---- what is loaded, and what is beneath

pub loaded-list : (cs : List Call) → AreLoaded (history cs) (serials_where (λ w. true) (table_after cs).docs)
loaded-list cs =
    let h = agrees (cs) in
    let i = reachable cs in
    record {
      ascends = asc-weak 0 1 (serials_where (λ w. true) (table_after cs).docs) (omega arith) (where-ascends (λ w. true) 1 (table_after cs).docs (table_after cs).next i.rising);
      sound = λ n m. let f = where-sound (λ w. true) (table_after cs).docs n m in rw f.is at (h.told f.doc f.is_in);
      whole = λ n l. let w = h.is_there n l in rw w.2 at (where-whole (λ w'. true) w.1 refl);
    }

pub beneath-list : (cs : List Call) (s : ℕ) → AreBeneath (history cs) s (serials_beneath s (table_after cs).docs)
beneath-list cs s =
    let h = agrees (cs) in
    let i = reachable cs in
    let p : Identity → Bool = λ w. elem s w.above in
    rw (beneath-where s (table_after cs).docs) (record {
      ascends = asc-weak 0 1 (serials_where p (table_after cs).docs) (omega arith) (where-ascends p 1 (table_after cs).docs (table_after cs).next i.rising);
      sound = λ n m. let f = where-sound p (table_after cs).docs n m in
          (rw f.is at (h.told f.doc f.is_in), rw f.is at (h.chained f.doc f.is_in s (rw f.passes tt)));
      whole = λ n l. let w = h.is_there n l.0 in rw w.2 at (where-whole p w.1 (is_true (elem s w.0.identity.above) (h.chain w.0 w.1 s (rw w.2 l.1))));
    })
