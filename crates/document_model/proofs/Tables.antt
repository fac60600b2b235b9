-- Lists of documents in serial order: what `find` finds, what an unload leaves, and that a serial names one document. Assumes nothing.
use mathlib.Core.Path.{◌≡◌, refl, ap, subst, ◌∙◌}
use Prim.Native.Nat.{ℕ, zero, suc, ◌+◌, ◌≤◌, ◌<◌}
use native.Mathlib.Omega.{arith}
use mathlib.Core.Bool.{Bool, true, false}
use Rattle.std.specs.Prelude.{Option, None, Some}
use mathlib.Core.List.{List, [], ◌∷◌, ◌++◌}
use lib.Dec.{T, eqb, eqb→eq, eqb_refl}
use lib.ListN.{length}
use Rattle.ascii.proofs.Clash.{clash}
use Rattle.ascii.specs.Bytes.{pick}
use Rattle.document_model.specs.Model.{Document, values_from, elem, is_at_or_beneath, find, remaining, removed_count}
use Rattle.document_model.proofs.Booleans.{eqb-self, is_false, or-neither}

-- ---- documents in a list

pub data In (x : Document) : List Document → Type 0 where
  here : {l : List Document} → In x (x ∷ l)
  there : {y : Document} {l : List Document} → In x l → In x (y ∷ l)

pub in-values : (f : ℕ → Document) (k i j : ℕ) → j < k → In (f (i + j)) (values_from f i k)
unfolding values_from
in-values f zero i j h = elim h [ ]
in-values f (suc k) i zero h = let e : i + 0 ≡ i = omega arith in rw e here
in-values f (suc k) i (suc j) h = let e : i + suc j ≡ suc i + j = omega arith in rw e (there (in-values f k (suc i) j (omega arith)))

pub in_left : {x : Document} {ds : List Document} (es : List Document) → In x ds → In x (ds ++ es)
in_left es here = here
in_left es (there m) = there (in_left es m)

pub in-last : (ds : List Document) (x : Document) → In x (ds ++ (x ∷ []))
in-last [] x = here
in-last (d ∷ ds) x = there (in-last ds x)

pub in-push : (P : Document → Type 0) (ds : List Document) (y : Document) → ((x : Document) → In x ds → P x) → P y → (x : Document) → In x (ds ++ (y ∷ [])) → P x
in-push P [] y f p x here = p
in-push P [] y f p x (there m) = elim m [ ]
in-push P (d ∷ ds) y f p x here = f x here
in-push P (d ∷ ds) y f p x (there m) = in-push P ds y (λ z k. f z (there k)) p x m

-- the document stays when s is unloaded
pub record Remains (s : ℕ) (ds : List Document) (x : Document) : Type 0 where
  pub was : In x ds
  pub safe : is_at_or_beneath s x.identity ≡ false

remaining-split : (s : ℕ) (d : Document) (ds : List Document) (b : Bool) → is_at_or_beneath s d.identity ≡ b → ((x : Document) → In x (remaining s ds) → Remains s ds x) → (x : Document) → In x (pick b (remaining s ds) (d ∷ remaining s ds)) → Remains s (d ∷ ds) x
unfolding pick
remaining-split s d ds true e h x m = record { was = there (h x m).was; safe = (h x m).safe }
remaining-split s d ds false e h x here = record { was = here; safe = e }
remaining-split s d ds false e h x (there m) = record { was = there (h x m).was; safe = (h x m).safe }

pub in-remaining : (s : ℕ) (ds : List Document) (x : Document) → In x (remaining s ds) → Remains s ds x
unfolding remaining
in-remaining s [] x m = elim m [ ]
in-remaining s (d ∷ ds) x m = remaining-split s d ds (is_at_or_beneath s d.identity) refl (in-remaining s ds) x m

remaining-skip : (b : Bool) (d : Document) {z : Document} {l : List Document} → In z l → In z (pick b l (d ∷ l))
unfolding pick
remaining-skip true d k = k
remaining-skip false d k = there k

pub remaining-in : (s : ℕ) {x : Document} {ds : List Document} → In x ds → is_at_or_beneath s x.identity ≡ false → In x (remaining s ds)
unfolding remaining pick
remaining-in s here e = rw e here
remaining-in s (there {y = y} m) e = remaining-skip (is_at_or_beneath s y.identity) y (remaining-in s m e)

-- ---- serials rise from lo on, and stay below hi

abbrev pub Rising : ℕ → List Document → ℕ → Type 0
Rising lo [] hi = lo ≤ hi
Rising lo (d ∷ ds) hi = (lo ≤ d.identity.serial) × Rising (suc d.identity.serial) ds hi

rising-weak : (lo lo' : ℕ) (ds : List Document) (hi : ℕ) → lo' ≤ lo → Rising lo ds hi → Rising lo' ds hi
rising-weak lo lo' [] hi h r = omega arith
rising-weak lo lo' (d ∷ ds) hi h r = (omega arith, r.1)

pub rising-push : (lo : ℕ) (ds : List Document) (y : Document) → Rising lo ds y.identity.serial → Rising lo (ds ++ (y ∷ [])) (suc y.identity.serial)
rising-push lo [] y r = (r, omega arith)
rising-push lo (d ∷ ds) y r = (r.0, rising-push (suc d.identity.serial) ds y r.1)

rising-drop : (s lo : ℕ) (d : Document) (ds : List Document) (hi : ℕ) → lo ≤ d.identity.serial → (b : Bool) → Rising (suc d.identity.serial) (remaining s ds) hi → Rising lo (pick b (remaining s ds) (d ∷ remaining s ds)) hi
unfolding pick
rising-drop s lo d ds hi r true k = rising-weak (suc d.identity.serial) lo (remaining s ds) hi (omega arith) k
rising-drop s lo d ds hi r false k = (r, k)

pub rising-remaining : (s lo : ℕ) (ds : List Document) (hi : ℕ) → Rising lo ds hi → Rising lo (remaining s ds) hi
unfolding remaining
rising-remaining s lo [] hi r = r
rising-remaining s lo (d ∷ ds) hi r = rising-drop s lo d ds hi r.0 (is_at_or_beneath s d.identity) (rising-remaining s (suc d.identity.serial) ds hi r.1)

pub rising-low : (lo : ℕ) (ds : List Document) (hi : ℕ) → Rising lo ds hi → {x : Document} → In x ds → lo ≤ x.identity.serial
rising-low lo [] hi r m = elim m [ ]
rising-low lo (d ∷ ds) hi r here = r.0
rising-low lo (d ∷ ds) hi r (there m) = omega (arith, rising-low (suc d.identity.serial) ds hi r.1 m)

rising-high : (lo : ℕ) (ds : List Document) (hi : ℕ) → Rising lo ds hi → lo ≤ hi
rising-high lo [] hi r = r
rising-high lo (d ∷ ds) hi r = omega (arith, rising-high (suc d.identity.serial) ds hi r.1)

pub rising-below : (lo : ℕ) (ds : List Document) (hi : ℕ) → Rising lo ds hi → (x : Document) → In x ds → x.identity.serial < hi
rising-below lo [] hi r x m = elim m [ ]
rising-below lo (d ∷ ds) hi r x here = rising-high (suc x.identity.serial) ds hi r.1
rising-below lo (d ∷ ds) hi r x (there m) = rising-below (suc d.identity.serial) ds hi r.1 x m

-- a serial names one document
pub rising-one : (lo : ℕ) (ds : List Document) (hi : ℕ) → Rising lo ds hi → (x y : Document) → In x ds → In y ds → x.identity.serial ≡ y.identity.serial → x ≡ y
rising-one lo [] hi r x y m _ e = elim m [ ]
rising-one lo (d ∷ ds) hi r x y here here e = refl
rising-one lo (d ∷ ds) hi r x y here (there n) e = absurd (omega (arith, rising-low (suc x.identity.serial) ds hi r.1 n))
rising-one lo (d ∷ ds) hi r x y (there m) here e = absurd (omega (arith, rising-low (suc y.identity.serial) ds hi r.1 m))
rising-one lo (d ∷ ds) hi r x y (there m) (there n) e = rising-one (suc d.identity.serial) ds hi r.1 x y m n e

-- ---- what find finds

pub data Finds (s : ℕ) (ds : List Document) : Option Document → Type 0 where
  missing : ((x : Document) → In x ds → s ≡ x.identity.serial → ⊥) → Finds s ds None
  hit : (d : Document) → In d ds → s ≡ d.identity.serial → Finds s ds (Some d)

not_first : (s : ℕ) (d : Document) (ds : List Document) → eqb s d.identity.serial ≡ false → ((x : Document) → In x ds → s ≡ x.identity.serial → ⊥) → (x : Document) → In x (d ∷ ds) → s ≡ x.identity.serial → ⊥
not_first s d ds e h x here q = absurd (subst T e (subst (λ (n : ℕ). T (eqb s n)) q (eqb_refl s)))
not_first s d ds e h x (there m) q = h x m q

first_found : (s : ℕ) (d : Document) (ds : List Document) (b : Bool) → eqb s d.identity.serial ≡ b → (o : Option Document) → Finds s ds o → Finds s (d ∷ ds) (pick b (Some d) o)
unfolding pick
first_found s d ds true e o f = hit d here (eqb→eq s d.identity.serial (rw e tt))
first_found s d ds false e o (missing h) = missing (not_first s d ds e h)
first_found s d ds false e o (hit x m q) = hit x (there m) q

pub finds : (s : ℕ) (ds : List Document) → Finds s ds (find s ds)
unfolding find
finds s [] = missing (λ x m. elim m [ ])
finds s (d ∷ ds) = first_found s d ds (eqb s d.identity.serial) refl (find s ds) (finds s ds)

found-in : (s : ℕ) (ds : List Document) (o : Option Document) → Finds s ds o → (d : Document) → o ≡ Some d → In d ds × (s ≡ d.identity.serial)
found-in s ds o (missing h) d e = clash cc
found-in s ds o (hit x m q) d e = let z : x ≡ d = cc in (subst (λ (y : Document). In y ds) z m, q ∙ ap (λ (y : Document). y.identity.serial) z)

pub find-some : (s : ℕ) (ds : List Document) (d : Document) → find s ds ≡ Some d → In d ds × (s ≡ d.identity.serial)
find-some s ds d e = found-in s ds (find s ds) (finds s ds) d e

pub in-find : (lo : ℕ) (ds : List Document) (hi : ℕ) → Rising lo ds hi → (c : Document) → In c ds → find c.identity.serial ds ≡ Some c
unfolding find pick
in-find lo [] hi r c m = elim m [ ]
in-find lo (d ∷ ds) hi r c here = rw (eqb-self c.identity.serial)
in-find lo (d ∷ ds) hi r c (there m) =
    let l : suc d.identity.serial ≤ c.identity.serial = rising-low (suc d.identity.serial) ds hi r.1 m in
    rw (is_false (eqb c.identity.serial d.identity.serial) (λ t. omega (arith, eqb→eq c.identity.serial d.identity.serial t)))
    (in-find (suc d.identity.serial) ds hi r.1 c m)

-- what an unload removes and what it leaves are all
count-part : (s : ℕ) (d : Document) (ds : List Document) (b : Bool) → removed_count s ds + length (remaining s ds) ≡ length ds → pick b (suc (removed_count s ds)) (removed_count s ds) + length (pick b (remaining s ds) (d ∷ remaining s ds)) ≡ suc (length ds)
unfolding pick
count-part s d ds true e = omega arith
count-part s d ds false e = omega arith

pub count : (s : ℕ) (ds : List Document) → removed_count s ds + length (remaining s ds) ≡ length ds
unfolding removed_count remaining
count s [] = refl
count s (d ∷ ds) = count-part s d ds (is_at_or_beneath s d.identity) (count s ds)

-- the container of a document that stays, stays
pub container-stays : (s : ℕ) (x c : Document) → x.identity.above ≡ c.identity.serial ∷ c.identity.above → is_at_or_beneath s x.identity ≡ false → is_at_or_beneath s c.identity ≡ false
unfolding is_at_or_beneath elem
container-stays s x c e h = subst (λ (l : List ℕ). elem s l ≡ false) e (or-neither (eqb s x.identity.serial) (elem s x.identity.above) h)
