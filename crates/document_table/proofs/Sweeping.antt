-- An unload: the entries that stay are moved up one by one. And the serials beneath a document, listed. Assumes nothing.
use mathlib.Core.Path.{◌≡◌, refl, ap, sym, ◌∙◌, subst}
use mathlib.Core.List.{List, [], ◌∷◌, ◌++◌}
use mathlib.Core.Bool.{Bool, true, false}
use Prim.Native.Nat.{ℕ, zero, suc, ◌+◌, ◌-◌, ◌^◌, ◌<◌, ◌≤◌}
use native.Mathlib.Numerals.{add-one}
use native.Mathlib.Omega.{arith}
use lib.Dec.{eqb}
use lib.ListN.{length, drop, set, length-append, length-replicate}
use borrow.Author.Tests.{eqb-true, eqb-false, eq-eqb, ne_eqb}
use Rattle.ascii.specs.Bytes.{pick}
use Rattle.limits.specs.Limits.{document_limit}
use Rattle.lent_bytes.specs.Numbers.{numbers_in, with_number, bytes_of}
use Rattle.lent_bytes.proofs.Laws.{bytes-long, put-long, put-past}
use Rattle.document_model.specs.Model.{Document, values_from, elem, is_at_or_beneath, remaining, removed_count, serials_beneath, stored}
use Rattle.document_model.proofs.Laws.{remaining-none, remaining-goes, remaining-stays, removed-none, removed-goes, removed-stays, serials-none, serials-more, serials-same, stored-none, stored-snoc, values-none, values_same, values-snoc}
use Rattle.document_records.specs.Slots.{above_bytes}
use Rattle.document_table.specs.Layout.{count_place, table_bytes, count_in, last_in, serial_at, slot_number, slot_of, doc_at, docs_in, moved, swept, removed_run}
use Rattle.document_table.specs.Tables.{Sound, IsSlot, IsRemoved, no_serials, AreSerials}
use Rattle.document_table.proofs.Laws.{doc-same, doc-serial, beneath-is}
use Rattle.document_table.proofs.Puts.{behind-mark, count-here, count-last, count-serial, count-number, count-slot, moved-long, moved-count, moved-last, moved-serial, moved-serial-other, moved-mark, moved-past, moved-slot, moved-from, moved_to, moved-number-other}

-- ---- two places change

swapped : ℕ → ℕ → ℕ → ℕ
swapped k i j = pick (eqb j i) k (pick (eqb j k) i j)

swapped-from : (k i : ℕ) → swapped k i i ≡ k
unfolding swapped pick
swapped-from k i = rw (eq-eqb i i refl) refl

swapped-to : (k i : ℕ) → swapped k i k ≡ i
swapped-to k i = go (eqb k i) refl
  where
    go : (b : Bool) → eqb k i ≡ b → swapped k i k ≡ i
    go true e = let q : k ≡ i = eqb-true k i e in subst (λ (x : ℕ). swapped x i x ≡ i) (sym q) (swapped-from i i)
    go false e = unfold swapped pick in rw (e, eq-eqb k k refl) refl

swapped_other : (k i j : ℕ) → (j ≡ k → ⊥) → (j ≡ i → ⊥) → swapped k i j ≡ j
unfolding swapped pick
swapped_other k i j nk ni = rw (ne_eqb j i ni, ne_eqb j k nk) refl

-- the three places, with what is known of each
by_place : (k i j : ℕ) (P : Type 0) → (j ≡ i → P) → (j ≡ k → (j ≡ i → ⊥) → P) → ((j ≡ k → ⊥) → (j ≡ i → ⊥) → P) → P
by_place k i j P a b c = go (eqb j i) refl
  where
    inner : (x : Bool) → eqb j k ≡ x → (j ≡ i → ⊥) → P
    inner true e ni = b (eqb-true j k e) ni
    inner false e ni = c (eqb-false j k e) ni

    go : (x : Bool) → eqb j i ≡ x → P
    go true e = a (eqb-true j i e)
    go false e = inner (eqb j k) refl (eqb-false j i e)

swapped-back : (k i j : ℕ) → swapped k i (swapped k i j) ≡ j
swapped-back k i j =
    by_place k i j (swapped k i (swapped k i j) ≡ j)
    (λ e. rw (e, swapped-from k i) (swapped-to k i))
    (λ e ni. rw (e, swapped-to k i) (swapped-from k i))
    (λ nk ni. rw (swapped_other k i j nk ni, swapped_other k i j nk ni) refl)

swapped-below : (k i j n : ℕ) → k ≤ i → i < n → j < n → swapped k i j < n
swapped-below k i j n le lt h =
    by_place k i j (swapped k i j < n)
    (λ e. rw (e, swapped-from k i) (omega arith))
    (λ e ni. rw (e, swapped-to k i) lt)
    (λ nk ni. rw (swapped_other k i j nk ni) h)

-- ---- one entry moves up
module _ (run : List ℕ) (k i : ℕ) (sound : Sound run) (le : k ≤ i) (lt : i < count_in run) (small : serial_at run i < 2 ^ 32) where
  within : i < document_limit
  within = let c = sound.count in omega arith

  number_is : (j : ℕ) → slot_number (moved run k i) j ≡ slot_number run (swapped k i j)
  number_is j =
      by_place k i j (slot_number (moved run k i) j ≡ slot_number run (swapped k i j))
      (λ e. rw (e, swapped-from k i) (moved-from run k i sound.long le within))
      (λ e ni. rw (e, swapped-to k i) (moved_to run k i sound.long le within (λ q. ni (e ∙ q))))
      (λ nk ni. rw (swapped_other k i j nk ni) (moved-number-other run k i sound.long le within j nk ni))

  slot_is : (j : ℕ) → slot_of (moved run k i) (slot_number (moved run k i) j) ≡ slot_of run (slot_number run (swapped k i j))
  slot_is j = rw (number_is j) (moved-slot run k i sound.long le within (slot_number run (swapped k i j)))

  pub moved-sound : Sound (moved run k i)
  moved-sound =
      let l = sound.long in
      let c = moved-count run k i sound.long le within in
      record {
        long = let n = moved-long run k i sound.long le within in omega arith;
        marked = moved-mark run k i sound.long le within ∙ sound.marked;
        count = rw c sound.count;
        slots = λ j h. rw (number_is j) (sound.slots (swapped k i j) (swapped-below k i j document_limit le within h));
        apart = λ a b la lb e.
            let q : swapped k i a ≡ swapped k i b = sound.apart (swapped k i a) (swapped k i b) (swapped-below k i a document_limit le within la) (swapped-below k i b document_limit le within lb) (sym (number_is a) ∙ (e ∙ number_is b)) in
            sym (swapped-back k i a) ∙ (ap (swapped k i) q ∙ swapped-back k i b);
        good = λ j h. rw (slot_is j) (sound.good (swapped k i j) (swapped-below k i j (count_in run) le lt (omega arith)));
      }

  pub moved_here : doc_at (moved run k i) k ≡ doc_at run i
  moved_here = doc-same run (moved run k i) i k (moved-serial run k i sound.long le within small) (slot_is k ∙ ap (λ (x : ℕ). slot_of run (slot_number run x)) (swapped-to k i))

  moved-else : (j : ℕ) → j < document_limit → (j ≡ k → ⊥) → (j ≡ i → ⊥) → doc_at (moved run k i) j ≡ doc_at run j
  moved-else j h nk ni = doc-same run (moved run k i) j j (moved-serial-other run k i sound.long le within j h nk) (slot_is j ∙ ap (λ (x : ℕ). slot_of run (slot_number run x)) (swapped_other k i j nk ni))

  pub moved_front : (j : ℕ) → j < k → doc_at (moved run k i) j ≡ doc_at run j
  moved_front j h = let w = within in moved-else j (omega arith) (λ e. omega arith) (λ e. omega arith)

  pub moved-behind : (j : ℕ) → i < j → j < document_limit → doc_at (moved run k i) j ≡ doc_at run j
  moved-behind j h l = moved-else j l (λ e. omega arith) (λ e. omega arith)

-- ---- the sweep

abbrev goes_in : List ℕ → ℕ → ℕ → Bool
goes_in run s i = is_at_or_beneath s (doc_at run i).identity

swept-end : (goes : ℕ → Bool) (run : List ℕ) (k i : ℕ) → swept goes 0 run k i ≡ with_number run count_place k
unfolding swept
swept-end goes run k i = refl

swept-goes : (goes : ℕ → Bool) (n : ℕ) (run : List ℕ) (k i : ℕ) → goes i ≡ true → swept goes (suc n) run k i ≡ swept goes n run k (i + 1)
unfolding swept pick
swept-goes goes n run k i e = rw e refl

swept-stays : (goes : ℕ → Bool) (n : ℕ) (run : List ℕ) (k i : ℕ) → goes i ≡ false → swept goes (suc n) run k i ≡ swept goes n (moved run k i) (k + 1) (i + 1)
unfolding swept pick
swept-stays goes n run k i e = rw e refl

-- the first i entries looked at, the k that stay of them are the first; the rest is as it was
pub record Sweeping (before run : List ℕ) (s i k : ℕ) : Type 0 where
  pub sound : Sound run
  pub within : k ≤ i
  pub long : length run ≡ length before
  pub count : count_in run ≡ count_in before
  pub last : last_in run ≡ last_in before
  pub front : values_from (doc_at run) 0 k ≡ remaining s (values_from (doc_at before) 0 i)
  pub gone : k + removed_count s (values_from (doc_at before) 0 i) ≡ i
  pub behind : (j : ℕ) → i ≤ j → j < document_limit → doc_at run j ≡ doc_at before j
  pub bytes : removed_run s before ≡ swept (goes_in before s) (count_in before - i) run k i

pub sweep : (run : List ℕ) (s : ℕ) → Sound run → Sweeping run run s 0 0
sweep run s h =
    record {
      sound = h;
      within = omega arith;
      long = refl;
      count = refl;
      last = refl;
      front = rw (remaining-none (doc_at run) s, values-none (doc_at run) 0) refl;
      gone = rw (removed-none (doc_at run) s) refl;
      behind = λ j a b. refl;
      bytes = let e : count_in run - 0 ≡ count_in run = omega arith in rw e refl;
    }

module _ (before run : List ℕ) (s i k n : ℕ) (counted : n ≡ count_in before) (lt : i < n) (b : Bool) (tested : b ≡ goes_in run s i) (w : Sweeping before run s i k) where
  within-limit : i < document_limit
  within-limit = let c = w.sound.count in let d = w.count in omega arith

  same_test : goes_in before s i ≡ b
  same_test = ap (λ (d : Document). is_at_or_beneath s d.identity) (sym (w.behind i (omega arith) within-limit)) ∙ sym tested

  left : count_in before - i ≡ suc (count_in before - (i + 1))
  left = omega arith

  pub sweep-goes : b ≡ true → Sweeping before run s (i + 1) k
  sweep-goes c =
      let e : is_at_or_beneath s (doc_at before i).identity ≡ true = same_test ∙ c in
      record {
        sound = w.sound;
        within = omega (arith, w.within);
        long = w.long;
        count = w.count;
        last = w.last;
        front = rw (remaining-goes (doc_at before) s i e) w.front;
        gone = omega (arith, removed-goes (doc_at before) s i e, w.gone);
        behind = λ j a l. w.behind j (omega arith) l;
        bytes = w.bytes ∙ (ap (λ (m : ℕ). swept (goes_in before s) m run k i) left ∙ swept-goes (goes_in before s) (count_in before - (i + 1)) run k i e);
      }

  pub sweep-stays : (after : List ℕ) → b ≡ false → (after ≡ moved run k i) × (serial_at run i < 2 ^ 32) → Sweeping before after s (i + 1) (k + 1)
  sweep-stays after c is =
      let e : is_at_or_beneath s (doc_at before i).identity ≡ false = same_test ∙ c in
      let in-run : i < count_in run = let d = w.count in omega arith in
      let small = is.1 in
      let le = w.within in
      let lim = within-limit in
      let zero-k : 0 + k ≡ k = omega arith in
      let here : doc_at (moved run k i) (0 + k) ≡ doc_at before i = rw zero-k (moved_here run k i w.sound le in-run small ∙ w.behind i (omega arith) within-limit) in
      let front : values_from (doc_at (moved run k i)) 0 k ≡ values_from (doc_at run) 0 k = values_same (doc_at (moved run k i)) (doc_at run) 0 k (λ j a l. moved_front run k i w.sound le in-run small j (omega arith)) in
      rw is.0
      (record {
        sound = moved-sound run k i w.sound le in-run small;
        within = omega arith;
        long = moved-long run k i w.sound.long le lim ∙ w.long;
        count = moved-count run k i w.sound.long le lim ∙ w.count;
        last = moved-last run k i w.sound.long le lim ∙ w.last;
        front = rw (add-one k, values-snoc (doc_at (moved run k i)) 0 k, here, front, remaining-stays (doc_at before) s i e, w.front) refl;
        gone = omega (arith, removed-stays (doc_at before) s i e, w.gone);
        behind = λ j a l. moved-behind run k i w.sound le in-run small j (omega arith) l ∙ w.behind j (omega arith) l;
        bytes = w.bytes ∙ (ap (λ (m : ℕ). swept (goes_in before s) m run k i) left ∙ swept-stays (goes_in before s) (count_in before - (i + 1)) run k i e);
      })

pub is_removed : (before run after : List ℕ) (s i k m n : ℕ) → n ≡ count_in before → i ≤ n → n ≤ i → m ≡ k → Sweeping before run s i k → after ≡ with_number run count_place m → IsRemoved before s after (n - k)
unfolding docs_in
is_removed before run after s i k m n counted low high same w is =
    let c = w.sound.count in
    let d = w.count in
    let lw = w.within in
    let ll = w.sound.long in
    let many : count_in (with_number run count_place k) ≡ k = count-here run k w.sound.long (omega arith) in
    let all : i ≡ count_in before = omega arith in
    let none : count_in before - i ≡ 0 = omega arith in
    let this : after ≡ with_number run count_place k = is ∙ ap (with_number run count_place) same in
    let same-slot : (j : ℕ) → slot_of (with_number run count_place k) (slot_number (with_number run count_place k) j) ≡ slot_of run (slot_number run j) = λ j. rw (count-number run k j) (count-slot run k (slot_number run j)) in
    rw this
    (record {
      is = sym (w.bytes ∙ (ap (λ (x : ℕ). swept (goes_in before s) x run k i) none ∙ swept-end (goes_in before s) run k i));
      sound =
          record {
            long = let x = put-long run count_place (bytes_of k) in omega arith;
            marked = behind-mark run (bytes_of k) count_place (omega arith) ∙ w.sound.marked;
            count = omega arith;
            slots = λ j h. rw (count-number run k j) (w.sound.slots j h);
            apart = λ x y lx ly e. w.sound.apart x y lx ly (sym (count-number run k x) ∙ (e ∙ count-number run k y));
            good = λ j h. rw (same-slot j) (w.sound.good j (omega arith));
          };
      docs =
          rw (many, values_same (doc_at (with_number run count_place k)) (doc_at run) 0 k (λ j a l. doc-same run (with_number run count_place k) j j (count-serial run k j) (same-slot j)), w.front, ← all) refl;
      last = count-last run k ∙ w.last;
      few = let b = w.sound.count in let e = w.count in omega arith;
      count = let g = w.gone in rw (← all) (let z : n - k ≡ removed_count s (values_from (doc_at before) 0 i) = omega arith in z);
    })

-- what neither the count nor an entry that moves changes, the sweep doesn't
module _ (read : List ℕ → List ℕ) (counted : (run : List ℕ) (x : ℕ) → read (with_number run count_place x) ≡ read run)
    (shifted : (run : List ℕ) (k i : ℕ) → table_bytes ≤ length run → k ≤ i → i < document_limit → read (moved run k i) ≡ read run) (goes : ℕ → Bool) where
  swept_keeps : (n : ℕ) (run : List ℕ) (k i : ℕ) → table_bytes ≤ length run → k ≤ i → i + n ≤ document_limit → read (swept goes n run k i) ≡ read run
  swept_keeps zero run k i long le few = ap read (swept-end goes run k i) ∙ counted run k
  swept_keeps (suc n) run k i long le few = go (goes i) refl (λ l j h q. swept_keeps n l j (i + 1) h q (omega arith))
    where
      go : (b : Bool) → goes i ≡ b → ((l : List ℕ) (j : ℕ) → table_bytes ≤ length l → j ≤ i + 1 → read (swept goes n l j (i + 1)) ≡ read l) → read (swept goes (suc n) run k i) ≡ read run
      go true e f = ap read (swept-goes goes n run k i e) ∙ f run k long (omega arith)
      go false e f =
          let lt : i < document_limit = omega arith in
          let m = moved-long run k i long le lt in
          ap read (swept-stays goes n run k i e) ∙ (f (moved run k i) (k + 1) (omega arith) (omega arith) ∙ shifted run k i long le lt)

-- an unload changes no slot, and writes nothing past the table
module _ (s : ℕ) (run : List ℕ) (sound : Sound run) where
  pub removed-slots : (j : ℕ) → slot_of (removed_run s run) j ≡ slot_of run j
  removed-slots j =
      let c = sound.count in
      swept_keeps (λ l. slot_of l j) (λ l x. count-slot l x j) (λ l k i long le lt. moved-slot l k i long le lt j) (goes_in run s) (count_in run) run 0 0 sound.long (omega arith) (omega arith)

  pub removed-past : drop table_bytes (removed_run s run) ≡ drop table_bytes run
  removed-past =
      let c = sound.count in
      swept_keeps (drop table_bytes) (λ l x. let b = bytes-long x in put-past l (bytes_of x) count_place table_bytes (omega arith)) (λ l k i long le lt. moved-past l k i long le lt) (goes_in run s) (count_in run) run 0 0 sound.long (omega arith) (omega arith)

-- ---- the serials beneath a document

-- the first i documents looked at, the k serials of them that are beneath are the first of l
pub record Listing (run : List ℕ) (s : ℕ) (l : List ℕ) (i k : ℕ) : Type 0 where
  pub within : k ≤ i
  pub many : k ≡ length (serials_beneath s (values_from (doc_at run) 0 i))
  pub list : l ≡ stored (serials_beneath s (values_from (doc_at run) 0 i)) no_serials

pub list-none : (run : List ℕ) (s : ℕ) → Listing run s no_serials 0 0
list-none run s = record { within = omega arith; many = rw (serials-none (doc_at run) s) refl; list = rw (serials-none (doc_at run) s) (stored-none [] no_serials) }

module _ (run : List ℕ) (s : ℕ) (l : List ℕ) (i k : ℕ) (w : Listing run s l i k) where
  pub list-more : (u : List ℕ) (m : ℕ) (b : Bool) → IsSlot run i u → b ≡ elem s (numbers_in (above_bytes u)) → b ≡ true → m ≡ serial_at run i → k < document_limit → Listing run s (set l k m) (i + 1) (k + 1)
  list-more u m b f g c q lt =
      let e = beneath-is run u i s b true f g c in
      let xs = serials_beneath s (values_from (doc_at run) 0 i) in
      let more : serials_beneath s (values_from (doc_at run) 0 (i + 1)) ≡ serials_beneath s (values_from (doc_at run) 0 i) ++ (m ∷ []) = serials-more (doc_at run) s i e ∙ rw (doc-serial run i, ← q) refl in
      let here : length (serials_beneath s (values_from (doc_at run) 0 i)) < length no_serials = omega (arith, w.many, length-replicate {A = ℕ} document_limit 0) in
      record {
        within = omega (arith, w.within);
        many = rw (more, length-append, ← w.many) refl;
        list = rw more (ap (λ (x : List ℕ). set x k m) w.list ∙ (ap (λ (n : ℕ). set (stored xs no_serials) n m) w.many ∙ stored-snoc xs no_serials m here));
      }

  pub list_same : (u : List ℕ) (b : Bool) → IsSlot run i u → b ≡ elem s (numbers_in (above_bytes u)) → b ≡ false → Listing run s l (i + 1) k
  list_same u b f g c =
      let e = beneath-is run u i s b false f g c in
      record { within = omega (arith, w.within); many = rw (serials-same (doc_at run) s i e) w.many; list = rw (serials-same (doc_at run) s i e) w.list }

  pub are-serials : (n : ℕ) → n ≡ count_in run → i ≤ n → n ≤ i → count_in run ≤ document_limit → AreSerials run s k l
  unfolding docs_in
  are-serials n counted low high le =
      let e : i ≡ count_in run = omega arith in
      record { few = omega (arith, w.within); many = rw e at w.many; stands = rw e at w.list }
