-- "Sandboxed" by the history is the mark of the document. Assumes nothing.
use mathlib.Core.Path.{◌≡◌, refl, sym, ◌∙◌}
use Prim.Native.Nat.{ℕ, suc, ◌<◌}
use native.Mathlib.Omega.{arith}
use mathlib.Core.Bool.{Bool, true}
use mathlib.Core.List.{List, [], ◌∷◌}
use Rattle.ascii.proofs.Clash.{clash}
use Rattle.origins.specs.Origins.{origin_of}
use Rattle.containers.specs.Sandboxes.{sandboxes}
use Rattle.containers.proofs.Laws.{sandboxed-is}
use Rattle.containers.specs.Attributes.{Attributes}
use Rattle.document_model.specs.Model.{Text, Identity, Document, frame_sandboxed, Table, new_table, Call, top_load, framed_load, unload, Answer, loaded, removed, top_identity, framed_identity, top_document, framed_document, table_after}
use Rattle.document_model.specs.History.{Event, Gave, gave_top, gave_framed, Happened, last, earlier, history, SandboxedIn, by_attribute, by_container}
use Rattle.ascii.proofs.Bytes.{or-on}
use Rattle.ascii.proofs.Reading.{or_left}
use Rattle.document_model.proofs.Booleans.{or-either}
use Rattle.document_model.proofs.Tables.{In, in-push, in-remaining}
use Rattle.document_model.proofs.Effects.{pushed, Effect, nothing_else, top_loaded, frame_loaded, all_removed, history-induction}

record MarksAgree (es : List Event) (t : Table) : Type 0 where
  known : {c : ℕ} {h o : Text} {a : Attributes} {s : ℕ} {m : Bool} → Happened (framed_load c h o a) (loaded s m) es → (s < t.next) × (c < s)
  below : (x : Document) → In x t.docs → x.identity.serial < t.next
  told : (x : Document) → In x t.docs → x.identity.sandboxed ≡ true → SandboxedIn es x.identity.serial
  is : (x : Document) → In x t.docs → SandboxedIn es x.identity.serial → x.identity.sandboxed ≡ true

more : {es : List Event} {e : Event} {s : ℕ} → SandboxedIn es s → SandboxedIn (e ∷ es) s
more (by_attribute p q) = by_attribute (earlier p) q
more (by_container p k) = by_container (earlier p) (more k)

-- an event that gave no framed document its serial, or one that is higher, changes nothing
less : {c : Call} {a : Answer} {es : List Event} (n : ℕ) → ((s : ℕ) → Gave c a s → n ≡ s) → ((k : ℕ) (h o : Text) (b : Attributes) (s : ℕ) (m : Bool) → Happened (framed_load k h o b) (loaded s m) es → k < s) →
    {s : ℕ} → SandboxedIn (record { call = c; answer = a } ∷ es) s → s < n → SandboxedIn es s
less n g older (by_attribute last q) l = absurd (omega (arith, g _ gave_framed))
less n g older (by_attribute (earlier p) q) l = by_attribute p q
less n g older (by_container last k) l = absurd (omega (arith, g _ gave_framed))
less n g older (by_container (earlier p) k) l = by_container p (less n g older k (omega (arith, older _ _ _ _ _ _ p)))

-- a frame's document is sandboxed by its container or by the attributes
pub sandboxed-either : {X : Type 0} (w : Identity) (a : Attributes) → frame_sandboxed w a ≡ true → (w.sandboxed ≡ true → X) → (sandboxes a ≡ true → X) → X
unfolding frame_sandboxed
sandboxed-either w a e f g = or-either w.sandboxed (sandboxes a) (sym (sandboxed-is w.sandboxed a) ∙ e) f g

pub sandboxed-by-container : (w : Identity) (a : Attributes) → w.sandboxed ≡ true → frame_sandboxed w a ≡ true
unfolding frame_sandboxed
sandboxed-by-container w a e = sandboxed-is w.sandboxed a ∙ or_left w.sandboxed (sandboxes a) e

pub sandboxed-by-attributes : (w : Identity) (a : Attributes) → sandboxes a ≡ true → frame_sandboxed w a ≡ true
unfolding frame_sandboxed
sandboxed-by-attributes w a e = sandboxed-is w.sandboxed a ∙ or-on w.sandboxed (sandboxes a) e

top-marks : (es : List Event) (t : Table) (hd o : Text) (m : Bool) → MarksAgree es t → MarksAgree (record { call = top_load hd o; answer = loaded t.next m } ∷ es) (pushed t (top_document hd (top_identity (origin_of o) t.next)))
unfolding top_document top_identity
top-marks es t hd o m h = record {
  known = known-now;
  below = in-push (λ x. x.identity.serial < suc t.next) t.docs y (λ x i. omega (arith, h.below x i)) (omega arith);
  told = in-push (λ x. x.identity.sandboxed ≡ true → SandboxedIn (v ∷ es) x.identity.serial) t.docs y (λ x i e. more (h.told x i e)) (λ e. clash cc);
  is = in-push (λ x. SandboxedIn (v ∷ es) x.identity.serial → x.identity.sandboxed ≡ true) t.docs y (λ x i k. h.is x i (less t.next only older k (h.below x i))) (λ k. absurd (new t.next k refl));
}
  where
    v : Event
    v = record { call = top_load hd o; answer = loaded t.next m }

    y : Document
    y = top_document hd (top_identity (origin_of o) t.next)

    only : (s : ℕ) → Gave (top_load hd o) (loaded t.next m) s → t.next ≡ s
    only s gave_top = refl

    older : (k : ℕ) (h' o' : Text) (b : Attributes) (s : ℕ) (m' : Bool) → Happened (framed_load k h' o' b) (loaded s m') es → k < s
    older k h' o' b s m' p = (h.known p).1

    known-now : {k : ℕ} {h' o' : Text} {b : Attributes} {s : ℕ} {m' : Bool} → Happened (framed_load k h' o' b) (loaded s m') (record { call = top_load hd o; answer = loaded t.next m } ∷ es) → (s < suc t.next) × (k < s)
    known-now (earlier p) = let q = h.known p in (omega arith, q.1)

    new : (n : ℕ) → SandboxedIn (record { call = top_load hd o; answer = loaded t.next m } ∷ es) n → n ≡ t.next → ⊥
    new n (by_attribute (earlier p) q) e = omega (arith, (h.known p).0)
    new n (by_container (earlier p) k) e = omega (arith, (h.known p).0)

frame-marks : (es : List Event) (t : Table) (k : ℕ) (hd o : Text) (b : Attributes) (m : Bool) (d : Document) → In d t.docs → k ≡ d.identity.serial → MarksAgree es t →
    MarksAgree (record { call = framed_load k hd o b; answer = loaded t.next m } ∷ es) (pushed t (framed_document d hd b (framed_identity d.identity b (origin_of o) t.next)))
unfolding framed_document framed_identity
frame-marks es t k hd o b m d i e h = record {
  known = known-now;
  below = in-push (λ x. x.identity.serial < suc t.next) t.docs _ (λ x j. omega (arith, h.below x j)) (omega arith);
  told = in-push (λ x. x.identity.sandboxed ≡ true → SandboxedIn (record { call = framed_load k hd o b; answer = loaded t.next m } ∷ es) x.identity.serial) t.docs _ (λ x j q. more (h.told x j q))
      (λ q. sandboxed-either d.identity b q (λ z. by_container last (rw e (more (h.told d i z)))) (λ z. by_attribute last z));
  is = in-push (λ x. SandboxedIn (record { call = framed_load k hd o b; answer = loaded t.next m } ∷ es) x.identity.serial → x.identity.sandboxed ≡ true) t.docs _ (λ x j z. h.is x j (less t.next only older z (h.below x j))) (λ z. new t.next z refl);
}
  where
    only : (s : ℕ) → Gave (framed_load k hd o b) (loaded t.next m) s → t.next ≡ s
    only s gave_framed = refl

    older : (k : ℕ) (h' o' : Text) (b : Attributes) (s : ℕ) (m' : Bool) → Happened (framed_load k h' o' b) (loaded s m') es → k < s
    older k h' o' b s m' p = (h.known p).1

    known-now : {k' : ℕ} {h' o' : Text} {b' : Attributes} {s : ℕ} {m' : Bool} → Happened (framed_load k' h' o' b') (loaded s m') (record { call = framed_load k hd o b; answer = loaded t.next m } ∷ es) → (s < suc t.next) × (k' < s)
    known-now last = (omega arith, omega (arith, e, h.below d i))
    known-now (earlier p) = let q = h.known p in (omega arith, q.1)

    new : (n : ℕ) → SandboxedIn (record { call = framed_load k hd o b; answer = loaded t.next m } ∷ es) n → n ≡ t.next → frame_sandboxed d.identity b ≡ true
    new n (by_attribute last q) z = sandboxed-by-attributes d.identity b q
    new n (by_attribute (earlier p) q) z = absurd (omega (arith, (h.known p).0))
    new n (by_container last w) z = sandboxed-by-container d.identity b (h.is d i (rw e at (less t.next only older w (omega (arith, e, h.below d i)))))
    new n (by_container (earlier p) w) z = absurd (omega (arith, (h.known p).0))

quiet-known : {es : List Event} (t : Table) → MarksAgree es t → {c : Call} {a : Answer} → ((s : ℕ) → Gave c a s → ⊥) → {k : ℕ} {h o : Text} {b : Attributes} {s : ℕ} {m : Bool} → Happened (framed_load k h o b) (loaded s m) (record { call = c; answer = a } ∷ es) → (s < t.next) × (k < s)
quiet-known t h g last = absurd (g _ gave_framed)
quiet-known t h g (earlier p) = h.known p

effect-marks : (es : List Event) (t u : Table) (c : Call) (a : Answer) → MarksAgree es t → Effect t c a u → MarksAgree (record { call = c; answer = a } ∷ es) u
effect-marks es t u c a h (nothing_else g v l r) = record {
  known = λ p. quiet-known t h g p;
  below = λ x m. h.below x m;
  told = λ x m e. more (h.told x m e);
  is = λ x m k. h.is x m (less t.next (λ s z. absurd (g s z)) (λ k' h' o' b' s' m' p. (h.known p).1) k (h.below x m));
}
effect-marks es t u c a h (top_loaded hd o m p q) = top-marks es t hd o m h
effect-marks es t u c a h (frame_loaded k hd o b m d i e p q) = frame-marks es t k hd o b m d i e h
effect-marks es t u c a h (all_removed s) = record {
  known = known-now;
  below = λ x m. h.below x (in-remaining s t.docs x m).was;
  told = λ x m e. more (h.told x (in-remaining s t.docs x m).was e);
  is = λ x m k. h.is x (in-remaining s t.docs x m).was (less t.next (λ s z. elim z [ ]) (λ k' h' o' b' s' m' p. (h.known p).1) k (h.below x (in-remaining s t.docs x m).was));
}
  where
    known-now : {k n : ℕ} {h' o : Text} {b : Attributes} {s' : ℕ} {m : Bool} → Happened (framed_load k h' o b) (loaded s' m) (record { call = unload s; answer = removed n } ∷ es) → (s' < t.next) × (k < s')
    known-now (earlier p) = h.known p

new-marks : MarksAgree [] new_table
new-marks = record { known = λ p. elim p [ ]; below = λ x m. elim m [ ]; told = λ x m. elim m [ ]; is = λ x m. elim m [ ] }

marks-agree : (cs : List Call) → MarksAgree (history cs) (table_after cs)
unfolding history table_after
marks-agree cs = history-induction MarksAgree effect-marks cs new_table [] new-marks

-- a loaded document is marked sandboxed exactly where the history says so
pub marked-told : (cs : List Call) (x : Document) → In x (table_after cs).docs → x.identity.sandboxed ≡ true → SandboxedIn (history cs) x.identity.serial
marked-told cs = (marks-agree cs).told

pub told-marked : (cs : List Call) (x : Document) → In x (table_after cs).docs → SandboxedIn (history cs) x.identity.serial → x.identity.sandboxed ≡ true
told-marked cs = (marks-agree cs).is
