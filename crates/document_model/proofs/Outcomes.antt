-- Which outcomes each call can have: a refusal, or an answer of its kind. A part of the laws of this crate. Assumes nothing.
use mathlib.Core.Path.{◌≡◌, refl}
use Prim.Native.Nat.{ℕ, suc, ◌≤◌, ◌<◌}
use mathlib.Core.List.{List, [], ◌∷◌, ◌++◌}
use mathlib.Core.Bool.{Bool, true, false, ◌&&◌}
use Rattle.std.specs.Prelude.{Option}
use lib.ListN.{length}
use borrow.Author.Tests.{leb-true, ltb-true}
use Rattle.limits.specs.Limits.{text_bytes, document_limit, last_serial}
use Rattle.limits.specs.declared.Refusal.{Refusal}
use Rattle.limits.specs.declared.Refusal.TheVariants.{NotLoaded, NoSuchFeature, BadOrigin, TooLong, Sandbox, Full, Spent, Small}
use Rattle.origins.specs.Origins.{origin_of}
use Rattle.containers.specs.Attributes.{Attributes}
use Rattle.decisions.specs.Decisions.{Decision, inherited_top}
use Rattle.decisions.specs.Masks.{mask_of}
use Rattle.decisions.specs.Policies.{inherited_in}
use Rattle.document_model.specs.Model.{Text, Identity, Document, Table, declared_by, policy_of, frame_of, is_short, find, remaining, removed_count, top_load, framed_load, unload, question, enabled_features, listing, forecast_of, loaded, removed, decision, features, serials, Outcome, refuse, accept, refuse_unless, with_document, texts_fit, load, top_identity, framed_identity, top_document, framed_document, fitting_outcome, outcome}
use Rattle.document_model.proofs.Tables.{In, Finds, missing, hit, finds}

unless : (P : Outcome → Type 0) (n : Refusal) (b : Bool) (k : Outcome) → ((m : Refusal) → P (refuse m)) → (b ≡ true → P k) → P (refuse_unless n b k)
unfolding refuse_unless
unless P n true k r h = h refl
unless P n false k r h = r n

with-doc : (P : Outcome → Type 0) (s : ℕ) (ds : List Document) (o : Option Document) → Finds s ds o → (k : Document → Outcome) → ((m : Refusal) → P (refuse m)) → ((d : Document) → In d ds → P (k d)) → P (with_document o k)
unfolding with_document
with-doc P s ds o (missing none-there) k r h = r NotLoaded
with-doc P s ds o (hit d m e) k r h = h d m

pub data Asked : Outcome → Type 0 where
  asked_not : (n : Refusal) → Asked (refuse n)
  asked_is : (d : Decision) (u : Table) → Asked (accept (decision d) u)

pub data Told : Outcome → Type 0 where
  told_not : (n : Refusal) → Told (refuse n)
  told_is : (m : ℕ) (u : Table) → Told (accept (features m) u)

pub data Listed : Outcome → Type 0 where
  listed_not : (n : Refusal) → Listed (refuse n)
  listed_is : (n : ℕ) (run : List ℕ) (u : Table) → Listed (accept (serials n run) u)

pub data Removed (s : ℕ) (t : Table) : Outcome → Type 0 where
  removed_not : (n : Refusal) → Removed s t (refuse n)
  removed_is : Removed s t (accept (removed (removed_count s t.docs)) (record { docs = remaining s t.docs; next = t.next }))

pub asked-outcome : (s f : ℕ) (o : Text) (t : Table) → Asked (outcome (question s f o) t)
unfolding outcome fitting_outcome
asked-outcome s f o t =
    unless Asked TooLong _ _ asked_not λ _. unless Asked BadOrigin _ _ asked_not λ _. unless Asked NoSuchFeature _ _ asked_not λ _.
    with-doc Asked s t.docs (find s t.docs) (finds s t.docs) _ asked_not λ d m. asked_is _ t

pub told-enabled : (s : ℕ) (t : Table) → Told (outcome (enabled_features s) t)
unfolding outcome fitting_outcome
told-enabled s t = unless Told TooLong _ _ told_not λ _. with-doc Told s t.docs (find s t.docs) (finds s t.docs) _ told_not λ d m. told_is _ t

pub told-forecast : (c : ℕ) (a : Attributes) (t : Table) → Told (outcome (forecast_of c a) t)
unfolding outcome fitting_outcome
told-forecast c a t =
    unless Told TooLong _ _ told_not λ _. unless Told BadOrigin _ _ told_not λ _.
    with-doc Told c t.docs (find c t.docs) (finds c t.docs) _ told_not λ d m. told_is _ t

pub listed-outcome : (s : ℕ) (run : List ℕ) (t : Table) → Listed (outcome (listing s run) t)
unfolding outcome fitting_outcome
listed-outcome s run t =
    unless Listed TooLong _ _ listed_not λ _. with-doc Listed s t.docs (find s t.docs) (finds s t.docs) _ listed_not λ d m.
    unless Listed Small _ _ listed_not λ _. listed_is _ _ t

pub removed-outcome : (s : ℕ) (t : Table) → Removed s t (outcome (unload s) t)
unfolding outcome fitting_outcome
removed-outcome s t =
    unless (Removed s t) TooLong _ _ removed_not λ _. with-doc (Removed s t) s t.docs (find s t.docs) (finds s t.docs) _ removed_not λ d m. removed_is

first-true : (x y z : Bool) → x && y && z ≡ true → x ≡ true
first-true true y z e = refl
first-true false y z e = e

-- a load, with what is known of the identity of the document that it makes and of what that inherits
pub data Pushed (P : Identity → ℕ → Type 0) (h : Text) (t : Table) : Outcome → Type 0 where
  pushed_not : (n : Refusal) → Pushed P h t (refuse n)
  pushed_is : (m : Bool) (i : Identity) (b : ℕ) → P i b → i.serial ≡ t.next → length h ≤ text_bytes → length t.docs < document_limit → t.next ≤ last_serial
      → Pushed P h t (accept (loaded t.next m) (record { docs = t.docs ++ (record { identity = i; inherited = b; declared = declared_by h } ∷ []); next = suc t.next }))

module _ (P : Identity → ℕ → Type 0) (h : Text) (t : Table) where
  load-pushed : (m : Bool) (document : Identity → Document) (identity : ℕ → Identity) (b : Identity → ℕ)
      → ((i : Identity) → document i ≡ record { identity = i; inherited = b i; declared = declared_by h })
      → (length t.docs < document_limit → t.next ≤ last_serial → P (identity t.next) (b (identity t.next))) → (identity t.next).serial ≡ t.next → length h ≤ text_bytes
      → Pushed P h t (load t m document identity)
  unfolding load
  load-pushed m document identity b is holds own short =
      unless (Pushed P h t) Full _ _ pushed_not λ p. unless (Pushed P h t) Spent _ _ pushed_not λ q.
      let room : length t.docs < document_limit = ltb-true (length t.docs) document_limit p in
      let left : t.next ≤ last_serial = leb-true t.next last_serial q in
      rw (is (identity t.next)) (pushed_is m (identity t.next) (b (identity t.next)) (holds room left) own short room left)

  pub top-outcome : (o : Text) → (length t.docs < document_limit → t.next ≤ last_serial → P (top_identity (origin_of o) t.next) (mask_of (λ k. inherited_top))) → Pushed P h t (outcome (top_load h o) t)
  unfolding outcome fitting_outcome texts_fit top_document top_identity
  top-outcome o holds =
      unless (Pushed P h t) TooLong _ _ pushed_not λ p. unless (Pushed P h t) BadOrigin _ _ pushed_not λ _.
      load-pushed _ (top_document h) (top_identity (origin_of o)) (λ i. mask_of (λ k. inherited_top)) (λ i. refl) holds refl (leb-true (length h) text_bytes p)

  pub framed-outcome : (c : ℕ) (o : Text) (a : Attributes)
      → ((d : Document) → In d t.docs → length t.docs < document_limit → t.next ≤ last_serial
      → P (framed_identity d.identity a (origin_of o) t.next) (mask_of (inherited_in (policy_of d) (frame_of d.identity a) (framed_identity d.identity a (origin_of o) t.next).origin)))
      → Pushed P h t (outcome (framed_load c h o a) t)
  unfolding outcome fitting_outcome texts_fit framed_document framed_identity
  framed-outcome c o a holds =
      unless (Pushed P h t) TooLong _ _ pushed_not λ p. unless (Pushed P h t) BadOrigin _ _ pushed_not λ _. unless (Pushed P h t) BadOrigin _ _ pushed_not λ _.
      with-doc (Pushed P h t) c t.docs (find c t.docs) (finds c t.docs) _ pushed_not λ d m. unless (Pushed P h t) Sandbox _ _ pushed_not λ _.
      load-pushed _ (framed_document d h a) (framed_identity d.identity a (origin_of o)) (λ i. mask_of (inherited_in (policy_of d) (frame_of d.identity a) i.origin)) (λ i. refl)
      (holds d m) refl (leb-true (length h) text_bytes (first-true (is_short h) (is_short a.allow) (is_short a.sandbox) p))
