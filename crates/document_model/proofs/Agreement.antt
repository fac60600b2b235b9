-- "Loaded" and "beneath" by the history are what the table holds. Assumes nothing.
use mathlib.Core.Path.{◌≡◌, refl, sym, subst, ◌∙◌}
use Prim.Native.Nat.{ℕ, suc, ◌<◌}
use native.Mathlib.Omega.{arith}
use mathlib.Core.Bool.{Bool, false, ◌||◌}
use mathlib.Core.List.{List, [], ◌∷◌, ◌++◌}
use lib.Dec.{T, eqb, eqb→eq, eqb_refl}
use Rattle.origins.specs.Origins.{origin_of}
use Rattle.document_model.specs.Runs.{left_by}
use Rattle.containers.specs.Attributes.{Attributes}
use Rattle.document_model.specs.Model.{Text, Identity, Document, Table, new_table, elem, is_at_or_beneath, remaining, removed_count, Call, top_load, framed_load, unload, Answer, loaded, removed, top_identity, framed_identity, top_document, framed_document, answer_to, table_left, table_after}
use Rattle.document_model.specs.History.{Event, Gave, gave_top, gave_framed, Framed, framed_by, Unloaded, unloaded, Happened, last, earlier, BeneathIn, directly, through, LoadedIn, now, still, events_from, history}
use Rattle.document_model.proofs.Booleans.{or_cases, or-first, or_no, or-second}
use Rattle.document_model.proofs.Tables.{In, in_left, in-last, in-push, in-remaining, remaining-in, Rising, rising-below}
use Rattle.document_model.proofs.Effects.{pushed, Effect, nothing_else, top_loaded, frame_loaded, all_removed, effect}
use Rattle.document_model.proofs.Invariant.{Invariant, call_next, new-invariant}

pub framed-gave : {c : Call} {a : Answer} {s k : ℕ} → Framed c a s k → Gave c a s
framed-gave framed_by = gave_framed

pub beneath-later : {es : List Event} {v : Event} {e d : ℕ} → BeneathIn es e d → BeneathIn (v ∷ es) e d
beneath-later (directly h f) = directly (earlier h) f
beneath-later (through h f b) = through (earlier h) f (beneath-later b)

pub record Agrees (es : List Event) (t : Table) : Type 0 where
  -- what is loaded is in the table, and the other way round
  pub is_there : (s : ℕ) → LoadedIn es s → (x : Document) × In x t.docs × (x.identity.serial ≡ s)
  pub told : (x : Document) → In x t.docs → LoadedIn es x.identity.serial
  -- what a document is beneath stands above it, and the other way round
  pub chain : (x : Document) → In x t.docs → (d : ℕ) → BeneathIn es x.identity.serial d → T (elem d x.identity.above)
  pub chained : (x : Document) → In x t.docs → (d : ℕ) → T (elem d x.identity.above) → BeneathIn es x.identity.serial d
  -- serials that were given are below the next, and a container is older
  pub known : {c : Call} {a : Answer} {s : ℕ} → Happened c a es → Gave c a s → s < t.next
  pub older : {c : Call} {a : Answer} {s k : ℕ} → Happened c a es → Framed c a s k → k < s

-- an event that frames nothing changes nothing of what is beneath
shrink : {c : Call} {a : Answer} {es : List Event} → ((s k : ℕ) → Framed c a s k → ⊥) → {e d : ℕ} → BeneathIn (record { call = c; answer = a } ∷ es) e d → BeneathIn es e d
shrink q (directly last f) = absurd (q _ _ f)
shrink q (directly (earlier h) f) = directly h f
shrink q (through last f b) = absurd (q _ _ f)
shrink q (through (earlier h) f b) = through h f (shrink q b)

-- an event that gave a serial changes nothing for the serials below it
shrink-new : {c : Call} {a : Answer} {es : List Event} (n : ℕ) → ((s k : ℕ) → Framed c a s k → n ≡ s) → ((c' : Call) (a' : Answer) (s k : ℕ) → Happened c' a' es → Framed c' a' s k → k < s) →
    {e d : ℕ} → BeneathIn (record { call = c; answer = a } ∷ es) e d → e < n → BeneathIn es e d
shrink-new n q o (directly last f) l = absurd (omega (arith, q _ _ f))
shrink-new n q o (directly (earlier h) f) l = directly h f
shrink-new n q o (through last f b) l = absurd (omega (arith, q _ _ f))
shrink-new n q o (through (earlier h) f b) l = through h f (shrink-new n q o b (omega (arith, o _ _ _ _ h f)))

-- a call that gives nothing and unloads nothing
quiet : {es : List Event} {t : Table} (c : Call) (a : Answer) → ((s : ℕ) → Gave c a s → ⊥) → ((s : ℕ) → Unloaded c a s → ⊥) → Agrees es t → Agrees (record { call = c; answer = a } ∷ es) t
quiet {es} {t} c a ng nu h = record {
  is_there = there-now;
  told = λ x m. still (h.told x m) (λ u v. absurd (nu u v));
  chain = λ x m d b. h.chain x m d (shrink (λ s k f. ng s (framed-gave f)) b);
  chained = λ x m d e. beneath-later (h.chained x m d e);
  known = known-now;
  older = older-now;
}
  where
    there-now : (s : ℕ) → LoadedIn (record { call = c; answer = a } ∷ es) s → (x : Document) × In x t.docs × (x.identity.serial ≡ s)
    there-now s (now g) = absurd (ng s g)
    there-now s (still l k) = h.is_there s l

    known-now : {c' : Call} {a' : Answer} {s : ℕ} → Happened c' a' (record { call = c; answer = a } ∷ es) → Gave c' a' s → s < t.next
    known-now last g = absurd (ng _ g)
    known-now (earlier p) g = h.known p g

    older-now : {c' : Call} {a' : Answer} {s k : ℕ} → Happened c' a' (record { call = c; answer = a } ∷ es) → Framed c' a' s k → k < s
    older-now last f = absurd (ng _ (framed-gave f))
    older-now (earlier p) f = h.older p f

-- a load of x, whose event names the container that stands first above it, if any
loads : {es : List Event} {t : Table} (c : Call) (a : Answer) (x : Document) → x.identity.serial ≡ t.next → Rising 1 t.docs t.next → Agrees es t →
    Gave c a x.identity.serial → ((s : ℕ) → Gave c a s → s ≡ t.next) → ((s : ℕ) → Unloaded c a s → ⊥) →
    ((s k : ℕ) → Framed c a s k → k < s) →
    ((d : ℕ) → BeneathIn (record { call = c; answer = a } ∷ es) x.identity.serial d → T (elem d x.identity.above)) →
    ((d : ℕ) → T (elem d x.identity.above) → BeneathIn (record { call = c; answer = a } ∷ es) x.identity.serial d) →
    Agrees (record { call = c; answer = a } ∷ es) (record { docs = t.docs ++ (x ∷ []); next = suc t.next })
loads {es} {t} c a x e i h gave only nu less to from = record {
  is_there = there-now;
  told = in-push (λ y. LoadedIn (record { call = c; answer = a } ∷ es) y.identity.serial) t.docs x (λ y m. still (h.told y m) (λ u v. absurd (nu u v))) (now gave);
  chain = in-push (λ y. (d : ℕ) → BeneathIn (record { call = c; answer = a } ∷ es) y.identity.serial d → T (elem d y.identity.above)) t.docs x
      (λ y m d b. h.chain y m d (shrink-new t.next (λ s k f. sym (only s (framed-gave f))) (λ c' a' s k p f. h.older p f) b (rising-below 1 t.docs t.next i y m))) to;
  chained = in-push (λ y. (d : ℕ) → T (elem d y.identity.above) → BeneathIn (record { call = c; answer = a } ∷ es) y.identity.serial d) t.docs x
      (λ y m d b. beneath-later (h.chained y m d b)) from;
  known = known-now;
  older = older-now;
}
  where
    there-now : (s : ℕ) → LoadedIn (record { call = c; answer = a } ∷ es) s → (y : Document) × In y (t.docs ++ (x ∷ [])) × (y.identity.serial ≡ s)
    there-now s (now g) = (x, in-last t.docs x, e ∙ sym (only s g))
    there-now s (still l k) = let w = h.is_there s l in (w.0, in_left (x ∷ []) w.1, w.2)

    known-now : {c' : Call} {a' : Answer} {s : ℕ} → Happened c' a' (record { call = c; answer = a } ∷ es) → Gave c' a' s → s < suc t.next
    known-now last g = omega (arith, only _ g)
    known-now (earlier p) g = omega (arith, h.known p g)

    older-now : {c' : Call} {a' : Answer} {s k : ℕ} → Happened c' a' (record { call = c; answer = a } ∷ es) → Framed c' a' s k → k < s
    older-now last f = less _ _ f
    older-now (earlier p) f = h.older p f

-- a document that an unload removes, or leaves
not-beneath : (u : ℕ) (w : Identity) → (u ≡ w.serial → ⊥) → (T (elem u w.above) → ⊥) → is_at_or_beneath u w ≡ false
unfolding is_at_or_beneath
not-beneath u w f g = or_no (eqb u w.serial) (elem u w.above) (λ t. f (eqb→eq u w.serial t)) g

stays-other : (u : ℕ) (w : Identity) → is_at_or_beneath u w ≡ false → u ≡ w.serial → ⊥
unfolding is_at_or_beneath
stays-other u w e q = subst T e (or-first (eqb u w.serial) (elem u w.above) (subst (λ (n : ℕ). T (eqb u n)) q (eqb_refl u)))

stays-free : (u : ℕ) (w : Identity) → is_at_or_beneath u w ≡ false → T (elem u w.above) → ⊥
unfolding is_at_or_beneath
stays-free u w e q = subst T e (or-second (eqb u w.serial) (elem u w.above) q)

no-frame : {s k m v : ℕ} → Framed (unload v) (removed m) s k → ⊥
no-frame f = elim f [ ]

unloads : {es : List Event} {t : Table} (u n : ℕ) → Agrees es t → Agrees (record { call = unload u; answer = removed n } ∷ es) (record { docs = remaining u t.docs; next = t.next })
unloads {es} {t} u n h = record {
  is_there = there-now;
  told = told-now;
  chain = λ x m d b. h.chain x (in-remaining u t.docs x m).was d (shrink (λ s k f. no-frame f) b);
  chained = λ x m d e. beneath-later (h.chained x (in-remaining u t.docs x m).was d e);
  known = known-now;
  older = older-now;
}
  where
    there-now : (s : ℕ) → LoadedIn (record { call = unload u; answer = removed n } ∷ es) s → (y : Document) × In y (remaining u t.docs) × (y.identity.serial ≡ s)
    there-now s (now g) = elim g [ ]
    there-now s (still l k) =
        let w = h.is_there s l in
        let q = k u unloaded in
        let e : w.0.identity.serial ≡ s = w.2 in (
          w.0,
          remaining-in u w.1 (not-beneath u w.0.identity (λ z. q.0 (z ∙ e)) (λ z. q.1 (rw e at (h.chained w.0 w.1 u z)))),
          e,
        )

    unnamed : (x : Document) → In x (remaining u t.docs) → (v : ℕ) → Unloaded (unload u) (removed n) v → (v ≡ x.identity.serial → ⊥) × (BeneathIn es x.identity.serial v → ⊥)
    unnamed x m v unloaded =
        let k = in-remaining u t.docs x m in
        (stays-other u x.identity k.safe, λ b. stays-free u x.identity k.safe (h.chain x k.was u b))

    told-now : (x : Document) → In x (remaining u t.docs) → LoadedIn (record { call = unload u; answer = removed n } ∷ es) x.identity.serial
    told-now x m = still (h.told x (in-remaining u t.docs x m).was) (unnamed x m)

    known-now : {c' : Call} {a' : Answer} {s : ℕ} → Happened c' a' (record { call = unload u; answer = removed n } ∷ es) → Gave c' a' s → s < t.next
    known-now last g = elim g [ ]
    known-now (earlier p) g = h.known p g

    older-now : {c' : Call} {a' : Answer} {s k : ℕ} → Happened c' a' (record { call = unload u; answer = removed n } ∷ es) → Framed c' a' s k → k < s
    older-now last f = elim f [ ]
    older-now (earlier p) f = h.older p f

-- ---- every call

module _ (es : List Event) (t : Table) (i : Invariant t) (h : Agrees es t) where
  top-agrees : (hd o : Text) (b : Bool) → Agrees (record { call = top_load hd o; answer = loaded t.next b } ∷ es) (pushed t (top_document hd (top_identity (origin_of o) t.next)))
  unfolding top_document top_identity elem
  top-agrees hd o b =
      loads (top_load hd o) (loaded t.next b) (top_document hd (top_identity (origin_of o) t.next)) refl i.rising h gave_top only (λ s u. elim u [ ]) (λ s k f. elim f [ ]) to (λ d e. absurd e)
    where
      only : (s : ℕ) → Gave (top_load hd o) (loaded t.next b) s → s ≡ t.next
      only s gave_top = refl

      to : (d : ℕ) → BeneathIn (record { call = top_load hd o; answer = loaded t.next b } ∷ es) t.next d → ⊥
      to d (directly last f) = elim f [ ]
      to d (directly (earlier p) f) = omega (arith, h.known p (framed-gave f))
      to d (through last f k) = elim f [ ]
      to d (through (earlier p) f k) = omega (arith, h.known p (framed-gave f))

  framed-agrees : (c : ℕ) (hd o : Text) (a : Attributes) (d : Document) → In d t.docs → c ≡ d.identity.serial → (b : Bool) →
      Agrees (record { call = framed_load c hd o a; answer = loaded t.next b } ∷ es) (pushed t (framed_document d hd a (framed_identity d.identity a (origin_of o) t.next)))
  unfolding framed_document framed_identity elem
  framed-agrees c hd o a d m e b =
      loads (framed_load c hd o a) (loaded t.next b) (framed_document d hd a (framed_identity d.identity a (origin_of o) t.next)) refl i.rising h gave_framed only (λ s u. elim u [ ]) less (λ z k. to t.next z k refl) from
    where
      below : d.identity.serial < t.next
      below = rising-below 1 t.docs t.next i.rising d m

      only : (s : ℕ) → Gave (framed_load c hd o a) (loaded t.next b) s → s ≡ t.next
      only s gave_framed = refl

      less : (s k : ℕ) → Framed (framed_load c hd o a) (loaded t.next b) s k → k < s
      less s k framed_by = omega (arith, below)

      only-framed : (s k : ℕ) → Framed (framed_load c hd o a) (loaded t.next b) s k → t.next ≡ s
      only-framed s k framed_by = refl

      to : (n z : ℕ) → BeneathIn (record { call = framed_load c hd o a; answer = loaded t.next b } ∷ es) n z → n ≡ t.next → T (eqb z d.identity.serial || elem z d.identity.above)
      to n z (directly last framed_by) q = or-first (eqb z d.identity.serial) _ (rw (← e) (eqb_refl z))
      to n z (directly (earlier p) f) q = absurd (omega (arith, h.known p (framed-gave f)))
      to n z (through last framed_by k) q =
          or-second (eqb z d.identity.serial) (elem z d.identity.above)
          (h.chain d m z (rw e at (shrink-new t.next only-framed (λ c' a' s k' p f. h.older p f) k (omega (arith, below)))))
      to n z (through (earlier p) f k) q = absurd (omega (arith, h.known p (framed-gave f)))

      from : (z : ℕ) → T (eqb z d.identity.serial || elem z d.identity.above) → BeneathIn (record { call = framed_load c hd o a; answer = loaded t.next b } ∷ es) t.next z
      from z = or_cases (eqb z d.identity.serial) (elem z d.identity.above)
          (λ q. let w : c ≡ z = e ∙ sym (eqb→eq z d.identity.serial q) in rw (← w) (directly last framed_by))
          (λ q. through last framed_by (beneath-later (rw e (h.chained d m z q))))

effect-agrees : (es : List Event) (t u : Table) (c : Call) (a : Answer) → Invariant t → Agrees es t → Effect t c a u → Agrees (record { call = c; answer = a } ∷ es) u
effect-agrees es t u c a i h (nothing_else g v l r) = quiet c a g v h
effect-agrees es t u c a i h (top_loaded hd o b p q) = top-agrees es t i h hd o b
effect-agrees es t u c a i h (frame_loaded k hd o b m d j e p q) = framed-agrees es t i h k hd o b d j e m
effect-agrees es t u c a i h (all_removed s) = unloads s (removed_count s t.docs) h

events-agree : (cs : List Call) (t : Table) (es : List Event) → Invariant t → Agrees es t → Agrees (events_from cs t es) (left_by table_left cs t)
unfolding events_from left_by
events-agree [] t es i h = h
events-agree (c ∷ cs) t es i h = events-agree cs (table_left c t) (record { call = c; answer = answer_to c t } ∷ es) (call_next c t i).inv (effect-agrees es t (table_left c t) c (answer_to c t) i h (effect c t))

new-agrees : Agrees [] new_table
new-agrees = record {
  is_there = λ s l. elim l [ ];
  told = λ x m. elim m [ ];
  chain = λ x m. elim m [ ];
  chained = λ x m. elim m [ ];
  known = λ p g. elim p [ ];
  older = λ p f. elim p [ ];
}

-- after any list of calls the table holds what the history tells
pub agrees : (cs : List Call) → Agrees (history cs) (table_after cs)
unfolding history table_after
agrees cs = events-agree cs new_table [] new-invariant new-agrees
