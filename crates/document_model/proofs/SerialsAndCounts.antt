-- Claim 3: by what each call does, and since the documents of the table are the loaded ones. Assumes nothing.
use mathlib.Core.Path.{◌≡◌, refl, sym, ap, subst, ◌∙◌}
use Prim.Native.Nat.{ℕ, ◌+◌, ◌≤◌}
use native.Mathlib.Omega.{arith}
use mathlib.Core.Bool.{Bool, true, false}
use Rattle.std.specs.Prelude.{Option, None, Some}
use mathlib.Core.List.{List, [], ◌∷◌, ◌++◌}
use lib.Dec.{leb}
use lib.ListN.{length}
use Rattle.ascii.proofs.Clash.{clash}
use Rattle.limits.specs.Limits.{document_limit}
use Rattle.limits.specs.declared.Refusal.TheVariants.{Small}
use Rattle.document_model.specs.Runs.{left_by, answers_by}
use Rattle.document_model.specs.Model.{Document, values_from, Table, new_table, is_at_or_beneath, find, remaining, serials_beneath, removed_count, Call, unload, listing, Answer, refused, loaded, removed, decision, features, serials, accept, refuse_unless, with_document, texts_fit, stored, fitting_outcome, outcome, answer_in, answer_to, table_left, table_after, answers}
use Rattle.document_model.specs.History.{LoadedIn, BeneathIn, history, Member, Exactly, AreLoaded, AreBeneath, given, accepted_loads, unload_sum, Unloaded, unloaded, accepted_load}
use Rattle.document_model.specs.Claims.{Listed}
use Rattle.document_model.proofs.Booleans.{either_way}
use Rattle.document_model.proofs.Tables.{In, in-remaining, remaining-in, rising-one}
use Rattle.document_model.proofs.Invariant.{Invariant, reachable}
use Rattle.document_model.proofs.Agreement.{Agrees, agrees}
use Rattle.document_model.proofs.Effects.{table-append, Effect, nothing_else, top_loaded, frame_loaded, all_removed, effect, counted}
use Rattle.document_model.proofs.SerialLists.{serials_where, all-where, removed-where, exactly-one, loaded-list, beneath-list, where-sound, where-whole, where-ascends-low}

-- ---- serials

given-none : (a : Answer) (l : List Answer) → accepted_load a ≡ 0 → given (a ∷ l) ≡ given l
unfolding given
given-none (refused n) l e = refl
given-none (loaded s m) l e = absurd (omega arith)
given-none (removed n) l e = refl
given-none (decision d) l e = refl
given-none (features m) l e = refl
given-none (serials n run) l e = refl

-- what the rest gives, from the next serial of the table on
given-next : (t u : Table) (c : Call) (a : Answer) (l : List Answer) → Effect t c a u → given l ≡ values_from (λ n. n) u.next (length (given l)) → given (a ∷ l) ≡ values_from (λ n. n) t.next (length (given (a ∷ l)))
unfolding given values_from
given-next t u c a l (nothing_else g v z r) h = rw (given-none a l z) h
given-next t u c a l (top_loaded hd o m p q) h = ap (λ (k : List ℕ). t.next ∷ k) h
given-next t u c a l (frame_loaded k hd o b m d i q p z) h = ap (λ (k : List ℕ). t.next ∷ k) h
given-next t u c a l (all_removed s) h = h

given-from : (cs : List Call) (t : Table) → given (answers_by answer_to table_left cs t) ≡ values_from (λ n. n) t.next (length (given (answers_by answer_to table_left cs t)))
unfolding answers_by
given-from [] t = unfold given in (unfold values_from in refl)
given-from (c ∷ cs) t = given-next t (table_left c t) c (answer_to c t) (answers_by answer_to table_left cs (table_left c t)) (effect c t) (given-from cs (table_left c t))

-- "The serials given are 1, 2, 3, ... in order."
pub serials_in_order : (cs : List Call) → given (answers cs) ≡ values_from (λ n. n) 1 (length (given (answers cs)))
unfolding answers
serials_in_order cs = given-from cs new_table

-- ---- counts

-- "The number loaded equals accepted loads minus the sum of the unload answers."
pub number_loaded : (cs : List Call) (l : List ℕ) → AreLoaded (history cs) l → length l + unload_sum (history cs) ≡ accepted_loads (history cs)
number_loaded cs l a =
    let e : length l ≡ length (table_after cs).docs = ap length (exactly-one (LoadedIn (history cs)) l (serials_where (λ w. true) (table_after cs).docs) a (loaded-list cs)) ∙ all-where (table_after cs).docs in
    omega (arith, (counted cs).number)

-- "At most" so many "documents" as the limit says
pub at_most_limit : (cs : List Call) (l : List ℕ) → AreLoaded (history cs) l → length l ≤ document_limit
at_most_limit cs l a =
    let e : length l ≡ length (table_after cs).docs = ap length (exactly-one (LoadedIn (history cs)) l (serials_where (λ w. true) (table_after cs).docs) a (loaded-list cs)) ∙ all-where (table_after cs).docs in
    omega (arith, (reachable cs).few)

-- ---- listings

listed_of : (t : Table) (s n : ℕ) (run r : List ℕ) (o : Option Document) (b : Bool) →
    answer_in (with_document o λ d. refuse_unless Small b (accept (serials (length (serials_beneath s t.docs)) (stored (serials_beneath s t.docs) run)) t)) ≡ serials n r → Listed n r run (serials_beneath s t.docs)
unfolding with_document refuse_unless stored
listed_of t s n run r None b e = clash cc
listed_of t s n run r (Some d) false e = clash cc
listed_of t s n run r (Some d) true e = record { count = cc; run_afterwards = cc }

listing-is : (t : Table) (s n : ℕ) (run r : List ℕ) → answer_to (listing s run) t ≡ serials n r → Listed n r run (serials_beneath s t.docs)
unfolding answer_to outcome fitting_outcome texts_fit
listing-is t s n run r e = listed_of t s n run r (find s t.docs) (leb (length (serials_beneath s t.docs)) (length run)) (unfold refuse_unless in e)

-- "A listing is exactly the loaded serials beneath, ascending."
pub listing_exactly : (cs : List Call) (s n : ℕ) (run r l : List ℕ) → answer_to (listing s run) (table_after cs) ≡ serials n r → AreBeneath (history cs) s l → Listed n r run l
listing_exactly cs s n run r l e a =
    subst (Listed n r run) (exactly-one (λ k. LoadedIn (history cs) k × BeneathIn (history cs) k s) (serials_beneath s (table_after cs).docs) l (beneath-list cs s) a) (listing-is (table_after cs) s n run r e)

-- ---- unloads

record Removal (t u : Table) (s n : ℕ) : Type 0 where
  left : u.docs ≡ remaining s t.docs
  many : n ≡ removed_count s t.docs

removal : (t : Table) (s n : ℕ) (u : Table) (a : Answer) → a ≡ removed n → Effect t (unload s) a u → Removal t u s n
removal t s n u a e (nothing_else g v l r) = absurd (v s (subst (λ (b : Answer). Unloaded (unload s) b s) (sym e) unloaded))
removal t s n u a e (all_removed k) = record { left = refl; many = cc }

removed-list : (cs : List Call) (s : ℕ) → (table_after (cs ++ (unload s ∷ []))).docs ≡ remaining s (table_after cs).docs →
    Exactly (λ e. LoadedIn (history cs) e × (LoadedIn (history (cs ++ (unload s ∷ []))) e → ⊥)) (serials_where (is_at_or_beneath s) (table_after cs).docs)
removed-list cs s docs = record {
  ascends = where-ascends-low (is_at_or_beneath s) (table_after cs).docs (table_after cs).next i.rising;
  sound = λ k m. let f = where-sound (is_at_or_beneath s) (table_after cs).docs k m in (rw f.is at (h.told f.doc f.is_in), λ z. not_after f.doc f.is_in f.passes (rw f.is z));
  whole = whole-now;
}
  where
    i : Invariant (table_after cs)
    i = reachable cs

    h : Agrees (history cs) (table_after cs)
    h = agrees cs

    j : Agrees (history (cs ++ (unload s ∷ []))) (table_after (cs ++ (unload s ∷ [])))
    j = agrees (cs ++ (unload s ∷ []))

    not_after : (x : Document) → In x (table_after cs).docs → is_at_or_beneath s x.identity ≡ true → LoadedIn (history (cs ++ (unload s ∷ []))) x.identity.serial → ⊥
    not_after x m g z =
        let y = (agrees (cs ++ (unload s ∷ []))).is_there x.identity.serial z in
        let k = in-remaining s (table_after cs).docs y.0 (subst (In y.0) docs y.1) in
        let same : y.0 ≡ x = rising-one 1 (table_after cs).docs (table_after cs).next (reachable cs).rising y.0 x k.was m y.2 in
        let q : is_at_or_beneath s x.identity ≡ false = subst (λ (v : Document). is_at_or_beneath s v.identity ≡ false) same k.safe in
        clash cc

    whole-now : (k : ℕ) → LoadedIn (history cs) k × (LoadedIn (history (cs ++ (unload s ∷ []))) k → ⊥) → Member k (serials_where (is_at_or_beneath s) (table_after cs).docs)
    whole-now k p =
        let y = (agrees cs).is_there k p.0 in
        let e : y.0.identity.serial ≡ k = y.2 in
        either_way (is_at_or_beneath s y.0.identity) (is_at_or_beneath s y.0.identity) refl
        (λ g. rw e at (where-whole (is_at_or_beneath s) y.1 g))
        (λ g. absurd (p.1 (rw e at ((agrees (cs ++ (unload s ∷ []))).told y.0 (subst (In y.0) (sym docs) (remaining-in s y.1 g))))))

unload-leaves : (cs : List Call) (s n : ℕ) → answer_to (unload s) (table_after cs) ≡ removed n → (table_after (cs ++ (unload s ∷ []))).docs ≡ remaining s (table_after cs).docs
unfolding left_by
unload-leaves cs s n e =
    let t = table_after cs in
    ap (λ (v : Table). v.docs) (table-append cs (unload s ∷ [])) ∙ (removal t s n (table_left (unload s) t) (answer_to (unload s) t) e (effect (unload s) t)).left

pub some_removed : (cs : List Call) (s n : ℕ) → answer_to (unload s) (table_after cs) ≡ removed n →
    (l : List ℕ) × Exactly (λ e. LoadedIn (history cs) e × (LoadedIn (history (cs ++ (unload s ∷ []))) e → ⊥)) l
some_removed cs s n e = (serials_where (is_at_or_beneath s) (table_after cs).docs, removed-list cs s (unload-leaves cs s n e))

-- "An unload's answer is how many were loaded before and aren't after."
pub unload_answers : (cs : List Call) (s n : ℕ) (l : List ℕ) → answer_to (unload s) (table_after cs) ≡ removed n →
    Exactly (λ e. LoadedIn (history cs) e × (LoadedIn (history (cs ++ (unload s ∷ []))) e → ⊥)) l → n ≡ length l
unload_answers cs s n l e x =
    let t = table_after cs in
    let w = removal t s n (table_left (unload s) t) (answer_to (unload s) t) e (effect (unload s) t) in
    w.many ∙ removed-where s t.docs ∙ ap length (exactly-one (λ k. LoadedIn (history cs) k × (LoadedIn (history (cs ++ (unload s ∷ []))) k → ⊥)) (serials_where (is_at_or_beneath s) t.docs) l (removed-list cs s (unload-leaves cs s n e)) x)
