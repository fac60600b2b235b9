-- What each return of a load answers, in the terms of the code. Assumes nothing.
use Rattle.std.specs.Prelude.{Ok, Err}
use Rattle.std.specs.Prelude.{Option}
use mathlib.Core.Path.{◌≡◌, refl, ap, sym, ◌∙◌}
use Prim.Native.Nat.{ℕ, suc, ◌+◌, ◌≤◌, ◌<◌}
use native.Mathlib.Omega.{arith}
use native.Mathlib.Numerals.{add-one}
use mathlib.Core.List.{List, [], ◌∷◌, ◌++◌}
use mathlib.Core.Bool.{Bool, true, false, not}
use lib.ListN.{length}
use lib.Dec.{leb}
use borrow.Author.Tests.{le-leb, lt-leb, leb-true, leb-false}
use Rattle.ascii.proofs.Clash.{clash}
use Rattle.limits.specs.Limits.{text_bytes, document_limit, last_serial}
use Rattle.limits.specs.declared.Refusal.{Refusal}
use Rattle.limits.specs.declared.Refusal.TheVariants.{BadOrigin, TooLong, Full, Spent}
use Rattle.origins.specs.Origins.{OriginSaid, origin_of}
use Rattle.origins.specs.Origins.OriginSaid.{says_empty, says_null, says_tuple, no_origin}
use Rattle.origins.specs.Answers.{origin_as}
use Rattle.origins.specs.declared.OriginText.{OriginText}
use Rattle.declarations.specs.Declarations.{is_malformed}
use Rattle.decisions.specs.Decisions.{inherited_top}
use Rattle.decisions.specs.Masks.{mask_of}
use Rattle.document_model.specs.Model.{Text, Table as ModelTable, Identity, Document as ModelDocument, declared_by, Call, top_load, loaded, refuse, accept, is_good_at_top, load as load_of, outcome, top_document, top_identity, table_left}
use Rattle.document_model.proofs.Parts.{top-identity, top-document}
use Rattle.document_model.proofs.RowByRow.{answer-of, table_of, load_full, load-spent, load-answer, top-long, top_bad, top-load}
use Rattle.document_table.specs.Layout.{count_in, last_in, slot_number, slot_of, docs_in, view, loaded_run}
use Rattle.document_table.proofs.Laws.{docs-length}
use Rattle.document_loads.specs.declared.NewDocument.{NewDocument}
use Rattle.document_loads.specs.Slots.{written}
use Rattle.document_loads.specs.Loads.{IsTopDocument}
use Rattle.documents.specs.declared.LoadedDocument.{LoadedDocument}
use Rattle.documents.specs.Bytes.{newest, no_document, with_newest, changed}
use Rattle.documents.specs.Answers.{Valid, Loads}
use Rattle.documents.specs.Steps.{is_bad_at_top, HasRoom, IsRoom, Placed, Places}
use Rattle.documents.proofs.Answering.{valid-next, bytes-of}

-- ---- room and a serial

module _ (t : List ℕ) (n : ℕ) (counted : n ≡ count_in t) where
  many : length (docs_in t) ≡ count_in t
  many = docs-length t

  pub room-full : (b : Bool) → b ≡ leb document_limit n → b ≡ true → IsRoom t (Err Full)
  room-full b f g =
      let le : document_limit ≤ length (docs_in t) = omega (arith, many, leb-true document_limit n (sym f ∙ g)) in
      record { none = λ x e m d i. (let q : Full ≡ x = cc in load_full (view t) m d i le ∙ ap refuse q); serial = λ s e. clash cc }

  module _ (b : Bool) (f : b ≡ leb document_limit n) (g : b ≡ false) (last : ℕ) (is : last ≡ last_in t) where
    below : n < document_limit
    below = leb-false document_limit n (sym f ∙ g)

    pub room-spent : last_serial ≤ last → IsRoom t (Err Spent)
    room-spent k =
        let lt : length (docs_in t) < document_limit = omega (arith, many, below) in
        let less : last_serial < suc (last_in t) = omega arith in
        record { none = λ x e m d i. (let q : Spent ≡ x = cc in load-spent (view t) m d i lt less ∙ ap refuse q); serial = λ s e. clash cc }

    pub room-serial : last < last_serial → IsRoom t (Ok (last + 1))
    room-serial k = record { none = λ x e m d i. clash cc; serial = λ s e. (let w : last + 1 ≡ s = cc in (sym w ∙ (add-one last ∙ ap suc is), omega (arith, below), omega arith)) }

-- ---- loads

pub refused-load : (c : Call) (t : List ℕ) (n : Refusal) → Valid t → outcome c (view t) ≡ refuse n → Loads c t t (Err n)
refused-load c t n valid e =
    record { valid = valid; answer = sym (answer-of c (view t) (refuse n) e); table = sym (table_of c (view t) (refuse n) e); bytes = sym (bytes-of c t (refuse n) e) }

newest-last : (l : List ModelDocument) (d x : ModelDocument) → newest d (l ++ (x ∷ [])) ≡ x
unfolding newest
newest-last [] d x = refl
newest-last (y ∷ l) d x = newest-last l y x

-- a document that was written, by the load's outcome
pub pushed-load : (c : Call) (t u h : List ℕ) (m k : Bool) (n : ℕ) (i : Identity) (b : ℕ) → Valid t
    → outcome c (view t) ≡ accept (loaded (suc (last_in t)) m) (record { docs = docs_in t ++ (record { identity = i; inherited = b; declared = declared_by h } ∷ []); next = suc (suc (last_in t)) })
    → n ≡ suc (last_in t) → k ≡ m → Placed t i b h u → ((x : ModelTable) → changed c x t ≡ with_newest t x h)
    → Loads c t u (Ok (record { serial = n; malformed = k }))
pushed-load c t u h m k n i b valid e q w p changes =
    let x : ModelDocument = record { identity = i; inherited = b; declared = declared_by h } in
    let after : ModelTable = record { docs = docs_in t ++ (record { identity = i; inherited = b; declared = declared_by h } ∷ []); next = suc (suc (last_in t)) } in
    let docs : docs_in u ≡ docs_in t ++ (record { identity = i; inherited = b; declared = declared_by h } ∷ []) = p.docs in
    let next : suc (last_in u) ≡ suc (suc (last_in t)) = ap suc (p.last ∙ add-one (last_in t)) in
    let seen : view u ≡ after = cc in
    let leaves : view u ≡ table_left c (view t) = seen ∙ sym (table_of c (view t) (accept (loaded (suc (last_in t)) m) after) e) in
    record {
      valid = valid-next c t u valid p.sound leaves;
      answer = rw (q, w) (sym (answer-of c (view t) (accept (loaded (suc (last_in t)) m) after) e));
      table = leaves;
      bytes =
          p.is
          ∙ (ap (λ (y : ModelDocument). loaded_run t (written (slot_of t (slot_number t (count_in t))) y h)) (sym (newest-last (docs_in t) no_document x))
          ∙ (sym (changes after) ∙ sym (bytes-of c t (accept (loaded (suc (last_in t)) m) after) e)));
    }

-- in the terms of the code
pub accepted-load : (c : Call) (t u h : List ℕ) (m k : Bool) (n : ℕ) (document : Identity → ModelDocument) (identity : ℕ → Identity) (i : Identity) (b : ℕ) → Valid t → outcome c (view t) ≡ load_of (view t) m document identity
    → count_in t < document_limit → last_in t < last_serial → n ≡ suc (last_in t) → k ≡ m → ◌≡◌ {A = ModelDocument} (record { identity = i; inherited = b; declared = declared_by h }) (document (identity (suc (last_in t)))) → Placed t i b h u
    → ((x : ModelTable) → changed c x t ≡ with_newest t x h)
    → Loads c t u (Ok (record { serial = n; malformed = k }))
accepted-load c t u h m k n document identity i b valid e room left q w is p changes =
    let lt : length (docs_in t) < document_limit = omega (arith, docs-length t) in
    let o = e ∙ (load-answer (view t) m document identity lt (omega arith) ∙ ap (λ (y : ModelDocument). accept (loaded (suc (last_in t)) m) (record { docs = docs_in t ++ (y ∷ []); next = suc (suc (last_in t)) })) (sym is)) in
    pushed-load c t u h m k n i b valid o q w p changes

-- ---- a load at the top

top-good : (o : OriginSaid) → not (is_bad_at_top (origin_as o)) ≡ is_good_at_top o
top-good says_empty = refl
top-good says_null = refl
top-good (says_tuple p) = refl
top-good no_origin = refl

good-at-top : (o : Text) (x : Option OriginText) (b c : Bool) → x ≡ origin_as (origin_of o) → b ≡ is_bad_at_top x → b ≡ c → is_good_at_top (origin_of o) ≡ not c
good-at-top o x b c e h k = sym (top-good (origin_of o)) ∙ ap not (ap is_bad_at_top (sym e) ∙ (sym h ∙ k))

module _ (t : List ℕ) (h o : Text) (valid : Valid t) where
  pub top_header : text_bytes < length h → Loads (top_load h o) t t (Err TooLong)
  top_header lt = refused-load (top_load h o) t TooLong valid (top-long h o (view t) (lt-leb (length h) text_bytes lt))

  module _ (le : length h ≤ text_bytes) (x : Option OriginText) (b : Bool) (read : x ≡ origin_as (origin_of o)) (tested : b ≡ is_bad_at_top x) where
    pub top-origin : b ≡ true → Loads (top_load h o) t t (Err BadOrigin)
    top-origin k = refused-load (top_load h o) t BadOrigin valid (top_bad h o (view t) (le-leb (length h) text_bytes le) (good-at-top o x b true read tested k))

    module _ (good : b ≡ false) where
      top-is-load : outcome (top_load h o) (view t) ≡ load_of (view t) (is_malformed h) (top_document h) (top_identity (origin_of o))
      top-is-load = top-load h o (view t) (le-leb (length h) text_bytes le) (good-at-top o x b false read tested good)

      pub top-refused : (n : Refusal) → IsRoom t (Err n) → Loads (top_load h o) t t (Err n)
      top-refused n is = refused-load (top_load h o) t n valid (top-is-load ∙ is.none n refl (is_malformed h) (top_document h) (top_identity (origin_of o)))

      pub top-accepted : (n : ℕ) (d : NewDocument) (u : List ℕ) (l : LoadedDocument) → IsRoom t (Ok n) → IsTopDocument o n d → Places t d h u l × (l.serial ≡ n) → Loads (top_load h o) t u (Ok l)
      top-accepted n d u l is top p =
          let s = is.serial n refl in
          let own : (top_identity (origin_of o) n).serial ≡ suc (last_in t) = rw (top-identity (origin_of o) n) s.0 in
          let few : length (top_identity (origin_of o) n).above < document_limit = rw (top-identity (origin_of o) n) (omega arith) in
          accepted-load (top_load h o) t u h (is_malformed h) l.malformed l.serial (top_document h) (top_identity (origin_of o)) (top_identity (origin_of o) n) (mask_of (λ j. inherited_top)) valid top-is-load s.1 s.2 (p.1 ∙ s.0) p.0.malformed
          (sym (top-document h (top_identity (origin_of o) n)) ∙ ap (λ (j : ℕ). top_document h (top_identity (origin_of o) j)) s.0)
          (p.0.says (top_identity (origin_of o) n) (mask_of (λ j. inherited_top)) top own few) (λ y. refl)

pub has_room : (t : List ℕ) (n : ℕ) → Valid t → IsRoom t (Ok n) → HasRoom t
has_room t n v is = record { sound = v.sound; room = (is.serial n refl).1; left = (is.serial n refl).2 }
