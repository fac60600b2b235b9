-- What each return of a framed load answers, in the terms of the code. Assumes nothing.
use Rattle.std.specs.Prelude.{Result, Ok, Err}
use Rattle.std.specs.Prelude.{None}
use Rattle.std.specs.Prelude.{Option, is_some}
use mathlib.Core.Path.{◌≡◌, refl, ap, sym, ◌∙◌, subst}
use Prim.Native.Nat.{ℕ, suc, ◌≤◌, ◌<◌}
use native.Mathlib.Omega.{arith}
use mathlib.Core.List.{List}
use mathlib.Core.Bool.{Bool, true, false, not, ◌&&◌, ◌||◌}
use Rattle.std.specs.Prelude.{Some}
use lib.ListN.{length}
use borrow.Author.Tests.{le-leb, lt-leb, leb-true}
use Rattle.ascii.proofs.Clash.{clash}
use Rattle.limits.specs.Limits.{text_bytes, document_limit}
use Rattle.limits.specs.declared.Refusal.{Refusal}
use Rattle.limits.specs.declared.Refusal.TheVariants.{NotLoaded, BadOrigin, TooLong, Sandbox}
use Rattle.origins.specs.Origins.{OriginSaid, origin_of}
use Rattle.origins.specs.Origins.OriginSaid.{says_empty, says_null, says_tuple, no_origin}
use Rattle.origins.specs.Answers.{origin_as}
use Rattle.origins.specs.declared.OriginText.{OriginText}
use Rattle.declarations.specs.Declarations.{is_malformed}
use Rattle.containers.specs.Attributes.{Attributes}
use Rattle.containers.specs.Answers.{IsSandboxed}
use Rattle.document_records.specs.Slots.{is_sandboxed_in, document_in}
use Rattle.document_records.proofs.Laws.{document-sandboxed, document-policy}
use Rattle.document_model.specs.Model.{Text, Table as ModelTable, Document, framed_load, refuse, is_null, is_short, find, frame_sandboxed, load as load_of, outcome, framed_document, framed_identity}
use Rattle.document_model.proofs.Parts.{frame-sandboxed, found-fewer, framed-identity, framed-document}
use Rattle.document_model.proofs.RowByRow.{framed-long, framed_bad, framed_src, framed-closed, framed_sandbox, framed-load}
use Rattle.document_table.specs.Layout.{count_in, last_in, serial_at, doc_at, docs_in, view}
use Rattle.document_table.specs.Tables.{IsFound, IsSlot}
use Rattle.document_table.proofs.Laws.{docs-length}
use Rattle.document_records.specs.declared.Frame.{Frame}
use Rattle.document_loads.specs.declared.NewDocument.{NewDocument}
use Rattle.document_loads.specs.Loads.{attributes_of, framed_in, inherits_in, IsFramedDocument}
use Rattle.documents.specs.declared.FramePlace.{FramePlace}
use Rattle.documents.specs.declared.LoadedDocument.{LoadedDocument}
use Rattle.documents.specs.Answers.{Valid, Loads}
use Rattle.documents.specs.Steps.{is_barred, IsRoom, GoodTexts, AreTexts, Places, HasPlace, IsFramePlace, IsFrameRoom, IsAdmitted, LoadsAt}
use Rattle.documents.proofs.Answering.{good-is, slot-document}
use Rattle.documents.proofs.Loads.{refused-load, accepted-load}

-- ---- refusal 5
not_null : (o : OriginSaid) (b : Bool) → is_barred b (origin_as o) ≡ true → is_null o ≡ false
not_null says_empty b e = refl
not_null says_null b e = clash cc
not_null (says_tuple p) b e = refl
not_null no_origin b e = refl

barred : (o : OriginSaid) (b : Bool) → is_barred b (origin_as o) ≡ true → b ≡ true
barred says_empty b e = e
barred says_null b e = clash cc
barred (says_tuple p) b e = e
barred no_origin b e = e

let-in : (o : OriginSaid) (b : Bool) → is_barred b (origin_as o) ≡ false → not b || is_null o ≡ true
let-in says_empty b e = rw e
let-in says_null true e = refl
let-in says_null false e = refl
let-in (says_tuple p) b e = rw e
let-in no_origin b e = rw e

-- ---- the texts
module _ (h allow sandbox : List ℕ) (x y : Option OriginText) where
  refuses-texts : (n : Refusal) → ((s : ℕ) (o : Text) (a : Attributes) (t : ModelTable) → a.allow ≡ allow → a.sandbox ≡ sandbox → x ≡ origin_as (origin_of o) → y ≡ origin_as (origin_of a.src) → outcome (framed_load s h o a) t ≡ refuse n) → AreTexts h allow sandbox x y (Err n)
  refuses-texts n f = record { refuses = λ m e s o a t p q u v. (let w : n ≡ m = cc in f s o a t p q u v ∙ ap refuse w); good = λ e o a p q u v. clash cc }

  pub texts-header : text_bytes < length h → AreTexts h allow sandbox x y (Err TooLong)
  texts-header lt = refuses-texts TooLong (λ s o a t p q u v. framed-long s h o a t (rw (lt-leb (length h) text_bytes lt)))

  module _ (short-h : length h ≤ text_bytes) where
    pub texts-allow : text_bytes < length allow → AreTexts h allow sandbox x y (Err TooLong)
    texts-allow lt = refuses-texts TooLong (λ s o a t p q u v. framed-long s h o a t (rw (le-leb (length h) text_bytes short-h, p, lt-leb (length allow) text_bytes lt)))

    module _ (short-a : length allow ≤ text_bytes) where
      pub texts-sandbox : text_bytes < length sandbox → AreTexts h allow sandbox x y (Err TooLong)
      texts-sandbox lt = refuses-texts TooLong (λ s o a t p q u v. framed-long s h o a t (rw (le-leb (length h) text_bytes short-h, p, le-leb (length allow) text_bytes short-a, q, lt-leb (length sandbox) text_bytes lt)))

      module _ (short-s : length sandbox ≤ text_bytes) where
        fit : (a : Attributes) → a.allow ≡ allow → a.sandbox ≡ sandbox → is_short h && is_short a.allow && is_short a.sandbox ≡ true
        fit a p q = rw (p, q, le-leb (length h) text_bytes short-h, le-leb (length allow) text_bytes short-a, le-leb (length sandbox) text_bytes short-s)

        module _ (b : Bool) (tested : is_some x ≡ not b) where
          pub texts-origin : b ≡ true → AreTexts h allow sandbox x y (Err BadOrigin)
          texts-origin k = refuses-texts BadOrigin (λ s o a t p q u v. framed_bad s h o a t (fit a p q) (good-is o x b true u tested k))

          module _ (good : b ≡ false) (d : Bool) (tested-src : is_some y ≡ not d) where
            pub texts-src : d ≡ true → AreTexts h allow sandbox x y (Err BadOrigin)
            texts-src k = refuses-texts BadOrigin (λ s o a t p q u v. framed_src s h o a t (fit a p q) (good-is o x b false u tested good) (good-is a.src y d true v tested-src k))

            pub texts-good : d ≡ false → AreTexts h allow sandbox x y (Ok tt)
            texts-good k = record { refuses = λ m e s o a t p q u v. clash cc; good = λ e o a p q u v. record { short = fit a p q; origin = good-is o x b false u tested good; src = good-is a.src y d false v tested-src k } }

-- ---- where a framed load goes

-- in a frame of a found document there is room for one more above
found-shallow : (t : List ℕ) (s : ℕ) (d : Document) → Valid t → count_in t < document_limit → find s (docs_in t) ≡ Some d → suc (length d.identity.above) < document_limit
found-shallow t s d valid room there =
    let few : length d.identity.above < length (view t).docs =
    subst (λ (m : ModelTable). find s m.docs ≡ Some d → length d.identity.above < length m.docs) (sym valid.left) (found-fewer valid.calls s d) there in
    omega (arith, few, docs-length t)

module _ (t : List ℕ) (s : ℕ) (x : Option OriginText) (has : Bool) (sandbox : List ℕ) where
  refuses-frame : (n : Refusal) → ((h o : Text) (a : Attributes) → a.has_sandbox ≡ has → a.sandbox ≡ sandbox → x ≡ origin_as (origin_of o) → GoodTexts h o a → outcome (framed_load s h o a) (view t) ≡ refuse n) → IsFrameRoom t s x has sandbox (Err n)
  refuses-frame n f = record { refuses = λ m e h o a p q read good. (let w : n ≡ m = cc in f h o a p q read good ∙ ap refuse w); places = λ p e h o a u v read good. clash cc }

  module _ (valid : Valid t) (f : Option ℕ) (is : IsFound t s f) where
    pub frame_closed : f ≡ None → IsFrameRoom t s x has sandbox (Err NotLoaded)
    frame_closed k = refuses-frame NotLoaded (λ h o a p q read good. framed-closed s h o a (view t) good.short good.origin good.src (is.none_at k))

    module _ (i : ℕ) (c : List ℕ) (k : f ≡ Some i) (at : IsSlot t i c) (above boxed out : Bool) (mark : above ≡ is_sandboxed_in c) (box : IsSandboxed above has sandbox boxed) (tested : out ≡ is_barred boxed x) where
      sandboxed-is : (doc_at t i).identity.sandboxed ≡ above
      sandboxed-is = ap (λ (d : Document). d.identity.sandboxed) (slot-document t c i at) ∙ (document-sandboxed (serial_at t i) c ∙ sym mark)

      in-box : (a : Attributes) → a.has_sandbox ≡ has → a.sandbox ≡ sandbox → boxed ≡ frame_sandboxed (doc_at t i).identity a
      in-box a p q = box.says a p q ∙ sym (frame-sandboxed (doc_at t i).identity a ∙ rw sandboxed-is refl)

      barred-is : (o : Text) (b : Bool) → x ≡ origin_as (origin_of o) → out ≡ b → is_barred boxed (origin_as (origin_of o)) ≡ b
      barred-is o b read q = ap (is_barred boxed) (sym read) ∙ (sym tested ∙ q)

      pub frame-barred : out ≡ true → IsFrameRoom t s x has sandbox (Err Sandbox)
      frame-barred w =
          refuses-frame Sandbox
          (λ h o a p q read good.
          framed_sandbox s h o a (view t) good.short good.origin good.src (doc_at t i) (is.some_at i k).1 (sym (in-box a p q) ∙ barred (origin_of o) boxed (barred-is o true read w)) (not_null (origin_of o) boxed (barred-is o true read w)))

      module _ (free : out ≡ false) where
        is-load : (h o : Text) (a : Attributes) → a.has_sandbox ≡ has → a.sandbox ≡ sandbox → x ≡ origin_as (origin_of o) → GoodTexts h o a
            → outcome (framed_load s h o a) (view t) ≡ load_of (view t) (is_malformed h) (framed_document (doc_at t i) h a) (framed_identity (doc_at t i).identity a (origin_of o))
        is-load h o a p q read good =
            framed-load s h o a (view t) good.short good.origin good.src (doc_at t i) (is.some_at i k).1 (ap (λ (z : Bool). not z || is_null (origin_of o)) (sym (in-box a p q)) ∙ let-in (origin_of o) boxed (barred-is o false read free))

        pub frame_refused : (n : Refusal) → IsRoom t (Err n) → IsFrameRoom t s x has sandbox (Err n)
        frame_refused n r = refuses-frame n (λ h o a p q read good. is-load h o a p q read good ∙ r.none n refl (is_malformed h) (framed_document (doc_at t i) h a) (framed_identity (doc_at t i).identity a (origin_of o)))

        placed : (n : ℕ) → IsRoom t (Ok n) → (h o : Text) (a : Attributes) → a.has_sandbox ≡ has → a.sandbox ≡ sandbox → x ≡ origin_as (origin_of o) → GoodTexts h o a → IsFramePlace t s h o a (record { container = i; serial = n })
        placed n r h o a p q read good =
            record {
              has = record { has = record { sound = valid.sound; room = (r.serial n refl).1; left = (r.serial n refl).2 }; place = (is.some_at i k).0; above = found-shallow t s (doc_at t i) valid (r.serial n refl).1 (is.some_at i k).1 };
              container = (is.some_at i k).2;
              serial = (r.serial n refl).0;
              loads = is-load h o a p q read good;
            }

        pub frame-placed : (n : ℕ) → IsRoom t (Ok n) → IsFrameRoom t s x has sandbox (Ok (record { container = i; serial = n }))
        frame-placed n r =
            record {
              refuses = λ m w h o a p q read good. clash cc;
              places = λ p w h o a u v read good.
                  let same : ◌≡◌ {A = FramePlace} (record { container = i; serial = n }) p = cc in
                  subst (IsFramePlace t s h o a) same (placed n r h o a u v read good);
            }

-- ---- every refusal

short-header : (h : Text) (b c : Bool) → is_short h && b && c ≡ true → length h ≤ text_bytes
short-header h b c e = leb-true (length h) text_bytes (first (is_short h) b c e)
  where
    first : (x y z : Bool) → x && y && z ≡ true → x ≡ true
    first true y z e = refl
    first false y z e = e

module _ (t : List ℕ) (s : ℕ) (x y : Option OriginText) (fr : Frame) (h : List ℕ) where
  pub admitted-texts : (n : Refusal) → AreTexts h fr.allow.now fr.sandbox.now x y (Err n) → IsAdmitted t s x y fr h (Err n)
  admitted-texts n good =
      record {
        refuses = λ m w o read read-src. (let q : n ≡ m = cc in good.refuses n refl s o (attributes_of fr) (view t) refl refl read read-src ∙ ap refuse q);
        places = λ p w o read read-src. clash cc;
      }

  pub admitted-room : (r : Result FramePlace Refusal) → AreTexts h fr.allow.now fr.sandbox.now x y (Ok tt) → IsFrameRoom t s x fr.has_sandbox fr.sandbox.now r → IsAdmitted t s x y fr h r
  admitted-room r good is =
      record {
        refuses = λ m w o read read-src. is.refuses m w h o (attributes_of fr) refl refl read (good.good refl o (attributes_of fr) refl refl read read-src);
        places = λ p w o read read-src.
            let g = good.good refl o (attributes_of fr) refl refl read read-src in
            (is.places p w h o (attributes_of fr) refl refl read g, short-header h (is_short fr.allow.now) (is_short fr.sandbox.now) g.short);
      }

-- ---- the load

pub loads-at : (t : List ℕ) (p : FramePlace) (s : ℕ) (h o : Text) (fr : Frame) (c : List ℕ) (d : NewDocument) (u : List ℕ) (l : LoadedDocument)
    → IsSlot t p.container c → IsFramedDocument c s o (attributes_of fr) p.serial d → Places t d h u l × (l.serial ≡ p.serial)
    → LoadsAt t p s h o (attributes_of fr) u l
loads-at t p s h o fr c d u l at new put =
    let a = attributes_of fr in
    record {
      says = λ valid here.
          let n = suc (last_in t) in
          let doc : doc_at t p.container ≡ document_in s c = slot-document t c p.container at ∙ ap (λ (j : ℕ). document_in j c) here.container in
          let i = framed_in c s o a p.serial in
          let b = inherits_in c s o a p.serial in
          let own : (framed_in c s o (attributes_of fr) p.serial).serial ≡ suc (last_in t) = rw (framed-identity (document_in s c).identity a (origin_of o) p.serial) here.serial in
          let few : length (framed_in c s o (attributes_of fr) p.serial).above < document_limit =
          rw (framed-identity (document_in s c).identity a (origin_of o) p.serial, ← doc) here.has.above in
          let loads : outcome (framed_load s h o (attributes_of fr)) (view t) ≡ load_of (view t) (is_malformed h) (framed_document (document_in s c) h (attributes_of fr)) (framed_identity (document_in s c).identity (attributes_of fr) (origin_of o)) =
          subst (λ (y : Document). outcome (framed_load s h o (attributes_of fr)) (view t) ≡ load_of (view t) (is_malformed h) (framed_document y h (attributes_of fr)) (framed_identity y.identity (attributes_of fr) (origin_of o))) doc here.loads in
          accepted-load (framed_load s h o a) t u h (is_malformed h) l.malformed l.serial (framed_document (document_in s c) h a) (framed_identity (document_in s c).identity a (origin_of o)) i b valid loads here.has.has.room here.has.has.left (put.1 ∙ here.serial) put.0.malformed
          (sym (framed-document (document_in s c) h a (framed_in c s o (attributes_of fr) p.serial) ∙ rw (document-policy s c) refl) ∙ ap (λ (j : ℕ). framed_document (document_in s c) h (attributes_of fr) (framed_identity (document_in s c).identity (attributes_of fr) (origin_of o) j)) here.serial)
          (put.0.says i b new own few) (λ y. refl);
    }

module _ (t : List ℕ) (s : ℕ) (h o : Text) (fr : Frame) (x y : Option OriginText) (read : x ≡ origin_as (origin_of o)) (read-src : y ≡ origin_as (origin_of fr.src.now)) where
  pub framed-refused : (n : Refusal) → Valid t → IsAdmitted t s x y fr h (Err n) → Loads (framed_load s h o (attributes_of fr)) t t (Err n)
  framed-refused n valid is = refused-load (framed_load s h o (attributes_of fr)) t n valid (is.refuses n refl o read read-src)

  pub framed-place : (p : FramePlace) → IsAdmitted t s x y fr h (Ok p) → HasPlace t p
  framed-place p is = (is.places p refl o read read-src).0.has

  pub framed-short : (p : FramePlace) → IsAdmitted t s x y fr h (Ok p) → length h ≤ text_bytes
  framed-short p is = (is.places p refl o read read-src).1

  pub framed-accepted : (p : FramePlace) (u : List ℕ) (l : LoadedDocument) → Valid t → IsAdmitted t s x y fr h (Ok p) → LoadsAt t p s h o (attributes_of fr) u l → Loads (framed_load s h o (attributes_of fr)) t u (Ok l)
  framed-accepted p u l valid is at = at.says valid (is.places p refl o read read-src).0
