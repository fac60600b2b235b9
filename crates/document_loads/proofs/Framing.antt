-- The document that a load makes, and what a frame would inherit, in the terms of the code. Assumes nothing.
use mathlib.Core.Path.{◌≡◌, refl, ap, sym, ◌∙◌}
use Prim.Native.Nat.{ℕ, suc, ◌+◌, ◌*◌, ◌≤◌, ◌<◌, ◌^◌}
use native.Mathlib.Omega.{arith}
use mathlib.Core.List.{List, [], ◌∷◌, ◌++◌}
use mathlib.Core.Bool.{Bool, true, false}
use Rattle.std.specs.Prelude.{Option, Some, None}
use lib.ListN.{length, take, replicate, length-replicate, length-take, length-drop}
use lib.Seq.{length-take-le}
use Rattle.limits.specs.Limits.{document_limit}
use Rattle.lent_bytes.specs.Numbers.{number_at, bytes_of, numbers_in, number_bytes}
use Rattle.lent_bytes.proofs.Laws.{bytes-none, bytes-more, number-bytes-long, numbers-none, numbers_more, numbers-length}
use Rattle.origins.specs.Origins.{Origin, origin_of}
use Rattle.origins.specs.Origins.Origin.{tuple, opaque, fresh}
use Rattle.origins.specs.Matching.{same_origin}
use Rattle.origins.specs.Answers.{origin_as, origin_in, tuple_in}
use Rattle.origins.specs.declared.OriginText.{OriginText}
use Rattle.origins.specs.declared.OriginRange.{OriginRange}
use Rattle.origins.specs.declared.OriginRange.TheVariants as range
use Rattle.origins.specs.declared.TupleRange.{TupleRange}
use Rattle.origins.proofs.Laws.{tuple-self, fresh-left, text-empty}
use Rattle.containers.specs.Attributes.{Attributes}
use Rattle.containers.specs.Sandboxes.{sandbox_words}
use Rattle.containers.specs.Answers.{IsSandboxed, IsDeclared, declared_in}
use Rattle.containers.specs.declared.DeclaredOrigin.{DeclaredOrigin}
use Rattle.containers.specs.declared.DeclaredOrigin.TheVariants as declared
use Rattle.containers.proofs.Laws.{policy-attributes}
use Rattle.decisions.specs.Masks.{mask_of}
use Rattle.decisions.specs.Policies.{inherited_in}
use Rattle.decisions.proofs.Laws.{top_mask, mask-below, forecast-parts}
use Rattle.document_model.specs.Model.{arrives_at, or_fresh, frame_declared, frame_sandboxed, frame_of}
use Rattle.document_model.proofs.Parts.{frame-sandboxed, frame-declared, top-identity, framed-identity}
use Rattle.document_records.specs.Slots.{origin_bytes, origin_bytes_of, depth_place, opaque_place, depth_in, above_bytes, own_text, own_origin, is_sandboxed_in, document_in, slot_policy, Kept, GoodSlot}
use Rattle.document_records.specs.Records.{IsOwnRange, declared_is, IsInherited}
use Rattle.document_records.proofs.Laws.{document-serial, document-above, document-origin, document-sandboxed}
use Rattle.document_loads.specs.Slots.{filled, KeptOrigin}
use Rattle.document_loads.specs.Loads.{attributes_of, IsAt, Arrives, IsTopDocument, IsFramedDocument, Foretells}
use Rattle.document_records.specs.declared.Frame.{Frame}
use Rattle.document_loads.specs.declared.Arrival.{Arrival}
use Rattle.document_loads.proofs.Putting.{filled-long, filled-front, filled_none}

-- the length of the text that an arrival has
text-long : (o own : List ℕ) (number : ℕ) (container : OriginRange) (n : ℕ) (a : Arrival) (x : Origin) → Arrives o own number container n a → take a.length a.text ≡ origin_bytes_of x → a.length ≡ length (origin_bytes_of x)
text-long o own number container n a x at e = sym (length-take-le a.length a.text (let r = at.room in let s = at.short in omega arith)) ∙ ap length e

-- ---- a document at the top

pub is_top : (o above empty : List ℕ) (n : ℕ) (a : Arrival) → above ≡ replicate (4 * document_limit) 0 → empty ≡ [] → Arrives o empty n (range.Opaque n) n a
    → IsTopDocument o n (record { above = above; depth = 0; text = a.text; length = a.length; number = a.number; sandboxed = false; inherited = 131071 })
is_top o above empty n a zeros e at =
    let kept : KeptOrigin empty n (opaque n) = rw e (record { bytes = refl; number = refl; reads = rw text-empty refl }) in
    let w : IsAt (arrives_at (origin_of o) (opaque n) n) a = at.says (opaque n) kept refl in
    let size = text-long o empty n (range.Opaque n) n a (arrives_at (origin_of o) (opaque n) n) at w.kept.bytes in
    rw (top-identity (origin_of o) n)
    (record {
      fits = record { depth = omega arith; text = at.short; above_room = ap length zeros ∙ length-replicate {A = ℕ} (4 * document_limit) 0; text_room = at.room };
      above = sym bytes-none;
      depth = refl;
      listed = ap numbers_in bytes-none ∙ numbers-none;
      origin = w.kept;
      text = size;
      sandboxed = refl;
      inherited = sym top_mask;
      small = at.small;
      bits = rw top_mask (omega arith);
      above_filled = zeros ∙ (filled_none (4 * document_limit) ∙ ap (filled (4 * document_limit)) (sym bytes-none));
      text_filled = at.rest ∙ ap (filled origin_bytes) w.kept.bytes;
    })

-- ---- a document in a frame

-- the declared origin of a frame in a slot's document
declared-is : (s : ℕ) (c : List ℕ) (a : Attributes) (w b : Bool) (x : Option OriginText) (d : Option DeclaredOrigin) → w ≡ is_sandboxed_in c → IsSandboxed w a.has_sandbox a.sandbox b → IsDeclared b x d → x ≡ origin_as (origin_of a.src)
    → frame_declared (document_in s c).identity a ≡ or_fresh (declared_in a.src (own_origin c) d)
declared-is s c a w b x d ew h k e =
    frame-declared (document_in s c).identity a
    ∙ rw (document-sandboxed s c, document-origin s c) (ap or_fresh (sym (k.says a (is_sandboxed_in c) (own_origin c) (h.says a refl refl ∙ rw ew refl) e)))

-- whether the arriving origin is the declared one
arrives-declared : (x : Option Origin) (o : Origin) → declared_is x o ≡ same_origin (or_fresh x) o
arrives-declared (Some x) o = refl
arrives-declared None o = sym (fresh-left o)

above-many : (c : List ℕ) → Kept c → length (numbers_in (above_bytes c)) ≡ depth_in c
above-many c k = let a = k.long in let d = k.depth in numbers-length (depth_in c) (above_bytes c) (rw (length-take, length-drop) (omega arith))

-- `framed_document`
pub is_framed : (c : List ℕ) (s : ℕ) (o : List ℕ) (n : ℕ) (x : Option OriginText) (fr : Frame) (box b same : Bool) (d : Option DeclaredOrigin) (own : OriginRange) (u : List ℕ) (q : ℕ) (at : Arrival) (m : ℕ) (above : List ℕ) (k : ℕ)
    → GoodSlot c
    → x ≡ origin_as (origin_of fr.src.now)
    → box ≡ is_sandboxed_in c
    → IsSandboxed box fr.has_sandbox fr.sandbox.now b
    → IsDeclared b x d
    → IsOwnRange c own
    → u ≡ own_text c
    → q ≡ number_at c opaque_place
    → Arrives o u q own n at
    → same ≡ declared_is (declared_in fr.src.now (own_origin c) d) (origin_in (take at.length at.text) at.origin)
    → IsInherited (slot_policy c) fr.allow.now fr.allowfullscreen (sandbox_words fr.has_sandbox fr.sandbox.now) same (origin_in (take at.length at.text) at.origin) m
    → (above ≡ filled (4 * document_limit) (bytes_of s ++ above_bytes c)) × (s < 2 ^ 32)
    → k ≡ number_at c depth_place
    → IsFramedDocument c s o (attributes_of fr) n (record { above = above; depth = k + 1; text = at.text; length = at.length; number = at.number; sandboxed = b; inherited = m })
is_framed c s o n x fr box b same d own u q at m above k good read-src ebox boxed ds range eu eq arrives is i up ek =
    let a = attributes_of fr in
    let f = frame_of (document_in s c).identity a in
    let l = numbers_in (above_bytes c) in
    let kept : KeptOrigin u q (own_origin c) = rw (eu, eq) (record { bytes = good.own; number = good.number; reads = refl }) in
    let w : IsAt (arrives_at (origin_of o) (own_origin c) n) at = arrives.says (own_origin c) kept (ap (λ (y : List ℕ). origin_in y own) eu ∙ range.is) in
    let here : origin_in (take at.length at.text) at.origin ≡ arrives_at (origin_of o) (own_origin c) n = w.here in
    let size = text-long o u q own n at (arrives_at (origin_of o) (own_origin c) n) arrives w.kept.bytes in
    let test : same ≡ same_origin (frame_declared (document_in s c).identity (attributes_of fr)) (origin_in (take at.length at.text) at.origin) =
    is
    ∙ arrives-declared (declared_in fr.src.now (own_origin c) d) (origin_in (take at.length at.text) at.origin)
    ∙ ap (λ (y : Origin). same_origin y (origin_in (take at.length at.text) at.origin)) (sym (declared-is s c a box b x d ebox boxed ds read-src)) in
    let bits : m ≡ mask_of (inherited_in (slot_policy c) (frame_of (document_in s c).identity (attributes_of fr)) (arrives_at (origin_of o) (own_origin c) n)) =
    i.says f (policy-attributes a) test ∙ ap (λ (y : Origin). mask_of (inherited_in (slot_policy c) (frame_of (document_in s c).identity (attributes_of fr)) y)) here in
    let sandboxed : b ≡ frame_sandboxed (document_in s c).identity (attributes_of fr) = boxed.says a refl refl ∙ sym (frame-sandboxed (document_in s c).identity a ∙ rw (document-sandboxed s c, ← ebox) refl) in
    let many : length (numbers_in (above_bytes c)) ≡ depth_in c = above-many c good.kept in
    let written : bytes_of s ++ above_bytes c ≡ number_bytes (s ∷ numbers_in (above_bytes c)) = ap (λ (y : List ℕ). bytes_of s ++ y) good.above ∙ sym (bytes-more s l) in
    let all : above ≡ filled (4 * document_limit) (number_bytes (s ∷ numbers_in (above_bytes c))) = up.0 ∙ ap (filled (4 * document_limit)) written in
    let shallow = good.shallow in
    let size_above : length (number_bytes (s ∷ numbers_in (above_bytes c))) ≡ 4 * (depth_in c + 1) = number-bytes-long (s ∷ l) ∙ (let z : 4 * suc (length (numbers_in (above_bytes c))) ≡ 4 * (depth_in c + 1) = omega arith in z) in
    let bytes : take (4 * (k + 1)) above ≡ number_bytes (s ∷ numbers_in (above_bytes c)) =
    rw (ek, ← size_above, all) (filled-front (4 * document_limit) (number_bytes (s ∷ numbers_in (above_bytes c))) (omega arith)) in
    let listed : numbers_in (number_bytes (s ∷ numbers_in (above_bytes c))) ≡ s ∷ numbers_in (above_bytes c) = ap numbers_in (bytes-more s l) ∙ (numbers_more s (number_bytes l) up.1 ∙ ap (λ (y : List ℕ). s ∷ numbers_in y) (sym good.above)) in
    let mask = mask-below (inherited_in (slot_policy c) (frame_of (document_in s c).identity (attributes_of fr)) (arrives_at (origin_of o) (own_origin c) n)) in
    let short = arrives.short in
    rw (framed-identity (document_in s c).identity a (origin_of o) n, document-serial s c, document-above s c, document-origin s c)
    (record {
      fits = record { depth = omega (arith, ek); text = short; above_room = ap length up.0 ∙ filled-long (4 * document_limit) (bytes_of s ++ above_bytes c); text_room = arrives.room };
      above = bytes;
      depth = let z : k + 1 ≡ suc (length (numbers_in (above_bytes c))) = omega (arith, ek) in z;
      listed = listed;
      origin = w.kept;
      text = size;
      sandboxed = sandboxed;
      inherited = bits;
      small = arrives.small;
      bits = omega arith;
      above_filled = all;
      text_filled = arrives.rest ∙ ap (filled origin_bytes) w.kept.bytes;
    })

-- ---- a forecast

module _ (c : List ℕ) (x : Option OriginText) (fr : Frame) (w b : Bool) (d : Option DeclaredOrigin) (ew : w ≡ is_sandboxed_in c) (h : IsSandboxed w fr.has_sandbox fr.sandbox.now b) (k : IsDeclared b x d) (e : x ≡ origin_as (origin_of fr.src.now)) where
  foretold-at : (o : Origin) (same : Bool) (r : ℕ) → or_fresh (declared_in fr.src.now (own_origin c) d) ≡ o → same ≡ same_origin o o → IsInherited (slot_policy c) fr.allow.now fr.allowfullscreen (sandbox_words fr.has_sandbox fr.sandbox.now) same o r → Foretells c (attributes_of fr) r
  foretold-at o same r q s i =
      let a = attributes_of fr in
      let f = frame_of (document_in 0 c).identity a in
      let v : frame_declared (document_in 0 c).identity (attributes_of fr) ≡ o = declared-is 0 c a w b x d ew h k e ∙ q in
      i.says f (policy-attributes a) (s ∙ ap (λ (y : Origin). same_origin y o) (sym v))
      ∙ (ap (λ (y : Origin). mask_of (inherited_in (slot_policy c) f y)) (sym v) ∙ sym (forecast-parts (slot_policy c) f))

  pub foretold-fresh : (y : DeclaredOrigin) (r : ℕ) → d ≡ Some y → y ≡ declared.Fresh → IsInherited (slot_policy c) fr.allow.now fr.allowfullscreen (sandbox_words fr.has_sandbox fr.sandbox.now) false (origin_in fr.src.now range.Fresh) r → Foretells c (attributes_of fr) r
  foretold-fresh y r p q i = foretold-at fresh false r (ap (λ (y : Option DeclaredOrigin). or_fresh (declared_in fr.src.now (own_origin c) y)) (p ∙ ap Some q)) (sym (fresh-left fresh)) i

  pub foretold-none : (r : ℕ) → d ≡ None → IsInherited (slot_policy c) fr.allow.now fr.allowfullscreen (sandbox_words fr.has_sandbox fr.sandbox.now) false (origin_in fr.src.now range.Fresh) r → Foretells c (attributes_of fr) r
  foretold-none r q i = foretold-at fresh false r (ap (λ (y : Option DeclaredOrigin). or_fresh (declared_in fr.src.now (own_origin c) y)) q) (sym (fresh-left fresh)) i

  pub foretold-container : (y : DeclaredOrigin) (u : List ℕ) (own : OriginRange) (same : Bool) (r : ℕ) → d ≡ Some y → y ≡ declared.Container → u ≡ own_text c → IsOwnRange c own → same ≡ same_origin (origin_in u own) (origin_in u own) → IsInherited (slot_policy c) fr.allow.now fr.allowfullscreen (sandbox_words fr.has_sandbox fr.sandbox.now) same (origin_in u own) r → Foretells c (attributes_of fr) r
  foretold-container y u own same r p q eu range s i =
      let v : origin_in u own ≡ own_origin c = ap (λ (y : List ℕ). origin_in y own) eu ∙ range.is in
      foretold-at (origin_in u own) same r (ap (λ (y : Option DeclaredOrigin). or_fresh (declared_in fr.src.now (own_origin c) y)) (p ∙ ap Some q) ∙ sym v) s i

  pub foretold-src : (y : DeclaredOrigin) (p : TupleRange) (r : ℕ) → d ≡ Some y → y ≡ declared.Src p → IsInherited (slot_policy c) fr.allow.now fr.allowfullscreen (sandbox_words fr.has_sandbox fr.sandbox.now) true (origin_in fr.src.now (range.Tuple p)) r → Foretells c (attributes_of fr) r
  foretold-src y p r f q i = foretold-at (tuple (tuple_in fr.src.now p)) true r (ap (λ (y : Option DeclaredOrigin). or_fresh (declared_in fr.src.now (own_origin c) y)) (f ∙ ap Some q)) (sym (tuple-self (tuple_in fr.src.now p))) i

-- what the calls ask
pub own-short : (c u : List ℕ) → Kept c → u ≡ own_text c → length u ≤ origin_bytes
own-short c u k e = let t = k.text in rw (e, length-take, length-drop) (omega arith)
