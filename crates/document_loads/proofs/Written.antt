-- A slot with a document and its header written into it says that document. Assumes nothing.
use mathlib.Core.Path.{◌≡◌, refl, ap, sym, ◌∙◌}
use Prim.Native.Nat.{ℕ, ◌+◌, ◌-◌, ◌*◌, ◌≤◌, ◌<◌, ◌^◌}
use mathlib.Core.List.{List, [], ◌∷◌, ◌++◌, append_assoc}
use mathlib.Core.Bool.{Bool, true, false, not}
use native.Mathlib.Omega.{arith}
use lib.Dec.{eqb}
use lib.ListN.{length, get_or, take, drop}
use lib.Seq.{length-take-le, drop_at, take-append-add}
use Rattle.writing.specs.Writing.{with_text}
use Rattle.limits.specs.Limits.{text_bytes, document_limit}
use Rattle.lent_bytes.specs.Numbers.{number_at, bytes_at, numbers_in, number_bytes}
use Rattle.lent_bytes.proofs.Laws.{put-long, number-of, number-below, number-above, part-here, part-below, part-above, part-put, with_append, bytes-append, number-bytes-long}
use Rattle.features.specs.Features.{feature_count}
use Rattle.origins.specs.Origins.{Origin, origin_of}
use Rattle.origins.specs.Origins.Origin.{fresh}
use Rattle.declarations.specs.Declarations.{declares}
use Rattle.settled.specs.Settled.{declared_in}
use Rattle.settling.specs.Writing.{settled_bytes}
use Rattle.settling.proofs.Laws.{settled_says}
use Rattle.decisions.specs.Masks.{mask_of}
use Rattle.decisions.specs.Policies.{Policy, question_in, enabled_mask}
use Rattle.decisions.proofs.Laws.{mask-below, enabled-parts}
use Rattle.document_model.specs.Model.{Text, Identity, values_from, declared_by, policy_of}
use Rattle.document_model.proofs.Laws.{values_same}
use Rattle.document_model.proofs.Parts.{declared-by}
use Rattle.document_records.specs.Slots.{slot_bytes, origin_bytes, settled_limit, everywhere_place, depth_place, inherited_place, opaque_place, own_length_place, sandboxed_place, above_place, own_text_place, settled_place, depth_in, above_bytes, own_length, own_text, own_number, own_origin, origin_by, origin_bytes_of, origin_number, is_sandboxed_in, settled_in, document_in, slot_policy, Kept}
use Rattle.document_records.proofs.Laws.{document-parts, document-policy}
use Rattle.document_loads.specs.Slots.{mark_number, front_of, decisions_of, described, written, header_bytes, numbers_of, Fits, front_put, PutsHeader, with_decisions, IsNewDocument, Written, Writes}
use Rattle.document_loads.specs.declared.NewDocument.{NewDocument}
use Rattle.document_loads.proofs.Putting.{header_is}

abbrev five : Identity → ℕ → List ℕ
five i m = length i.above ∷ m ∷ origin_number i.origin ∷ length (origin_bytes_of i.origin) ∷ mark_number i.sandboxed ∷ []

-- an origin's text and number have room in a slot, and are read back
pub record OriginFits (o : Origin) : Type 0 where
  pub text : length (origin_bytes_of o) ≤ origin_bytes
  pub reads : origin_by (origin_of (origin_bytes_of o)) (origin_number o) ≡ o
  pub number : origin_number o < 2 ^ 32

-- what of a document has room in a slot and is read back
pub record Fitting (i : Identity) (m : ℕ) : Type 0 where
  pub depth : length i.above ≤ document_limit
  pub listed : numbers_in (number_bytes i.above) ≡ i.above
  pub origin : OriginFits i.origin
  pub bits : m < 2 ^ 32

mark-small : (b : Bool) → mark_number b < 2 ^ 32
mark-small true = omega arith
mark-small false = omega arith

mark-back : (b : Bool) → not (eqb (mark_number b) 0) ≡ b
mark-back true = refl
mark-back false = refl

-- numbers and a text past them are one text
joined : (slot : List ℕ) (i : Identity) (m : ℕ) → with_text (with_text slot depth_place (number_bytes (five i m))) above_place (number_bytes i.above) ≡ with_text slot depth_place (number_bytes (front_of i m))
joined slot i m =
    let n : length (number_bytes (five i m)) ≡ 20 = number-bytes-long (five i m) in
    let e : depth_place + length (number_bytes (five i m)) ≡ above_place = omega arith in
    sym (ap (with_text slot depth_place) (bytes-append (five i m) i.above) ∙ (with_append (number_bytes (five i m)) (number_bytes i.above) slot depth_place ∙ ap (λ (k : ℕ). with_text (with_text slot depth_place (number_bytes (five i m))) k (number_bytes i.above)) e))

-- what stands past a text that was put
past-put : (b t : List ℕ) (at : ℕ) → at + length t ≤ length b → drop at (with_text b at t) ≡ t ++ drop (at + length t) b
past-put b t at fits =
    ap (drop at) (sym (part-put b t at (at + length t) fits refl) ∙ append_assoc (take at b) t (drop (at + length t) b))
    ∙ drop_at (take at b) (t ++ drop (at + length t) b) at (length-take-le at b (omega arith))

abbrev fronted : List ℕ → Identity → ℕ → List ℕ
fronted slot i m = with_text slot depth_place (number_bytes (front_of i m))

abbrev named : List ℕ → Identity → ℕ → List ℕ
named slot i m = with_text (fronted slot i m) own_text_place (origin_bytes_of i.origin)

module _ (slot : List ℕ) (i : Identity) (m : ℕ) (h : Text) (long : slot_bytes ≤ length slot) (f : Fitting i m) (short : length (settled_bytes h) ≤ settled_limit) where
  fronted-long : length (fronted slot i m) ≡ length slot
  fronted-long = put-long slot depth_place (number_bytes (front_of i m))

  named-long : length (named slot i m) ≡ length slot
  named-long = put-long (fronted slot i m) own_text_place (origin_bytes_of i.origin) ∙ fronted-long

  described-long : length (described slot i m h) ≡ length slot
  described-long = put-long (named slot i m) settled_place (settled_bytes h) ∙ named-long

  number_is : (k : ℕ) → k < 5 → get_or (front_of i m) k 0 < 2 ^ 32 → number_at (described slot i m h) (depth_place + 4 * k) ≡ get_or (front_of i m) k 0
  number_is k lt small =
      let d = f.depth in
      number-below (named slot i m) (settled_bytes h) settled_place (depth_place + 4 * k) (omega arith)
      ∙ (number-below (fronted slot i m) (origin_bytes_of i.origin) own_text_place (depth_place + 4 * k) (omega arith)
      ∙ number-of (front_of i m) slot depth_place k (omega arith) (omega arith) small)

  depth_is : depth_in (described slot i m h) ≡ length i.above
  depth_is = let d = f.depth in number_is 0 (omega arith) (omega arith)

  inherited-is : number_at (described slot i m h) inherited_place ≡ m
  inherited-is = number_is 1 (omega arith) f.bits

  number-own : own_number (described slot i m h) ≡ origin_number i.origin
  number-own = number_is 2 (omega arith) f.origin.number

  length-own : own_length (described slot i m h) ≡ length (origin_bytes_of i.origin)
  length-own = let t = f.origin.text in number_is 3 (omega arith) (omega arith)

  mark-is : number_at (described slot i m h) sandboxed_place ≡ mark_number i.sandboxed
  mark-is = number_is 4 (omega arith) (mark-small i.sandboxed)

  above-is : above_bytes (described slot i m h) ≡ number_bytes i.above
  above-is =
      let d = f.depth in
      let n : length (number_bytes i.above) ≡ 4 * length i.above = number-bytes-long i.above in
      let l = put-long slot depth_place (number_bytes (five i m)) in
      let fits : above_place + length (number_bytes i.above) ≤ length (with_text slot depth_place (number_bytes (five i m))) = omega arith in
      let there : take (4 * length i.above) (drop above_place (fronted slot i m)) ≡ number_bytes i.above =
      ap (λ (x : List ℕ). take (4 * length i.above) (drop above_place x)) (sym (joined slot i m))
      ∙ (ap (λ (k : ℕ). take k (drop above_place (with_text (with_text slot depth_place (number_bytes (five i m))) above_place (number_bytes i.above)))) (sym n)
      ∙ part-here (number_bytes i.above) (with_text slot depth_place (number_bytes (five i m))) above_place fits) in
      ap (λ (k : ℕ). bytes_at (described slot i m h) above_place (4 * k)) depth_is
      ∙ (part-below (settled_bytes h) (named slot i m) settled_place above_place (4 * length i.above) (omega arith)
      ∙ (part-below (origin_bytes_of i.origin) (fronted slot i m) own_text_place above_place (4 * length i.above) (omega arith) ∙ there))

  text-is : own_text (described slot i m h) ≡ origin_bytes_of i.origin
  text-is =
      let t = f.origin.text in
      let l = fronted-long in
      ap (λ (k : ℕ). bytes_at (described slot i m h) own_text_place k) length-own
      ∙ (part-below (settled_bytes h) (named slot i m) settled_place own_text_place (length (origin_bytes_of i.origin)) (omega arith)
      ∙ part-here (origin_bytes_of i.origin) (fronted slot i m) own_text_place (omega arith))

  origin-is : own_origin (described slot i m h) ≡ i.origin
  origin-is = rw (text-is, number-own) f.origin.reads

  settled_is : (n : ℕ) → declared_in (settled_in (described slot i m h)) n ≡ declares h n
  settled_is n =
      let l = named-long in
      let k = settled_limit - length (settled_bytes h) in
      let e : settled_limit ≡ length (settled_bytes h) + (settled_limit - length (settled_bytes h)) = omega arith in
      let r = drop (settled_place + length (settled_bytes h)) (named slot i m) in
      let whole : settled_in (described slot i m h) ≡ settled_bytes h ++ take (settled_limit - length (settled_bytes h)) (drop (settled_place + length (settled_bytes h)) (named slot i m)) =
      ap (take settled_limit) (past-put (named slot i m) (settled_bytes h) settled_place (omega arith))
      ∙ (ap (λ (j : ℕ). take j (settled_bytes h ++ drop (settled_place + length (settled_bytes h)) (named slot i m))) e ∙ take-append-add (settled_bytes h) r k) in
      ap (λ (d : List ℕ). declared_in d n) whole ∙ settled_says h (take k r) n

  pub described-document : (s : ℕ) → s ≡ i.serial → document_in s (described slot i m h) ≡ record { identity = i; inherited = m; declared = declared_by h }
  described-document s e =
      let declared : values_from (declared_in (settled_in (described slot i m h))) 0 feature_count ≡ declared_by h = values_same (declared_in (settled_in (described slot i m h))) (declares h) 0 feature_count (λ n a b. settled_is n) ∙ sym (declared-by h) in
      let above : numbers_in (above_bytes (described slot i m h)) ≡ i.above = ap numbers_in above-is ∙ f.listed in
      let boxed : is_sandboxed_in (described slot i m h) ≡ i.sandboxed = ap (λ (x : ℕ). not (eqb x 0)) mark-is ∙ mark-back i.sandboxed in
      document-parts s (described slot i m h) ∙ rw (e, declared, above, boxed, origin-is, inherited-is) refl

-- ---- the decisions, in front of all that

module _ (s t : List ℕ) (x y : ℕ) (e : t ≡ with_text s everywhere_place (number_bytes (x ∷ y ∷ []))) where
  eight : length (number_bytes (x ∷ y ∷ [])) ≡ 8
  eight = number-bytes-long (x ∷ y ∷ [])

  number_past : (q : ℕ) → 8 ≤ q → number_at t q ≡ number_at s q
  number_past q h = ap (λ (l : List ℕ). number_at l q) e ∙ (let n = eight in number-above s (number_bytes (x ∷ y ∷ [])) everywhere_place q (omega arith))

  part-past : (q n : ℕ) → 8 ≤ q → bytes_at t q n ≡ bytes_at s q n
  part-past q n h = ap (λ (l : List ℕ). bytes_at l q n) e ∙ (let k = eight in part-above (number_bytes (x ∷ y ∷ [])) s everywhere_place q n (omega arith))

  above-past : above_bytes t ≡ above_bytes s
  above-past = ap (λ (k : ℕ). bytes_at t above_place (4 * k)) (number_past depth_place (omega arith)) ∙ part-past above_place (4 * depth_in s) (omega arith)

  text-past : own_text t ≡ own_text s
  text-past = ap (bytes_at t own_text_place) (number_past own_length_place (omega arith)) ∙ part-past own_text_place (own_length s) (omega arith)

  document-past : (n : ℕ) → document_in n t ≡ document_in n s
  document-past n =
      document-parts n t
      ∙ (rw (above-past, text-past, number_past opaque_place (omega arith), number_past sandboxed_place (omega arith), number_past inherited_place (omega arith), part-past settled_place settled_limit (omega arith)) (sym (document-parts n s)))

-- ---- the whole

module _ (slot : List ℕ) (i : Identity) (m : ℕ) (h : Text) (long : slot_bytes ≤ length slot) (f : Fitting i m) (short : length (settled_bytes h) ≤ settled_limit) (t : List ℕ) (is : t ≡ with_decisions (described slot i m h)) (few : length i.above < document_limit) where
  whole : document_in i.serial (described slot i m h) ≡ record { identity = i; inherited = m; declared = declared_by h }
  whole = described-document slot i m h long f short i.serial refl

  policy-is : slot_policy (described slot i m h) ≡ policy_of (record { identity = i; inherited = m; declared = declared_by h })
  policy-is = sym (document-policy i.serial (described slot i m h)) ∙ ap policy_of whole

  after-long : length t ≡ length slot
  after-long = ap length is ∙ (put-long (described slot i m h) everywhere_place (number_bytes (decisions_of (slot_policy (described slot i m h)))) ∙ described-long slot i m h long f short)

  past : (n : ℕ) → document_in n t ≡ document_in n (described slot i m h)
  past n = document-past (described slot i m h) t (mask_of (λ k. question_in (slot_policy (described slot i m h)) k fresh)) (enabled_mask (slot_policy (described slot i m h))) is n

  policy-past : slot_policy t ≡ slot_policy (described slot i m h)
  policy-past = ap policy_of (past 0)

  number-first : (k : ℕ) → k < 2 → get_or (decisions_of (slot_policy (described slot i m h))) k 0 < 2 ^ 32 → number_at t (everywhere_place + 4 * k) ≡ get_or (decisions_of (slot_policy (described slot i m h))) k 0
  number-first k lt small =
      let l = described-long slot i m h long f short in
      ap (λ (x : List ℕ). number_at x (everywhere_place + 4 * k)) is ∙ number-of (decisions_of (slot_policy (described slot i m h))) (described slot i m h) everywhere_place k (omega arith) (omega arith) small

  pub is-written : Written slot i m h t
  unfolding written
  is-written =
      let x = mask_of (λ n. question_in (slot_policy (described slot i m h)) n fresh) in
      let y = enabled_mask (slot_policy (described slot i m h)) in
      let mask-small : mask_of (λ n. question_in (slot_policy (described slot i m h)) n fresh) < 2 ^ 32 = let b = mask-below (λ n. question_in (slot_policy (described slot i m h)) n fresh) in omega arith in
      let enabled-small : enabled_mask (slot_policy (described slot i m h)) < 2 ^ 32 = rw (enabled-parts (slot_policy (described slot i m h))) (let b = mask-below (λ n. question_in (slot_policy (described slot i m h)) n (slot_policy (described slot i m h)).own) in omega arith) in
      let d = described slot i m h in
      let depth = number_past d t x y is depth_place (omega arith) ∙ depth_is slot i m h long f short in
      let size = number_past d t x y is own_length_place (omega arith) ∙ length-own slot i m h long f short in
      let above : above_bytes t ≡ number_bytes i.above = above-past d t x y is ∙ above-is slot i m h long f short in
      let text : own_text t ≡ origin_bytes_of i.origin = text-past d t x y is ∙ text-is slot i m h long f short in
      let number : own_number t ≡ origin_number i.origin = number_past d t x y is opaque_place (omega arith) ∙ number-own slot i m h long f short in
      let origin : own_origin t ≡ i.origin = rw (text, number) f.origin.reads in
      let l = after-long in
      let fd = f.depth in
      let ft = f.origin.text in
      record {
        is = is ∙ ap (λ (q : Policy). with_text (described slot i m h) everywhere_place (number_bytes (decisions_of q))) policy-is;
        long = after-long;
        good =
            record {
              kept = record { long = omega arith; text = omega (arith, size); depth = omega (arith, depth) };
              shallow = omega (arith, depth);
              everywhere = number-first 0 (omega arith) mask-small ∙ ap (λ (q : Policy). mask_of (λ n. question_in q n fresh)) (sym policy-past);
              enabled = number-first 1 (omega arith) enabled-small ∙ ap enabled_mask (sym policy-past);
              above = above ∙ ap number_bytes (sym (ap numbers_in above ∙ f.listed));
              own = text ∙ ap origin_bytes_of (sym origin);
              number = number ∙ ap origin_number (sym origin);
            };
        says = past i.serial ∙ whole;
      }

-- ---- by the code's values

module _ (slot s1 s2 h : List ℕ) (d : NewDocument) (r : Bool) (long : slot_bytes ≤ length slot) (fits : Fits d) (e1 : s1 ≡ front_put slot d) (e2 : PutsHeader s1 h s2 r) where
  one-long : length (with_text slot depth_place (number_bytes (numbers_of d))) ≡ length slot
  one-long = put-long slot depth_place (number_bytes (numbers_of d))

  raw-number : (k : ℕ) → k < 5 → get_or (numbers_of d) k 0 < 2 ^ 32 → number_at s2 (depth_place + 4 * k) ≡ get_or (numbers_of d) k 0
  raw-number k lt small =
      let a = with_text slot depth_place (number_bytes (numbers_of d)) in
      let b = with_text (with_text slot depth_place (number_bytes (numbers_of d))) above_place (take (4 * d.depth) d.above) in
      ap (λ (l : List ℕ). number_at l (depth_place + 4 * k)) (e2.is ∙ ap (λ (l : List ℕ). with_text l settled_place (header_bytes h)) e1)
      ∙ (number-below (front_put slot d) (header_bytes h) settled_place (depth_place + 4 * k) (omega arith)
      ∙ (number-below b (take d.length d.text) own_text_place (depth_place + 4 * k) (omega arith)
      ∙ (number-below a (take (4 * d.depth) d.above) above_place (depth_place + 4 * k) (omega arith)
      ∙ number-of (numbers_of d) slot depth_place k (omega arith) (omega arith) small)))

  two-long : length s2 ≡ length slot
  two-long =
      let a = with_text slot depth_place (number_bytes (numbers_of d)) in
      let b = with_text (with_text slot depth_place (number_bytes (numbers_of d))) above_place (take (4 * d.depth) d.above) in
      ap length e2.is ∙ (put-long s1 settled_place (header_bytes h) ∙ (ap length e1 ∙ (put-long b own_text_place (take d.length d.text) ∙ (put-long a above_place (take (4 * d.depth) d.above) ∙ one-long))))

  pub raw-kept : Kept s2
  raw-kept =
      let a = fits.depth in
      let b = fits.text in
      let l = two-long in
      record {
        long = omega arith;
        text = let x : own_length s2 ≡ d.length = raw-number 3 (omega arith) (omega arith) in omega arith;
        depth = let x : depth_in s2 ≡ d.depth = raw-number 0 (omega arith) (omega arith) in omega arith;
      }

  module _ (s3 : List ℕ) (e3 : s3 ≡ with_decisions s2) where
    raw-described : (i : Identity) (m : ℕ) → IsNewDocument i m d → length h ≤ text_bytes → s2 ≡ described slot i m h
    raw-described i m n le =
        let numbers : numbers_of d ≡ five i m = rw (n.depth, n.inherited, n.origin.number, n.text, n.sandboxed) refl in
        (e2.is ∙ ap (with_text s1 settled_place) (header_is h le).0)
        ∙ ap (λ (l : List ℕ). with_text l settled_place (settled_bytes h))
        (e1 ∙ (rw (numbers, n.above, n.origin.bytes) refl ∙ ap (λ (l : List ℕ). with_text l own_text_place (origin_bytes_of i.origin)) (joined slot i m)))

    fitting : (i : Identity) (m : ℕ) → IsNewDocument i m d → Fitting i m
    fitting i m n =
        let a = fits.depth in
        let b = fits.text in
        record {
          depth = omega (arith, n.depth);
          listed = n.listed;
          origin =
              record {
                text = omega (arith, n.text);
                reads = rw (← n.origin.bytes, ← n.origin.number) n.origin.reads;
                number = rw (← n.origin.number) n.small;
              };
          bits = n.bits;
        }

    pub writes-is : Writes slot d h s3 r
    writes-is =
        record {
          is = e3 ∙ ap with_decisions (e2.is ∙ ap (λ (l : List ℕ). with_text l settled_place (header_bytes h)) e1);
          says = λ i m n few le. is-written slot i m h long (fitting i m n) (rw (header_is h le).0 at e2.short) s3 (e3 ∙ ap with_decisions (raw-described i m n le)) few;
          long = ap length e3 ∙ (put-long s2 everywhere_place (number_bytes (decisions_of (slot_policy s2))) ∙ two-long);
          malformed = e2.malformed;
        }
